-- What the clauses of a problem and their bits say.
use Rattle.std.specs.Prelude.{◌≡◌, ℕ, Bool, true, List, Some}
use Rattle.clause_store.specs.declared.Lit.{Lit}
use Rattle.clause_store.specs.Lits.{AllBelow}
use Rattle.clause_store.specs.Clauses.{Clauses}
use Rattle.criteria_totals.specs.Spellings.{bits_for}
use Rattle.criteria_totals.specs.Totals.{Spelling, values_at}
use Rattle.graph_core.specs.Graphs.{Content}
use Rattle.problem.specs.Problems.{Problem}
use Rattle.graph_rules.specs.Costs.{vector}
use Rattle.optimum_search.specs.Finding.{MeetsAll}
use Rattle.graph_levels.specs.Stages.{Decodes}
use Rattle.problem_formulas.specs.OfGraphDecoding.Decoding.{decode, IsStructured}
use Rattle.problem_formulas.specs.OfGraphEncoding.Encodings.{IsValid}
use Rattle.problem_formulas.specs.OfGraphEncoding.Best.{RanksGraphs}
use Rattle.problem_formulas.specs.OfGraphEncoding.ProblemClauses.{ProblemClauses}
use Rattle.literal_table.specs.Tables.{Table}
use Rattle.problem.specs.Closure.{IsClosure}
use Rattle.possible_closure.specs.Closures.{closure_of}
use Rattle.ranked_costs.specs.OfTablePlan.Kept.{have_values}
use Rattle.problem_encoding.specs.Built.{table_of, rule_clauses, rule_values}
use Rattle.problem_encoding.specs.declared.encoded.Encoded.{Encoded}
use Rattle.problem_encoding.specs.declared.encoded.Rules.{Rules}

-- models of the clauses decode to just the valid graphs, and their bits compare as the graphs' cost
-- vectors
abbrev pub Encodes : Problem → Clauses → List Lit → ((ℕ → Bool) → Content) → Type 0
Encodes problem clauses bits decode = RanksGraphs clauses decode (IsValid problem) bits (vector problem)

-- the bits are over the variables of the clauses, which encode the problem over the table; each
-- model has a graph, whose cost vector its bits spell
pub record AreCosted (problem : Problem) (table : Table) (clauses : Clauses) (bits : Spelling) : Type 0 where
  pub encodes : Encodes problem clauses bits.lits (λ v. decode v table)
  pub in_range : AllBelow clauses.vars bits.lits
  pub structured : (v : ℕ → Bool) → MeetsAll v clauses → IsStructured v table
  pub spells : (v : ℕ → Bool) → MeetsAll v clauses → bits_for bits.tops (vector problem (decode v table)) ≡ Some (values_at v bits.lits)

-- an encoding of the problem
abbrev pub IsEncoded : Problem → Encoded → Type 0
IsEncoded problem encoded = AreCosted problem encoded.table encoded.clauses encoded.bits

-- the clauses of the rules of a problem over its table
pub record IsRuled (problem : Problem) (table : Table) (made : ProblemClauses) : Type 0 where
  pub closure : IsClosure problem (closure_of problem)
  pub has : have_values problem (closure_of problem) ≡ true
  pub is_table : table ≡ table_of problem
  pub clauses : made.list ≡ rule_clauses problem
  pub values : made.values ≡ rule_values problem

abbrev pub AreRules : Problem → Rules → Type 0
AreRules problem rules = IsRuled problem rules.table (record { list = rules.clauses; values = rules.values })

-- their models decode to just the valid graphs, for each set of demands
abbrev pub RulesDecode : Problem → Type 0
RulesDecode problem = Decodes (rule_clauses problem) (λ v. decode v (table_of problem)) (IsValid problem)
