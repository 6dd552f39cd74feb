-- The rule of providers by directives that name several virtuals speaks of no path.
use Rattle.std.proofs.Common.{◌≡◌, ap, not, None, filter}
use Rattle.std.specs.Prelude.{◌==◌}
use Rattle.std.specs.Str.{bytes_eq}
use Rattle.clause_formulas.specs.Statements.{Statement, implication_of}
use Rattle.clause_formulas.specs.Rules.{in_words, fact, if_so}
use Rattle.recipe_data.specs.OfSpecGrammar.Condition.{Condition}
use Rattle.recipe_data.specs.declared.recipe.ProvideRow.{ProvideRow}
use Rattle.graph_core.specs.Graphs.{Text}
use Rattle.literal_table.specs.Tables.{Table}
use Rattle.problem.specs.Problems.{Problem, world_of, provides_at}
use Rattle.graph_formulas.specs.Facts.{word_said, provides_as}
use Rattle.graph_formulas.specs.Lists.{settled_test, each_keeps}
use Rattle.graph_formulas.specs.Words.{names_for}
use Rattle.graph_formulas.specs.Terms.{Term, known, term_said, known_rule}
use Rattle.graph_formulas.specs.Edges.{of_provider}
use Rattle.graph_formulas.specs.Together.{no_other_rule, each_name_rule, by_row_rule, together_rule}
use Rattle.word_formulas.specs.Builders.{no_paths}
use Rattle.word_formulas.proofs.PathFree.{each-agree, given-agree, row-agree, unless-agree}
use Rattle.word_formulas.proofs.Steps.{implies-same}
use Rattle.rule_formulas.specs.Terms.{no_conditions}

module _ (path : Text → Text → Statement) (condition : Text → Condition → Statement) (table : Table) (problem : Problem) where
  abbrev own : Term → Statement
  own = term_said path condition table

  abbrev plain : Term → Statement
  plain = term_said no_paths no_conditions table

  no_other-agree : (name virtual : Text) → in_words own (no_other_rule (names_for table) name virtual)
      ≡ in_words plain (no_other_rule (names_for table) name virtual)
  no_other-agree name virtual =
      each-agree own plain (λ q. if_so (known_rule (fact (provides_as virtual q))) (known_rule (settled_test (bytes_eq q name))))
      (λ q. ap (λ s. implication_of (own (known (fact (provides_as virtual q)))) s)
      (given-agree (word_said path table) (word_said no_paths table) (bytes_eq q name))) (names_for table virtual)

  each_name-agree : (name : Text) (row : ProvideRow) → in_words own (each_name_rule problem (names_for table) name row)
      ≡ in_words plain (each_name_rule problem (names_for table) name row)
  each_name-agree name row =
      each-agree own plain (λ other. no_other_rule (names_for table) name other.name) (λ other. no_other-agree name other.name)
      (filter (λ other. other.number == row.number) (provides_at problem name))

  by_row-agree : (p : Text × Text) (row : ProvideRow) → in_words own (by_row_rule problem (names_for table) p row)
      ≡ in_words plain (by_row_rule problem (names_for table) p row)
  by_row-agree p row = implies-same _ _ _ _ (row-agree path table (world_of problem) p.1 p.0 None row) (each_name-agree p.1 row)

  rule-agree : (p : Text × Text) → in_words own (together_rule problem (names_for table) p)
      ≡ in_words plain (together_rule problem (names_for table) p)
  rule-agree p =
      let rows = filter (λ row. bytes_eq row.name p.0) (provides_at problem p.1) in
      unless-agree own plain (not problem.settings.provided_together) (each_keeps (by_row_rule problem (names_for table) p) rows)
      (each-agree own plain (by_row_rule problem (names_for table) p) (by_row-agree p) rows)

  -- of all providers of a virtual
  pub together-agree : (virtual : Text)
      → in_words own (of_provider (names_for table) (together_rule problem (names_for table)) virtual)
      ≡ in_words plain (of_provider (names_for table) (together_rule problem (names_for table)) virtual)
  together-agree virtual =
      each-agree own plain (λ p. if_so (known_rule (fact (provides_as virtual p))) (together_rule problem (names_for table) (virtual, p)))
      (λ p. ap (λ s. implication_of (own (known (fact (provides_as virtual p)))) s) (rule-agree (virtual, p))) (names_for table virtual)
