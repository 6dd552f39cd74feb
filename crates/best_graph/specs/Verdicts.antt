-- What logs over the encoding of a problem show.
use Rattle.std.specs.Prelude.{◌≡◌, ℕ, Bool, true, List, [], Some}
use Rattle.clause_store.specs.Clauses.{clauses_of}
use Rattle.criteria_totals.specs.Spellings.{bits_for}
use Rattle.proof_log.specs.declared.line.Line.{Line}
use Rattle.proof_log.specs.Known.{AllClauses}
use Rattle.proof_log.specs.Certificates.{bits_at, IsBelow, IsCertificate, IsRefutation}
use Rattle.optimum_search.specs.Finding.{MeetsAll}
use Rattle.graph_core.specs.Graphs.{Content}
use Rattle.problem.specs.Problems.{Problem}
use Rattle.problem.specs.Nodes.{IsWellFormed}
use Rattle.graph_rules.specs.Valid.{valid}
use Rattle.graph_rules.specs.Costs.{vector}
use Rattle.graph_rules.specs.Optimal.{IsOptimal, HasNoGraph}
use Rattle.graph_decoding.specs.Decoding.{decode}
use Rattle.problem_encoding.specs.declared.encoded.Encoded.{Encoded}
use Rattle.problem_encoding.specs.Encodings.{IsEncoded, RulesDecode}
use Rattle.problem_encoding.specs.Built.{encoding_of, rule_clauses}
use Rattle.best_graph.specs.declared.answer.Answer.TheVariants.{Best, Nothing}
use Rattle.best_graph.specs.Answers.{IsAnswer}

-- these values of the bits spell the cost vector of a graph
abbrev pub SpellsCost : Problem → Encoded → Content → List Bool → Type 0
SpellsCost problem e graph values = bits_for e.bits.tops (vector problem graph) ≡ Some values

-- a log is a certificate of some values of the bits, over the clauses of an encoding
abbrev pub Certifies : Encoded → List Bool → List Line → Type 0
Certifies e values log = IsCertificate e.clauses.vars (clauses_of e.clauses.entries) e.bits.lits values log

-- a log is a refutation of the rules of a problem
abbrev pub Refutes : Problem → List Line → Type 0
Refutes problem log = let rules = rule_clauses problem in IsRefutation rules.vars (clauses_of rules.entries) [] log

-- where values spell the costs of a graph, each model that decodes to it has them at the bits
abbrev pub ValuesAreAModels : Type 0
ValuesAreAModels = (problem : Problem) (e : Encoded) (graph : Content) (values : List Bool) (v : ℕ → Bool) → IsEncoded problem e
    → MeetsAll v e.clauses → decode v e.table ≡ graph → SpellsCost problem e graph values → bits_at v e.bits.lits ≡ values

-- a valid graph is optimal where no model has bits below those that spell its costs
abbrev pub LeastIsOptimal : Type 0
LeastIsOptimal = (problem : Problem) (e : Encoded) (graph : Content) (values : List Bool) → IsEncoded problem e → IsWellFormed graph
    → valid problem graph ≡ true → SpellsCost problem e graph values
    → ((v : ℕ → Bool) → MeetsAll v e.clauses → IsBelow (bits_at v e.bits.lits) values → ⊥) → IsOptimal problem graph

-- where the clauses of the rules have no model, no graph is valid
abbrev pub NoModelNoGraph : Type 0
NoModelNoGraph = (problem : Problem) → RulesDecode problem → ((v : ℕ → Bool) → MeetsAll v (rule_clauses problem) → ⊥) → HasNoGraph problem

-- so a valid graph whose costs a certificate certifies is optimal
abbrev pub CertifiedIsOptimal : Type 0
CertifiedIsOptimal = (problem : Problem) (e : Encoded) (graph : Content) (values : List Bool) (log : List Line) → IsEncoded problem e
    → AllClauses (clauses_of e.clauses.entries) → IsWellFormed graph → valid problem graph ≡ true → SpellsCost problem e graph values
    → Certifies e values log → IsOptimal problem graph

-- and where a log refutes the rules, no graph is valid
abbrev pub RefutedHasNoGraph : Type 0
RefutedHasNoGraph = (problem : Problem) (log : List Line) → RulesDecode problem → AllClauses (clauses_of (rule_clauses problem).entries)
    → Refutes problem log → HasNoGraph problem

-- the log of an answer certifies the cost of its graph, over the encoding of the problem
abbrev pub BestIsCertified : Type 0
BestIsCertified = (problem : Problem) (budget : ℕ) (graph : Content) (log : List Line) → IsAnswer problem budget (Best graph log)
    → (values : List Bool) × SpellsCost problem (encoding_of problem) graph values × Certifies (encoding_of problem) values log

-- and where it says that there is none, refutes the rules
abbrev pub NothingIsRefuted : Type 0
NothingIsRefuted = (problem : Problem) (budget : ℕ) (log : List Line) → IsAnswer problem budget (Nothing log) → Refutes problem log
