-- What the scribe says: the formula of a rule or of a fact, over its table.
use Rattle.std.specs.Prelude.{◌≡◌}
use Rattle.clause_formulas.specs.Statements.{Statement}
use Rattle.clause_formulas.specs.Rules.{Proposition}
use Rattle.graph_core.specs.Graphs.{Text}
use Rattle.graph_formulas.specs.Facts.{Fact, GraphWord}
use Rattle.word_formulas.specs.Builders.{node_said, plain_said}
use Rattle.word_formulas.specs.declared.scribe.Scribe.{Scribe}

-- the formula is that of the rule, which speaks of no path
abbrev pub says : Scribe → Proposition GraphWord → Statement → Type 0
says s rule = λ formula. formula ≡ plain_said s.table.now rule

-- the formula is that of the fact of the node of a name
abbrev pub says_of : Scribe → Text → Fact → Statement → Type 0
says_of s name fact = λ formula. formula ≡ node_said s.table.now name fact
