use Rattle.clause_formulas.proofs.GateLaws.{Keeps-refl}
use Rattle.clause_formulas.proofs.spread.by_clause.Goals as goal

pub returns-in-empty-clause-keeps : goal.returns-in-empty-clause-keeps
returns-in-empty-clause-keeps c = Keeps-refl _ c.requires.gates_below

pub returns-in-len1-clause-keeps : goal.returns-in-len1-clause-keeps
returns-in-len1-clause-keeps c = Keeps-refl _ c.requires.gates_below
