use Rattle.clause_circuits.proofs.Composed.{Extends-refl}
use Rattle.clause_formulas.proofs.asked.by_cover.Goals as goal

pub returns-in-empty-clause-extends : goal.returns-in-empty-clause-extends
returns-in-empty-clause-extends c = Extends-refl c.args.clauses.now

pub returns-in-len1-clause-extends : goal.returns-in-len1-clause-extends
returns-in-len1-clause-extends c = Extends-refl c.args.clauses.now
