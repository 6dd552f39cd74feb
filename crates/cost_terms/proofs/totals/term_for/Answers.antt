use Rattle.clause_circuits.proofs.Composed.{Extends-refl}
use Rattle.cost_terms.proofs.totals.term_for.Goals as goal

pub returns-in-Known-false-clause-extends : goal.returns-in-Known-false-clause-extends
returns-in-Known-false-clause-extends c = Extends-refl c.args.clauses.now
