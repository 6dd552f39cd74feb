use Rattle.clause_formulas.proofs.ValueLaws.{or-built}
use Rattle.clause_formulas.proofs.gates.or.Goals as goal

pub returns-clause-built : goal.returns-clause-built
returns-clause-built c = or-built c.args.clauses.now _ c.args.lits.now _ c.in_ok-lit.ensures.lit c.in_ok-lit.ensures.built
