use Rattle.clause_formulas.proofs.AskLaws.{cover-built}
use Rattle.clause_formulas.proofs.asked.cover.Goals as goal

pub returns-clause-built : goal.returns-clause-built
returns-clause-built c = cover-built c.args.clauses.now _ c.args.lits.now _ c.in_ok-lit.ensures.lit c.in_ok-lit.ensures.built
