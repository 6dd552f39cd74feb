use Rattle.clause_formulas.proofs.few.+push_halved.Given as goal

abbrev pub decreases-push_halved : goal.decreases-push_halved
decreases-push_halved l = l.times
