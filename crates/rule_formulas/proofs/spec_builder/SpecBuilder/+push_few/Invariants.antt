use Rattle.rule_formulas.proofs.spec_builder.SpecBuilder.+push_few.Given as goal

abbrev pub decreases-push_few : goal.decreases-push_few
decreases-push_few l = l.times
