use Rattle.std.proofs.Common.{◌≡◌, drop}
use Rattle.run_output.specs.Each.{outcome_of_all}
use Rattle.run_output.proofs.each_put.outcome_of_all.Given as goal

abbrev pub invariant-loop-answer : goal.invariant-loop-answer
invariant-loop-answer l = outcome_of_all (drop l.answer-index l.answers) ≡ outcome_of_all l.answers
