use Rattle.std.proofs.Common.{◌≡◌}
use Rattle.run_output.specs.Each.{log_of_all}
use Rattle.run_output.proofs.each_put.log_of_all.Given as goal

abbrev pub invariant-loop-answer : goal.invariant-loop-answer
invariant-loop-answer l = log_of_all l.answer-iterator.rest.items ≡ log_of_all l.fn.answers.items
