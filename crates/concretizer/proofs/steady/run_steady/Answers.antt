use Rattle.std.proofs.Common.{arith, ◌≡◌, Option, Some}
use Rattle.outside_desk.specs.Causes.{Rose}
use Rattle.concretizer.proofs.steady.run_steady.Goals as goal

some_same : {A : Type 0} (x y : A) → (let T : Type 0 = Option A in let a : T = Some x in let b : T = Some y in a ≡ b) → x ≡ y
some_same x y e = cc

still : ¬ Rose 0 0
still rose = omega (arith, rose)

pub returns-clause-complete : goal.returns-clause-complete
returns-clause-complete g c = λ task poses. c.run.ensures.complete task poses still still still still

pub returns-clause-due : goal.returns-clause-due
returns-clause-due g c = λ refusal poses. c.run.ensures.due refusal poses still still still still

pub returns-clause-words : goal.returns-clause-words
returns-clause-words g c = λ none. let all = c.run.ensures.words none in (some_same _ _ all.0, all.1, all.5)
