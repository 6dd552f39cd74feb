-- The check of each root says yes to what was written of each.
use Rattle.std.proofs.Common.{◌≡◌, refl, sym, ℕ, ◌+◌, List, [], ◌∷◌}
use Rattle.std.specs.Prelude.{Ok, Some}
use Rattle.outside_desk.specs.Files.{Files}
use Rattle.problem.specs.Problems.{Problem}
use Rattle.best_graph.specs.declared.answer.Answer.{Answer}
use Rattle.best_graph.specs.declared.answer.Answer.TheVariants.{Best, Nothing, Undecided}
use Rattle.graph_rules.specs.Costs.{vector}
use Rattle.run_task.specs.Again.{AreWritten, BestIsAccepted, EachIsAccepted}
use Rattle.run_task.specs.Certificates.{log_verdict}
use Rattle.run_task.specs.Places.{cert_at, lock_at}
use Rattle.run_task.specs.Tasks.{ChecksOf}
use Rattle.run_task.specs.declared.task.Task.TheVariants as tasks

-- what `each` wrote is accepted by `check_each`, if so it is of one root
pub each_accepted : BestIsAccepted → EachIsAccepted
each_accepted best files dir budget root [] [] written = refl
each_accepted best files dir budget root [] (answer ∷ found) written = absurd written
each_accepted best files dir budget root (problem ∷ more) [] written = absurd written
each_accepted best files dir budget root (problem ∷ more) (Best graph log ∷ found) (one, others) = (
  tasks.Accepted,
  (
    vector problem graph,
    one.judged,
    (tt, sym (best problem budget graph log one.answer one.kept files (cert_at dir root) one.holds), refl),
  ),
  each_accepted best files dir budget (root + 1) more found others,
)
each_accepted best files dir budget root (problem ∷ more) (Nothing log ∷ found) written = absurd written
each_accepted best files dir budget root (problem ∷ more) (Undecided log ∷ found) written = absurd written
