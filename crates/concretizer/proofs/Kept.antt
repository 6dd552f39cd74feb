-- Which files any end of a run keeps.
use Rattle.std.proofs.Common.{◌≡◌, ◌∙◌, ap, refl, sym, subst, ℕ, List, Option, Some, None, Ok, inl, inr}
use Rattle.std.specs.Prelude.{IfSome}
use Rattle.outside_desk.specs.Files.{Files}
use Rattle.run_output.specs.Certificates.{log_verdict}
use Rattle.run_output.specs.Changes.{IsNotOf, IsOther}
use Rattle.run_output.specs.Evidence.{evidence}
use Rattle.run_output.specs.Task.{Task}
use Rattle.run_output.specs.Task.TheVariants as tasks
use Rattle.run_output.specs.Tasks.{HasRoots, IsOf, Poses}
use Rattle.run_output.specs.Words.{Command, cert_of_command, command_of, lock_of_command, lock_path, cert_path}
use Rattle.run_output.specs.Work.{Work}
use Rattle.run_output.specs.Answers.{KeepsWhole}
use Rattle.run_output.specs.Changes as by_task
use Rattle.run_output.specs.Work.TheVariants as works
use Rattle.run_output.proofs.Changes.{keeps}
use Rattle.run_output.proofs.Posed.{posed_of, posed_roots}
use Rattle.concretizer.proofs.Left.{by_paths, is_concretize, is_each}
use Rattle.concretizer.specs.Asked.{ChangesOnly, IsPutBy, IsPutPath}
use Rattle.concretizer.specs.Headline.{Keeps}

-- a path at which the words put no file is none of the task's
not_of : (words : List (List ℕ)) (command : Command) (task : Task) (path : List ℕ) → command_of words ≡ Some command
    → IsOf command.work task → HasRoots command.spec task → ¬ IsPutPath words path → IsNotOf command.lock command.cert task path
not_of words command (tasks.Solve input) path named of roots other =
    let same = is_concretize command.work input of in
    let puts = λ (put : IsPutBy works.Concretize command path). other (record {
      command = command;
      named = named;
      put = subst (λ (w : Work). IsPutBy w command path) (sym same) put;
    }) in
    record { no_lock = λ is. puts (inl is); no_cert = λ dash is. puts (inr (is, dash)) }
not_of words command (tasks.Each input) path named of roots other = λ inside.
    other (record {
      command = command;
      named = named;
      put = subst (λ (w : Work). IsPutBy w command path) (sym (is_each command.work input of))
          (record { roots = input.problem.roots; read = roots; inside = inside });
    })
not_of words command task path named of roots other = tt

-- so what the task leaves as it was the words do
fewer : (words : List (List ℕ)) (command : Command) (task : Task) (files : Files) (after : Option Files) → command_of words ≡ Some command
    → IsOf command.work task → HasRoots command.spec task → by_task.ChangesOnly command.lock command.cert task files after
    → ChangesOnly words files after
fewer words command task files None named of roots kept = absurd kept
fewer words command task files (Some later) named of roots kept =
    λ path other. kept path (not_of words command task path named of roots other)

here : (words : List (List ℕ)) (files : Files) (after : Option Files) → Keeps evidence files words after → ChangesOnly words files after
here words files after (inl same) = subst (λ (m : Option Files). ChangesOnly words files m) (sym same) (λ path other. refl)
here words files after (inr put) =
    let (command, named, posed) = put.read in
    let of = posed_of files command put.task posed in
    let roots = posed_roots files command put.task posed in
    let kept = by_paths (λ l c. KeepsWhole evidence l c put.task (Some files) after) (lock_path words) (cert_path words)
    command.lock command.cert
    (ap lock_of_command named) (ap cert_of_command named) put.held in
    fewer words command put.task files after named of roots (keeps command.lock command.cert put.task (Some files) after (inr kept))

-- no file but those that the words put changes
pub others : (words : List (List ℕ)) (before after : Option Files) → IfSome before (λ files. Keeps evidence files words after)
    → IfSome before (λ files. ChangesOnly words files after)
others words None after kept = tt
others words (Some files) after kept = here words files after kept
