-- What a writing that stopped leaves of a whole attempt.
use Rattle.std.proofs.Common.{◌≡◌, refl, sym, ap, subst, ◌∙◌, false, ℕ, ◌+◌, ◌⊎◌, ⊎_elim, arith, length, [], ◌∷◌, List, Option, Some, None, Result, Ok, Err, inl, inr}
use Rattle.std.proofs.lemmas.List.{length-map}
use Rattle.std.specs.Result.{IsErrAnd}
use Rattle.std.specs.Prelude.{IfSome}
use Rattle.outside_desk.specs.Files.{Files}
use Rattle.run_output.specs.Answer.{Answer}
use Rattle.run_output.specs.Answers.{KeepsWhole, Writes}
use Rattle.run_output.specs.Put.{IsHalfPut, files_with}
use Rattle.run_output.specs.Certificates.{log_verdict}
use Rattle.run_output.specs.Evidence.{evidence}
use Rattle.run_output.specs.declared.answer.Outcome.{Outcome}
use Rattle.run_output.specs.Input.{Input}
use Rattle.run_output.specs.Stops.{Gives}
use Rattle.run_output.specs.Stop.{Stop}
use Rattle.run_output.specs.Stop.TheVariants.{Write}
use Rattle.run_output.specs.Task.{Task}
use Rattle.run_output.specs.Task.TheVariants as tasks
use Rattle.run_output.specs.Tasks.{HasRoots, Named, IsOf}
use Rattle.run_output.specs.Problems.{Problem, alone, each_alone}
use Rattle.run_output.specs.Each.{IsHalfFrom}
use Rattle.run_output.specs.Places.{IsOfRoots, cert_at, lock_at}
use Rattle.run_output.specs.Words.{Command, cert_of_command, command_of, is_dash_path, lock_of_command, lock_path, cert_path}
use Rattle.run_output.specs.Work.{Work}
use Rattle.run_output.specs.Work.TheVariants as works
use Rattle.run_output.specs.WriteStop.{WriteStop}
use Rattle.run_output.specs.WriteStop.TheVariants.{Put, Output, NoMemory}
use Rattle.concretizer.specs.Asked.{IsAsked, IsPutBy, IsPutPath, PutsFiles}
use Rattle.concretizer.specs.Attempts.{Attempts, Follows, StopsBefore}
use Rattle.concretizer.specs.Headline.{Keeps}

-- the stop that was handed on
pub write_carried : (stop : WriteStop) (result : Result Outcome Stop) → IsErrAnd result (λ given. given ≡ Write stop)
    → result ≡ Err (Write stop)
write_carried stop (Ok outcome) h = absurd h
write_carried stop (Err given) h = ap Err h

-- the same, by paths that are those of the words
pub by_paths : (A : List ℕ → List ℕ → Type 0) (lock cert lock_of cert_of : List ℕ) → lock ≡ lock_of → cert ≡ cert_of → A lock cert
    → A lock_of cert_of
by_paths A lock cert lock_of cert_of at certified left =
    subst (λ (q : List ℕ). A q cert_of) at (subst (λ (q : List ℕ). A lock q) certified left)

-- a writing that stopped, of a task that was read
pub stopped : (words : List (List ℕ)) (command : Command) (lock cert : List ℕ) (task : Task) (stop : WriteStop)
    (result : Result Outcome Stop) (before between after : Option Files) (said_before said_after : Option (List ℕ))
    → IsErrAnd result (λ given. given ≡ Write stop) → command_of words ≡ Some command
    → IfSome before (λ files. Gives {T = Task} (Ok task) (Named log_verdict files command)) → between ≡ before
    → lock ≡ lock_path words → cert ≡ cert_path words → Writes evidence lock cert task between after said_before said_after (Err stop)
    → IfSome before (λ files. Attempts evidence files words after said_before said_after result)
stopped words command lock cert task stop result None between after said_before said_after is ordered read same at certified left = tt
stopped words command lock cert task stop result (Some files) between after said_before said_after is ordered read same at certified left =
    rw (write_carried stop result is) (record {
      task = task;
      read = (command, ordered, read);
      left = by_paths (λ l c. Writes evidence l c task (Some files) after said_before said_after (Err stop)) lock cert (lock_path words)
          (cert_path words) at certified
          (subst (λ (m : Option Files). Writes evidence lock cert task m after said_before said_after (Err stop)) same left);
    })

-- a writing that answered
pub answered : (words : List (List ℕ)) (command : Command) (lock cert : List ℕ) (task : Task) (outcome : Outcome)
    (before between after : Option Files) (said_before said_after : Option (List ℕ)) → command_of words ≡ Some command
    → IfSome before (λ files. Gives {T = Task} (Ok task) (Named log_verdict files command)) → between ≡ before
    → lock ≡ lock_path words → cert ≡ cert_path words → Writes evidence lock cert task between after said_before said_after (Ok outcome)
    → IfSome before (λ files. Attempts evidence files words after said_before said_after (Ok outcome))
answered words command lock cert task outcome None between after said_before said_after ordered read same at certified left = tt
answered words command lock cert task outcome (Some files) between after said_before said_after ordered read same at certified left =
    record {
      task = task;
      read = (command, ordered, read);
      left = by_paths (λ l c. Writes evidence l c task (Some files) after said_before said_after (Ok outcome)) lock cert (lock_path words)
          (cert_path words) at certified
          (subst (λ (m : Option Files). Writes evidence lock cert task m after said_before said_after (Ok outcome)) same left);
    }

-- what any end of writing keeps
pub held : (words : List (List ℕ)) (command : Command) (lock cert : List ℕ) (task : Task) (before between after : Option Files)
    → command_of words ≡ Some command → IfSome before (λ files. Gives {T = Task} (Ok task) (Named log_verdict files command))
    → between ≡ before
    → lock ≡ lock_path words → cert ≡ cert_path words → (after ≡ between) ⊎ KeepsWhole evidence lock cert task between after
    → IfSome before (λ files. Keeps evidence files words after)
held words command lock cert task None between after ordered read same at certified kept = tt
held words command lock cert task (Some files) between after ordered read same at certified (inl unchanged) = inl (unchanged ∙ same)
held words command lock cert task (Some files) between after ordered read same at certified (inr whole) =
    inr (record {
      task = task;
      read = (command, ordered, read);
      held = by_paths (λ l c. KeepsWhole evidence l c task (Some files) after) lock cert (lock_path words) (cert_path words) at certified
          (subst (λ (m : Option Files). KeepsWhole evidence lock cert task m after) same whole);
    })

-- the path of a put that failed, of one answer
put_at : (lock cert : List ℕ) (problem : Problem) (answer : Answer) (at : List ℕ) (before after : Option Files)
    → IsHalfPut lock cert problem answer at before after → (at ≡ lock) ⊎ ((at ≡ cert) × (is_dash_path cert ≡ false))
put_at lock cert problem answer at before after (inl (same, (dash, held))) = inr (same, dash)
put_at lock cert problem answer at before after (inr (same, held)) = inl same

-- of the answers of all roots, from a number on
put_from : (dir : List ℕ) (count root : ℕ) (problems : List Problem) (found : List Answer) (at : List ℕ) (before after : Option Files)
    → root + length problems ≡ count → IsHalfFrom dir root problems found at before after → IsOfRoots dir count at
put_from dir count root [] found at before after all half = absurd half
put_from dir count root (problem ∷ more) [] at before after all half = absurd half
put_from dir count root (problem ∷ more) (answer ∷ others) at before after all (inl half) = record {
  root = root;
  within = omega (arith, all);
  is_path = ⊎_elim (λ (same : at ≡ lock_at dir root). inl same)
      (λ (pair : (at ≡ cert_at dir root) × (is_dash_path (cert_at dir root) ≡ false)). inr pair.0)
      (put_at (lock_at dir root) (cert_at dir root) problem answer at before after half);
}
put_from dir count root (problem ∷ more) (answer ∷ others) at before after all (inr half) =
    put_from dir count (root + 1) more others at (files_with (lock_at dir root) (cert_at dir root) problem answer before) after
    (omega (arith, all)) half

-- a graph alone is found for `concretize`
pub is_concretize : (work : Work) (input : Input) → IsOf work (tasks.Solve input) → work ≡ works.Concretize
is_concretize works.Concretize input of = refl
is_concretize other input of = absurd of

-- the graphs of all roots by themselves are found for `each`
pub is_each : (work : Work) (input : Input) → IsOf work (tasks.Each input) → work ≡ works.Each
is_each works.Each input of = refl
is_each other input of = absurd of

follows_here : (told : Option Files) (words : List (List ℕ)) (lock cert : List ℕ) (task : Task) (stop : WriteStop)
    (before after : Option Files)
    (said_before said_after : Option (List ℕ))
    → (asked : IsAsked words) → IsOf asked.command.work task → HasRoots asked.command.spec task → lock ≡ lock_path words
    → cert ≡ cert_path words
    → Writes evidence lock cert task before after said_before said_after (Err stop) → Follows told words (Err (Write stop))
follows_here told words lock cert (tasks.Solve input) (Put at) before after said_before said_after asked work roots is_lock is_cert
    (left, unsaid) =
    let same = is_concretize asked.command.work input work in
    let command = asked.command in
    let at_lock : lock ≡ command.lock = is_lock ∙ ap lock_of_command asked.named in
    let at_cert : cert ≡ command.cert = is_cert ∙ ap cert_of_command asked.named in
    let path = put_at lock cert input.problem left.answer at before after left.half in (
      record { asked = asked; work = subst PutsFiles (sym same) tt },
      record {
        command = command;
        named = asked.named;
        put = subst (λ (w : Work). IsPutBy w command at) (sym same)
            (by_paths (λ l c. (at ≡ l) ⊎ ((at ≡ c) × (is_dash_path c ≡ false))) lock cert command.lock command.cert at_lock at_cert path);
      },
    )
follows_here told words lock cert (tasks.Each input) (Put at) before after said_before said_after asked work roots is_lock is_cert
    (left, unsaid) =
    let same = is_each asked.command.work input work in
    let command = asked.command in
    let at_lock : lock ≡ command.lock = is_lock ∙ ap lock_of_command asked.named in (
      record { asked = asked; work = subst PutsFiles (sym same) tt },
      record {
        command = command;
        named = asked.named;
        put = subst (λ (w : Work). IsPutBy w command at) (sym same) (record {
          roots = input.problem.roots;
          read = roots;
          inside = subst (λ (d : List ℕ). IsOfRoots d (length input.problem.roots) at) at_lock
              (put_from lock (length input.problem.roots) 0 (each_alone input.problem) left.found at before after
              (omega (arith, length-map {B = Problem} input.problem.roots (alone input.problem))) left.half);
        });
      },
    )
follows_here told words lock cert other (Put at) before after said_before said_after asked work roots is_lock is_cert left = absurd left.0
follows_here told words lock cert task Output before after said_before said_after asked work roots is_lock is_cert left = asked
follows_here told words lock cert task NoMemory before after said_before said_after asked work roots is_lock is_cert left = tt

-- a writing that stopped, by the words
pub follows : (told : Option Files) (words : List (List ℕ)) (lock cert : List ℕ) (task : Task) (stop : WriteStop)
    (result : Result Outcome Stop)
    (before after : Option Files) (said_before said_after : Option (List ℕ))
    → IsErrAnd result (λ given. given ≡ Write stop) → (asked : IsAsked words) → IsOf asked.command.work task
    → HasRoots asked.command.spec task → lock ≡ lock_path words → cert ≡ cert_path words
    → Writes evidence lock cert task before after said_before said_after (Err stop) → Follows told words result
follows told words lock cert task stop result before after said_before said_after carried asked work roots is_lock is_cert left =
    rw (write_carried stop result carried)
    (follows_here told words lock cert task stop before after said_before said_after asked work roots is_lock is_cert left)

-- what is said by a writing that stopped before
quiet : (lock cert : List ℕ) (task : Task) (stop : WriteStop) (before after : Option Files) (said_before said_after : Option (List ℕ))
    → Writes evidence lock cert task before after said_before said_after (Err stop) → StopsBefore (Err (Write stop))
    → said_after ≡ said_before
quiet lock cert task (Put at) before after said_before said_after left stops = left.1
quiet lock cert task Output before after said_before said_after left stops = absurd stops
quiet lock cert task NoMemory before after said_before said_after left stops = left

-- nothing was said before the sink failed
pub unsaid : (lock cert : List ℕ) (task : Task) (stop : WriteStop) (result : Result Outcome Stop) (before after : Option Files)
    (said_before said_after : Option (List ℕ)) → IsErrAnd result (λ given. given ≡ Write stop)
    → Writes evidence lock cert task before after said_before said_after (Err stop) → StopsBefore result → said_after ≡ said_before
unsaid lock cert task stop result before after said_before said_after carried left stops =
    quiet lock cert task stop before after said_before said_after left (rw (write_carried stop result carried) at stops)
