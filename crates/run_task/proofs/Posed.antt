-- Which task is posed, and of which roots.
use Rattle.std.proofs.Common.{◌≡◌, refl, sym, ap, ◌∙◌, subst, ℕ, ◌+◌, Bool, true, false, List, [], ◌∷◌, length, Option, Some, None, Result, Ok, Err}
use Rattle.std.specs.Prelude.{nat_le}
use Rattle.outside_desk.specs.Files.{Files}
use Rattle.spec_grammar.specs.declared.part.Spec.{Spec}
use Rattle.problem.specs.Problems.{Problem}
use Rattle.problem.specs.Roots.{roots_fault}
use Rattle.problem.specs.declared.fault.ProblemFault.{ProblemFault}
use Rattle.problem.specs.declared.fault.ProblemFault.TheVariants as faults
use Rattle.run_input.specs.Closures.{closure_of}
use Rattle.run_input.specs.Stages.{check, ◌>>=◌}
use Rattle.run_input.specs.Refusal.{Refusal}
use Rattle.run_input.specs.Refusal.TheVariants as refusals
use Rattle.run_input.specs.Words.{Command}
use Rattle.run_input.specs.Work.{Work}
use Rattle.run_input.specs.Work.TheVariants as works
use Rattle.run_input.specs.Inputs.{ReadsInput, closed_of, input_of, posed_by, unless_refused}
use Rattle.run_input.specs.Roots.{RootsOf}
use Rattle.run_input.specs.declared.input.Input.{Input}
use Rattle.run_input.proofs.StageLaws.{ok_same}
use Rattle.run_task.specs.Certificates.{log_verdict}
use Rattle.run_task.specs.Tasks.{ChecksOf, HasRoots, IsOf, Named, OverUnless, TaskBy, files_for, is_search}
use Rattle.run_task.specs.declared.task.Task.{Task}
use Rattle.run_task.specs.declared.task.Task.TheVariants as tasks
use Rattle.run_task.proofs.SeenTasks.{is_find}

abbrev SameOk : {A : Type 0} → A → A → Type 0
SameOk {A} x y = let T : Type 0 = Result A Refusal in let a : T = Ok x in let b : T = Ok y in a ≡ b

-- ---- its work

of_is : (work : Work) (task given : Task) → SameOk task given → IsOf work given → IsOf work task
of_is work task given same of = subst (λ (t : Task). IsOf work t) (sym (ok_same task given same)) of

of_checks : (files : Files) (dir : List ℕ) (root : ℕ) (problems : List Problem) (task : Task)
    → ChecksOf log_verdict files dir root problems (Ok task) → IsOf works.CheckEach task
of_checks files dir root [] task is = of_is works.CheckEach task tasks.Accepted is tt
of_checks files dir root (problem ∷ more) task (done, here, rest) = of_checks files dir (root + 1) more task rest

of_work : (work : Work) (files : Files) (command : Command) (input : Input) (task : Task)
    → TaskBy log_verdict work files command input (Ok task) → IsOf work task
of_work works.Concretize files command input task is = of_is works.Concretize task (tasks.Solve input) is tt
of_work works.Judge files command input task (numbers, judged, is) = of_is works.Judge task (tasks.Report numbers) is tt
of_work works.Check files command input task (numbers, judged, (done, certified, is)) = of_is works.Check task tasks.Accepted is tt
of_work works.Fresh files command input task (numbers, judged, is) = of_is works.Fresh task (tasks.Compare input numbers) is tt
of_work works.Plan files command input task (graph, judged, is) = of_is works.Plan task (tasks.Plan graph) is tt
of_work works.Refute files command input task (done, certified, is) = of_is works.Refute task tasks.Accepted is tt
of_work works.Each files command input task is = of_is works.Each task (tasks.Each input) is tt
of_work works.CheckEach files command input task is = of_checks files command.lock 0 _ task is
of_work works.Explain files command input task is = of_is works.Explain task (tasks.Explain input) is tt
of_work works.Reasons files command input task is = of_is works.Reasons task (tasks.Reasons input) is tt
of_work works.Find files command input task is = absurd is
of_work (works.Trial packages seed) files command input task is = of_is (works.Trial packages seed) task (tasks.Try input) is tt

of_over : (search : Bool) (files : Files) (command : Command) (task : Task) → is_search command.work ≡ search
    → OverUnless log_verdict search files command (Ok task) → IsOf command.work task
of_over true files command task search (query, sought, is) =
    subst (λ (w : Work). IsOf w task) (sym (is_find command.work search)) (of_is works.Find task (tasks.Find query) is tt)
of_over false files command task search (input, read, done) = of_work command.work files command input task done

-- the task is of the command's work
pub posed_of : (files : Files) (command : Command) (task : Task) → Named log_verdict files command (Ok task) → IsOf command.work task
posed_of files command task named = of_over (is_search command.work) (files_for command.work files) command task refl named

-- ---- its roots

unrefused : (problem given : Problem) (fault : Option ProblemFault)
    → (let T : Type 0 = Result Problem Refusal in let a : T = Ok problem in a ≡ unless_refused given fault)
    → problem ≡ given
unrefused problem given None is = ok_same problem given is
unrefused problem given (Some faults.OutOfMemory) is = ok_same problem given is
unrefused problem given (Some (faults.UnknownRoot name)) is = absurd (cc)
unrefused problem given (Some (faults.VirtualRoot name)) is = absurd (cc)
unrefused problem given (Some (faults.WrongPlatform platform)) is = absurd (cc)

unchecked : (input given : Input) (few : Bool)
    → (let T : Type 0 = Result Input Refusal in let a : T = Ok input in a ≡ check refusals.TooManyPackages few >>= (λ done. Ok given))
    → input ≡ given
unchecked input given true is = ok_same input given is
unchecked input given false is = absurd (cc)

roots_read : (files : Files) (command : Command) (input : Input) → ReadsInput files command (Ok input)
    → RootsOf command.spec (Ok input.problem.roots)
unfolding posed_by closed_of
roots_read files command input (stock, there, (roots, read, (problem, posed, closed))) =
    let one = unrefused problem _ _ posed in
    let other = unchecked input (input_of problem) (nat_le (length (closure_of problem)) 1024) closed in
    subst (λ (rs : List Spec). RootsOf command.spec (Ok rs))
    (sym (ap (λ (i : Input). i.problem.roots) other ∙ ap (λ (p : Problem). p.roots) one)) read

is_each : (work : Work) (input : Input) → IsOf work (tasks.Each input) → work ≡ works.Each
is_each works.Each input of = refl
is_each other input of = absurd of

-- where each root is solved by itself, the roots are those of the words
roots_of_task : (text : List ℕ) (work : Work) (task : Task) → IsOf work task
    → ((input : Input) → work ≡ works.Each → task ≡ tasks.Each input → RootsOf text (Ok input.problem.roots)) → HasRoots text task
roots_of_task text work (tasks.Each input) of give = give input (is_each work input of) refl
roots_of_task text work other of give = tt

roots_of_work : (work : Work) (files : Files) (command : Command) (input : Input) (task : Task)
    → RootsOf command.spec (Ok input.problem.roots) → TaskBy log_verdict work files command input (Ok task) → IsOf work task
    → HasRoots command.spec task
roots_of_work work files command input task read is of =
    roots_of_task command.spec work task of (λ given same told.
    let each : task ≡ tasks.Each input = ok_same task (tasks.Each input)
    (subst (λ (w : Work). TaskBy log_verdict w files command input (Ok task)) same is) in
    let one : input ≡ given = cc in
    subst (λ (i : Input). RootsOf command.spec (Ok i.problem.roots)) one read)

roots_over : (search : Bool) (files : Files) (command : Command) (task : Task) → OverUnless log_verdict search files command (Ok task)
    → HasRoots command.spec task
roots_over true files command task (query, sought, is) =
    subst (λ (t : Task). HasRoots command.spec t) (sym (ok_same task (tasks.Find query) is)) tt
roots_over false files command task (input, read, done) =
    roots_of_work command.work files command input task (roots_read files command input read) done
    (of_work command.work files command input task done)

-- the task that a command poses has the roots of its words
pub posed_roots : (files : Files) (command : Command) (task : Task) → Named log_verdict files command (Ok task) → HasRoots command.spec task
posed_roots files command task named = roots_over (is_search command.work) (files_for command.work files) command task named
