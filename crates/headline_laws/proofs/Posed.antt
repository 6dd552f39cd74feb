-- What the words of a command pose.
use Rattle.std.proofs.Common.{◌≡◌, sym, subst, ◌∙◌, Bool, true, false, ℕ, List, Option, Some, Result, Ok}
use Rattle.outside_desk.specs.Files.{Files}
use Rattle.run_output.specs.Stages.{Is, Then}
use Rattle.run_output.specs.Inputs.{ReadsInput, Seeks}
use Rattle.run_output.specs.CertificateVerdicts.{any_verdict}
use Rattle.run_output.specs.Input.{Input}
use Rattle.run_output.specs.Refusal.{Refusal}
use Rattle.run_output.specs.Task.{Task}
use Rattle.run_output.specs.Task.TheVariants as tasks
use Rattle.run_output.specs.Tasks.{Named, OverUnless, Poses, TaskBy, files_for, is_search}
use Rattle.run_output.specs.Words.{Command, command_of}
use Rattle.run_output.specs.Work.{Work}
use Rattle.run_output.specs.Work.TheVariants as works

-- what a command poses over its files, where its work stands apart
abbrev OverBy : Work → Bool → Files → Command → Result Task Refusal → Type 0
OverBy work true files command = Then (Seeks files command) (λ query. Is (Ok (tasks.Find query)))
OverBy work false files command = Then (ReadsInput files command) (TaskBy any_verdict work files command)

over_by : (search : Bool) (files : Files) (command : Command) (posed : Result Task Refusal)
    → OverUnless any_verdict search files command posed
    → OverBy command.work search files command posed
over_by true files command posed over = over
over_by false files command posed over = over

some_same : {A : Type 0} (x y : A) → (let T : Type 0 = Option A in let a : T = Some x in let b : T = Some y in a ≡ b) → x ≡ y
some_same x y e = cc

ok_same : (x y : Task) → (let T : Type 0 = Result Task Refusal in let a : T = Ok x in let b : T = Ok y in a ≡ b) → x ≡ y
ok_same x y e = cc

module _ (files : Files) (words : List (List ℕ)) (command : Command) (is : command_of words ≡ Some command) where
  -- the words name one command
  pub same_command : (other : Command) → command_of words ≡ Some other → other ≡ command
  same_command other named = some_same other command (sym named ∙ is)

  module _ (task : Task) (posed : Poses any_verdict files words (Ok task)) where
    posed_by : (work : Work) → command.work ≡ work → OverBy work (is_search work) (files_for work files) command (Ok task)
    posed_by work same =
        subst (λ (w : Work). OverBy w (is_search w) (files_for w files) command (Ok task)) same
        (over_by (is_search command.work) (files_for command.work files) command (Ok task)
        (subst (λ (c : Command). Named any_verdict files c (Ok task)) (same_command posed.0 posed.1) posed.2))

    -- the input that a command with nothing else to read poses
    pub record PosesBy (make : Input → Task) : Type 0 where
      pub input : Input
      pub read : ReadsInput files command (Ok input)
      pub is_task : task ≡ make input

    -- `concretize` poses the search for a best graph
    pub solve : command.work ≡ works.Concretize → PosesBy (λ input. tasks.Solve input)
    solve same = let (input, read, made) = posed_by works.Concretize same in
        record { input = input; read = read; is_task = ok_same task (tasks.Solve input) made }

    -- `explain` poses the search for reasons
    pub explain : command.work ≡ works.Explain → PosesBy (λ input. tasks.Explain input)
    explain same = let (input, read, made) = posed_by works.Explain same in
        record { input = input; read = read; is_task = ok_same task (tasks.Explain input) made }

    -- `reasons` poses the search for a least list of them
    pub reasons : command.work ≡ works.Reasons → PosesBy (λ input. tasks.Reasons input)
    reasons same = let (input, read, made) = posed_by works.Reasons same in
        record { input = input; read = read; is_task = ok_same task (tasks.Reasons input) made }
