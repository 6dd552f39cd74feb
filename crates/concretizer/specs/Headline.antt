-- The headline: what each answer of a run means.
--
-- The `sense` of an answer is what it means, or besides the log that shows it (`Senses.antt` of
-- `run_output`): all is said of both. `files` are the files at entry of a desk that tells them,
-- `words` the words of the command line, `after` the files at the return, and `out` and `err` what
-- the two sinks tell before and after.
use Rattle.std.specs.Prelude.{◌≡◌, ◌⊎◌, ℕ, List, Option, Some, Ok, Err, IfSome}
use Rattle.run_answers.specs.Exits.{IsSilent, Says, SaysFront, Spoken}
use Rattle.outside_desk.specs.Causes.{Rose}
use Rattle.outside_desk.specs.Files.{Files}
use Rattle.run_output.specs.Senses.{Sense}
use Rattle.run_output.specs.Shown.{IsOutdone, IsShown}
use Rattle.run_output.specs.Words.{Command, command_of, lock_path, cert_path}
use Rattle.run_output.specs.Task.{Task}
use Rattle.run_output.specs.Tasks.{Poses}
use Rattle.run_output.specs.Refusals.{status_of, line_of_refusal}
use Rattle.run_output.specs.Stop.{Stop}
use Rattle.run_output.specs.Stops.{read_fault_line, write_fault_line, output_fault_line, no_memory_line, stop_line, usage_line}
use Rattle.run_output.specs.Answers.{IsFinished, HasBetter, HasNone, HasSpent, IsHalfDone, IsUntold, KeepsWhole}
use Rattle.run_output.specs.declared.answer.Outcome.{Outcome}
use Rattle.run_output.specs.declared.answer.Outcome.TheVariants as outcomes
use Rattle.run_output.specs.Refusal.{Refusal}
use Rattle.run_output.specs.Status.{Status}
use Rattle.run_output.specs.Status.TheVariants as statuses
use Rattle.concretizer.specs.Asked.{IsAsked, IsLocking, IsRead, IsPutPath}
use Rattle.concretizer.specs.Attempts.{Attempts, Follows}

-- Done, by `concretize` (`IsSolved` in `run_output`): LOCK holds the lock file of a graph that is
-- well-formed and optimal for the problem that was read, CERT, unless it is `-`, the text of a log
-- (as evidence, a certificate of its costs), every other file is as at entry, its lines were said,
-- and nothing else was. By `each` (`AreSolvedApart`): so it is for each root by itself, with the
-- files of its number in DIR, and the lines of all roots were said. By the other commands
-- (`IsTold`): no file changed, and what the task comes to was said: of `judge` the cost vector of
-- the lock file's valid graph, of `fresh` that no valid graph costs less than it, of `check`,
-- `check_each` and `refute` that the certificates are right, of `explain` and `reasons` that some
-- graph is valid, of `find` exactly the installed packages that meet the condition, of `plan` the
-- earliest order in which the lock file's valid graph can be built, of `trial` the counts of an
-- optimal graph
pub record IsDone (sense : Sense) (files : Files) (words : List (List ℕ)) (after : Option Files) (out err : Spoken) : Type 0 where
  pub task : Task
  pub read : Poses sense.verdicts files words (Ok task)
  pub finished : IsFinished sense (lock_path words) (cert_path words) task (Some files) after out.0 out.1
  pub errors : IsSilent err

-- What the yes of a command shows, whoever made the files (`IsShown` in `run_task`): of `check` and
-- `fresh`, that LOCK holds a lock file of just the roots that are asked for, and that its graph is
-- optimal for the problem that was read; of `check_each` the same of DIR/N.lock for each root by
-- itself; of `refute`, that no graph is valid
pub record HasShown (files : Files) (words : List (List ℕ)) : Type 0 where
  pub command : Command
  pub named : command_of words ≡ Some command
  pub shown : IsShown files command

-- Stale, by `fresh` alone: a better graph was found, its cost vector was said, and no file changed
pub record IsOutdated (sense : Sense) (files : Files) (words : List (List ℕ)) (after : Option Files) (out err : Spoken) : Type 0 where
  pub task : Task
  pub read : Poses sense.verdicts files words (Ok task)
  pub better : HasBetter sense task (Some files) after out.0 out.1
  pub errors : IsSilent err

-- What that shows, whoever made the lock file (`IsOutdone` in `run_task`): LOCK holds a lock file
-- of just the roots that are asked for, whose graph is valid, and an optimal graph of the problem
-- that was read costs less
pub record HasOutdone (files : Files) (words : List (List ℕ)) : Type 0 where
  pub command : Command
  pub named : command_of words ≡ Some command
  pub outdone : IsOutdone files command

-- what is shown where an answer came to this
abbrev pub ShowsBy : Outcome → Files → List (List ℕ) → Type 0
ShowsBy outcomes.Solved files words = HasShown files words
ShowsBy outcomes.Stale files words = HasOutdone files words
ShowsBy other files words = Unit {0}

-- Unsatisfiable, by `concretize`: no graph is valid, CERT holds the text of a log (as evidence, it
-- refutes the problem), and every other file is as at entry. By `each`: no graph is valid for the
-- first root by itself that has none, the roots before it have theirs, and each root was answered
-- as `IsDone` says of those with a graph. By `explain`: a line was said for each demand that a
-- refutation of the problem rests on, and no graph is valid for these alone; by `reasons`
-- (`IsLeastList` in `best_graph`) a line for each of some demands for which no graph is valid, and
-- below each the nodes of a graph that is valid for all others, so that none can be left out; by
-- `trial`: no graph of the made input is valid; no file changed
pub record IsUnsatisfiable (sense : Sense) (files : Files) (words : List (List ℕ)) (after : Option Files) (out err : Spoken) : Type 0 where
  pub task : Task
  pub read : Poses sense.verdicts files words (Ok task)
  pub none : HasNone sense (lock_path words) (cert_path words) task (Some files) after out.0 out.1
  pub errors : IsSilent err

-- Undecided, by `concretize`: the budget of the settings was spent, CERT holds the text of a log
-- (as evidence, it shows that), and every other file is as at entry; by `each` it was spent for the
-- first root without a graph; by `explain`, `reasons`, `fresh` and `trial` likewise, and no file
-- changed
pub record IsUndecided (sense : Sense) (files : Files) (words : List (List ℕ)) (after : Option Files) (out err : Spoken) : Type 0 where
  pub task : Task
  pub read : Poses sense.verdicts files words (Ok task)
  pub spent : HasSpent sense (lock_path words) (cert_path words) task (Some files) after out.0 out.1
  pub errors : IsSilent err

-- BadInput, TooLarge and Refused: reading refuses, in its order; no file changed, and the refusal
-- was said
pub record IsRefused (sense : Sense) (files : Files) (words : List (List ℕ)) (answer : Status) (after : Option Files)
    (out err : Spoken) : Type 0 where
  pub refusal : Refusal
  pub read : Poses sense.verdicts files words (Err refusal)
  pub status : answer ≡ status_of refusal
  pub unchanged : after ≡ Some files
  pub output : IsSilent out
  pub errors : Says err (line_of_refusal refusal)

-- ReadFault: the desk failed to read the settings, the folder of packages, a recipe that it names,
-- the database, or what the command looks at besides: the lock file (`judge`, `check`, `fresh`,
-- `plan`), the certificate (`check`, `refute`), both of each root (`check_each`); the run had come
-- to that path in its order of work (`IsRead`), and that was said
pub record IsReadFault (words : List (List ℕ)) (faults : ℕ × ℕ) (files : Option Files × Option Files) (out err : Spoken) : Type 0 where
  pub path : List ℕ
  pub read : IsRead files.0 words path
  pub rose : Rose faults.0 faults.1
  pub unchanged : files.1 ≡ files.0
  pub output : IsSilent out
  pub errors : Says err (read_fault_line path)

-- what a put at the path that failed leaves: what was put before is whole
pub record LeavesPut (sense : Sense) (files : Files) (words : List (List ℕ)) (path : List ℕ) (after : Option Files) : Type 0 where
  pub task : Task
  pub read : Poses sense.verdicts files words (Ok task)
  pub half : IsHalfDone sense (lock_path words) (cert_path words) task path (Some files) after

-- WriteFault where the desk failed to put the certificate or the lock file, and that was said, and
-- nothing else
pub record IsPutFault (sense : Sense) (words : List (List ℕ)) (files : Option Files × Option Files) (faults : ℕ × ℕ)
    (out err : Spoken) : Type 0 where
  pub path : List ℕ
  pub asked : IsLocking words
  pub put : IsPutPath words path
  pub left : IfSome files.0 (λ before. LeavesPut sense before words path files.1)
  pub rose : Rose faults.0 faults.1
  pub output : IsSilent out
  pub errors : Says err (write_fault_line path)

-- what a fault of the sink of the answer leaves: all files of the answer whole, no file changed by
-- other commands than `concretize` and `each`, and a front of what was to be said
pub record LeavesAll (sense : Sense) (files : Files) (words : List (List ℕ)) (after : Option Files) (out : Spoken) : Type 0 where
  pub task : Task
  pub read : Poses sense.verdicts files words (Ok task)
  pub left : IsUntold sense (lock_path words) (cert_path words) task (Some files) after out.0 out.1

-- WriteFault where the sink of the answer failed, and that was said
pub record IsOutputFault (sense : Sense) (words : List (List ℕ)) (files : Option Files × Option Files) (faults : ℕ × ℕ)
    (out err : Spoken) : Type 0 where
  pub asked : IsAsked words
  pub left : IfSome files.0 (λ before. LeavesAll sense before words files.1 out)
  pub rose : Rose faults.0 faults.1
  pub errors : Says err output_fault_line

-- a run stopped for this cause, which leaves the files and the sink of the answer so; `faults`
-- counts those of that sink
pub record IsStopped (sense : Sense) (words : List (List ℕ)) (files : Option Files × Option Files) (faults : ℕ × ℕ)
    (out : Spoken) : Type 0 where
  pub stop : Stop
  pub follows : Follows files.0 words (Err stop)
  pub left : IfSome files.0 (λ before. Attempts sense before words files.1 out.0 out.1 (Err stop))
  pub output : IsSilent out ⊎ Rose faults.0 faults.1

-- WriteFault where the sink of the report failed: a front of the line of why the run stopped was
-- said
pub record IsReportFault (sense : Sense) (words : List (List ℕ)) (files : Option Files × Option Files) (faults errs : ℕ × ℕ)
    (out err : Spoken) : Type 0 where
  pub stopped : IsStopped sense words files faults out
  pub rose : Rose errs.0 errs.1
  pub errors : SaysFront err (stop_line stopped.stop)

-- WriteFault: a put, the sink of the answer or that of the report failed
abbrev pub IsWriteFault : Sense → List (List ℕ) → Option Files × Option Files → ℕ × ℕ → ℕ × ℕ → ℕ × ℕ → Spoken → Spoken → Type 0
IsWriteFault sense words files puts says errs out err =
    IsPutFault sense words files puts out err
    ⊎ (IsOutputFault sense words files says out err ⊎ IsReportFault sense words files says errs out err)

-- NoMemory, which needs no cause: that was said, or nothing
pub record IsOutOfMemory (sense : Sense) (words : List (List ℕ)) (files : Option Files × Option Files) (faults : ℕ × ℕ)
    (out err : Spoken) : Type 0 where
  pub stopped : IsStopped sense words files faults out
  pub errors : IsSilent err ⊎ Says err no_memory_line

-- Whatever the answer: the files are as at entry, or reading gave a problem to solve, and CERT
-- alone changed and holds the log of its answer; or it does so, unless it is `-`, and LOCK is as at
-- entry, or holds the lock file of an optimal graph. Of `each` that holds of one root, and the
-- files of all roots before it are whole
pub record HasPut (sense : Sense) (files : Files) (words : List (List ℕ)) (after : Option Files) : Type 0 where
  pub task : Task
  pub read : Poses sense.verdicts files words (Ok task)
  pub held : KeepsWhole sense (lock_path words) (cert_path words) task (Some files) after

abbrev pub Keeps : Sense → Files → List (List ℕ) → Option Files → Type 0
Keeps sense files words after = (after ≡ Some files) ⊎ HasPut sense files words after

-- the answers of input that nothing refuses, where no device fails
abbrev pub Settles : Status → Type 0
Settles statuses.Done = Unit {0}
Settles statuses.Unsatisfiable = Unit {0}
Settles statuses.Undecided = Unit {0}
Settles statuses.Stale = Unit {0}
Settles statuses.NoMemory = Unit {0}
Settles other = ⊥

-- the answers that come of the input, and neither of a device nor of want of memory
abbrev pub IsOfInput : Status → Type 0
IsOfInput statuses.ReadFault = ⊥
IsOfInput statuses.WriteFault = ⊥
IsOfInput statuses.NoMemory = ⊥
IsOfInput other = Unit {0}

-- what is reported: the status with its line, and the sink did not fail; or WriteFault, where it
-- did, with a front of the line; or NoMemory, with nothing said
abbrev pub Reports : Status → List ℕ → Spoken → ℕ × ℕ → Status → Type 0
Reports status line said faults result =
    ((result ≡ status) × Says said line × (faults.1 ≡ faults.0))
    ⊎ (((result ≡ statuses.WriteFault) × SaysFront said line × Rose faults.0 faults.1) ⊎ ((result ≡ statuses.NoMemory) × IsSilent said))

-- what words that are no command are answered by, whatever the desk tells: Usage is reported, or
-- want of memory is
abbrev pub ReportsWords : Spoken → ℕ × ℕ → Status → Type 0
ReportsWords said faults result =
    Reports statuses.Usage usage_line said faults result ⊎ Reports statuses.NoMemory no_memory_line said faults result
