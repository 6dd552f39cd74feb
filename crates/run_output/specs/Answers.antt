-- What a run leaves of its answer: the certificate, the lock file and what was said.
use Rattle.std.specs.Prelude.{◌≡◌, ℕ, List, Option, Result, Ok, Err}
use Rattle.outside_desk.specs.Files.{Files, with_file, and_said, MayHold, SaysPart}
use Rattle.graph_core.specs.Graphs.{Content}
use Rattle.run_task.specs.Problems.{Problem}
use Rattle.proof_log.specs.declared.line.Line.{Line}
use Rattle.run_task.specs.Answer.{Answer}
use Rattle.run_task.specs.Answer.TheVariants as answers
use Rattle.run_output.specs.Locks.{IsReadAsWritten}
use Rattle.run_output.specs.Put.{files_with, with_both, with_cert, HoldsWhole, IsHalfPut, MayCert}
use Rattle.run_output.specs.Each.{AreSolvedApart, AreUnsaid, HaveHalfPut, HaveWhole}
use Rattle.run_task.specs.WriteStop.{WriteStop}
use Rattle.run_task.specs.WriteStop.TheVariants as writes
use Rattle.run_task.specs.declared.task.Task.{Task}
use Rattle.run_task.specs.declared.task.Task.TheVariants as tasks
use Rattle.run_output.specs.Senses.{Sense}
use Rattle.run_output.specs.Texts.{graph_text, text_of_answer, outcome_of, unsatisfiable_line, undecided_line}
use Rattle.run_output.specs.Told.{IsTold, IsHalfTold}
use Rattle.run_output.specs.declared.answer.Outcome.{Outcome}
use Rattle.run_output.specs.declared.answer.Outcome.TheVariants as outcomes

-- ---- what calls leave

-- what a put of a file leaves
abbrev pub Puts : List ℕ → List ℕ → Option Files → Option Files → Result (Unit {0}) WriteStop → Type 0
Puts path text before after (Ok done) = after ≡ with_file before path text
Puts path text before after (Err (writes.Put at)) = (at ≡ path) × MayHold before after path text
Puts path text before after (Err writes.Output) = ⊥
Puts path text before after (Err writes.NoMemory) = Unit {0}

-- what a put of a certificate leaves
abbrev pub PutsCert : List ℕ → List Line → Option Files → Option Files → Result (Unit {0}) WriteStop → Type 0
PutsCert cert log before after (Ok done) = after ≡ with_cert cert log before
PutsCert cert log before after (Err (writes.Put at)) = (at ≡ cert) × MayCert cert log before after
PutsCert cert log before after (Err writes.Output) = ⊥
PutsCert cert log before after (Err writes.NoMemory) = Unit {0}

-- what the puts of an answer leave
abbrev pub PutsAnswer : List ℕ → List ℕ → Problem → Answer → Option Files → Option Files → Result (Unit {0}) WriteStop → Type 0
PutsAnswer lock cert problem answer before after (Ok done) = after ≡ files_with lock cert problem answer before
PutsAnswer lock cert problem answer before after (Err (writes.Put at)) = IsHalfPut lock cert problem answer at before after
PutsAnswer lock cert problem answer before after (Err writes.Output) = ⊥
PutsAnswer lock cert problem answer before after (Err writes.NoMemory) = Unit {0}

-- what a saying of a text leaves: where the sink failed, a front of it
abbrev pub SaysText : List ℕ → Option (List ℕ) → Option (List ℕ) → Result (Unit {0}) WriteStop → Type 0
SaysText text before after (Ok done) = after ≡ and_said before text
SaysText text before after (Err (writes.Put at)) = ⊥
SaysText text before after (Err writes.Output) = SaysPart before after text
SaysText text before after (Err writes.NoMemory) = after ≡ before

-- what writing of an answer leaves
abbrev pub Leaves : List ℕ → List ℕ → Problem → Answer → Option Files → Option Files → Option (List ℕ) → Option (List ℕ)
    → Result Outcome WriteStop → Type 0
Leaves lock cert problem answer before after out_before out_after (Ok outcome) =
    (outcome ≡ outcome_of answer) × (after ≡ files_with lock cert problem answer before)
    × (out_after ≡ and_said out_before (text_of_answer problem answer))
Leaves lock cert problem answer before after out_before out_after (Err (writes.Put at)) =
    IsHalfPut lock cert problem answer at before after × (out_after ≡ out_before)
Leaves lock cert problem answer before after out_before out_after (Err writes.Output) =
    (after ≡ files_with lock cert problem answer before) × SaysPart out_before out_after (text_of_answer problem answer)
Leaves lock cert problem answer before after out_before out_after (Err writes.NoMemory) = out_after ≡ out_before

-- ---- answers of `concretize`

-- A graph was found: it is well-formed and optimal for the problem (`best`; as evidence, the log is
-- a certificate of its costs besides); CERT holds the log unless it is `-`, LOCK the graph's lock
-- file, which is read as it was written; its nodes and its vector were said
pub record IsSolved (sense : Sense) (lock cert : List ℕ) (problem : Problem) (before after : Option Files)
    (out_before out_after : Option (List ℕ)) : Type 0 where
  pub graph : Content
  pub log : List Line
  pub best : sense.answers problem (answers.Best graph log)
  pub files : after ≡ with_both lock cert problem graph log before
  pub read : IsReadAsWritten problem graph
  pub out : out_after ≡ and_said out_before (graph_text problem graph)

-- No graph is valid (`none`; as evidence, the log refutes the problem's rules); CERT holds the log
pub record IsUnsolved (sense : Sense) (cert : List ℕ) (problem : Problem) (before after : Option Files)
    (out_before out_after : Option (List ℕ)) : Type 0 where
  pub log : List Line
  pub none : sense.answers problem (answers.Nothing log)
  pub files : after ≡ with_cert cert log before
  pub out : out_after ≡ and_said out_before unsatisfiable_line

-- The budget of the settings was spent (`spent`; as evidence, the log shows it); CERT holds the log
pub record IsBudgetSpent (sense : Sense) (cert : List ℕ) (problem : Problem) (before after : Option Files)
    (out_before out_after : Option (List ℕ)) : Type 0 where
  pub log : List Line
  pub spent : sense.answers problem (answers.Undecided log)
  pub files : after ≡ with_cert cert log before
  pub out : out_after ≡ and_said out_before (undecided_line problem.settings.conflict_budget)

-- a put at the path failed
pub record HasHalfPut (sense : Sense) (lock cert : List ℕ) (problem : Problem) (path : List ℕ) (before after : Option Files) : Type 0 where
  pub answer : Answer
  pub found : sense.answers problem answer
  pub half : IsHalfPut lock cert problem answer path before after

-- all files were put, and the sink failed: a front of the lines was said
pub record IsUnsaid (sense : Sense) (lock cert : List ℕ) (problem : Problem) (before after : Option Files)
    (out_before out_after : Option (List ℕ)) : Type 0 where
  pub answer : Answer
  pub found : sense.answers problem answer
  pub files : after ≡ files_with lock cert problem answer before
  pub out : SaysPart out_before out_after (text_of_answer problem answer)

-- at any end, each file is as it was, or holds its text
pub record HasWhole (sense : Sense) (lock cert : List ℕ) (problem : Problem) (before after : Option Files) : Type 0 where
  pub answer : Answer
  pub found : sense.answers problem answer
  pub held : HoldsWhole lock cert problem answer before after

-- ---- what writing leaves, by the task: all but `concretize` and `each` put no file

-- what was asked for is done
abbrev pub IsFinished : Sense → List ℕ → List ℕ → Task → Option Files → Option Files → Option (List ℕ) → Option (List ℕ) → Type 0
IsFinished sense lock cert (tasks.Solve input) before after out_before out_after =
    IsSolved sense lock cert input.problem before after out_before out_after
IsFinished sense dir cert (tasks.Each input) before after out_before out_after =
    AreSolvedApart sense dir input.problem outcomes.Solved before after out_before out_after
IsFinished sense lock cert task before after out_before out_after = IsTold sense task outcomes.Solved before after out_before out_after

-- there is no graph
abbrev pub HasNone : Sense → List ℕ → List ℕ → Task → Option Files → Option Files → Option (List ℕ) → Option (List ℕ) → Type 0
HasNone sense dir cert (tasks.Each input) before after out_before out_after =
    AreSolvedApart sense dir input.problem outcomes.Unsolved before after out_before out_after
HasNone sense lock cert (tasks.Solve input) before after out_before out_after =
    IsUnsolved sense cert input.problem before after out_before out_after
HasNone sense lock cert task before after out_before out_after = IsTold sense task outcomes.Unsolved before after out_before out_after

-- the budget was spent
abbrev pub HasSpent : Sense → List ℕ → List ℕ → Task → Option Files → Option Files → Option (List ℕ) → Option (List ℕ) → Type 0
HasSpent sense dir cert (tasks.Each input) before after out_before out_after =
    AreSolvedApart sense dir input.problem outcomes.Undecided before after out_before out_after
HasSpent sense lock cert (tasks.Solve input) before after out_before out_after =
    IsBudgetSpent sense cert input.problem before after out_before out_after
HasSpent sense lock cert task before after out_before out_after = IsTold sense task outcomes.Undecided before after out_before out_after

-- the lock file is right, and a better graph was found: `fresh` alone says so
abbrev pub HasBetter : Sense → Task → Option Files → Option Files → Option (List ℕ) → Option (List ℕ) → Type 0
HasBetter sense (tasks.Solve input) before after out_before out_after = ⊥
HasBetter sense (tasks.Each input) before after out_before out_after = ⊥
HasBetter sense task before after out_before out_after = IsTold sense task outcomes.Stale before after out_before out_after

-- a put at the path failed
abbrev pub IsHalfDone : Sense → List ℕ → List ℕ → Task → List ℕ → Option Files → Option Files → Type 0
IsHalfDone sense lock cert (tasks.Solve input) path before after = HasHalfPut sense lock cert input.problem path before after
IsHalfDone sense dir cert (tasks.Each input) path before after = HaveHalfPut sense dir input.problem path before after
IsHalfDone sense lock cert task path before after = ⊥

-- the sink failed
abbrev pub IsUntold : Sense → List ℕ → List ℕ → Task → Option Files → Option Files → Option (List ℕ) → Option (List ℕ) → Type 0
IsUntold sense lock cert (tasks.Solve input) before after out_before out_after =
    IsUnsaid sense lock cert input.problem before after out_before out_after
IsUntold sense dir cert (tasks.Each input) before after out_before out_after =
    AreUnsaid sense dir input.problem before after out_before out_after
IsUntold sense lock cert task before after out_before out_after = IsHalfTold sense task before after out_before out_after

-- what writing leaves
abbrev pub Writes : Sense → List ℕ → List ℕ → Task → Option Files → Option Files → Option (List ℕ) → Option (List ℕ)
    → Result Outcome WriteStop → Type 0
Writes sense lock cert task before after out_before out_after (Ok outcomes.Solved) =
    IsFinished sense lock cert task before after out_before out_after
Writes sense lock cert task before after out_before out_after (Ok outcomes.Unsolved) =
    HasNone sense lock cert task before after out_before out_after
Writes sense lock cert task before after out_before out_after (Ok outcomes.Undecided) =
    HasSpent sense lock cert task before after out_before out_after
Writes sense lock cert task before after out_before out_after (Ok outcomes.Stale) = HasBetter sense task before after out_before out_after
Writes sense lock cert task before after out_before out_after (Err (writes.Put at)) =
    IsHalfDone sense lock cert task at before after × (out_after ≡ out_before)
Writes sense lock cert task before after out_before out_after (Err writes.Output) =
    IsUntold sense lock cert task before after out_before out_after
Writes sense lock cert task before after out_before out_after (Err writes.NoMemory) = out_after ≡ out_before

-- files were put
abbrev pub KeepsWhole : Sense → List ℕ → List ℕ → Task → Option Files → Option Files → Type 0
KeepsWhole sense lock cert (tasks.Solve input) before after = HasWhole sense lock cert input.problem before after
KeepsWhole sense dir cert (tasks.Each input) before after = HaveWhole sense dir input.problem before after
KeepsWhole sense lock cert task before after = ⊥
