-- What a run leaves where each root is solved by itself: for the root with each number its files in
-- one folder, and its lines.
use Rattle.std.specs.Prelude.{◌≡◌, ◌⊎◌, ℕ, ◌+◌, List, [], ◌∷◌, ◌++◌, Option}
use Rattle.std.specs.List.{AllZip}
use Rattle.outside_desk.specs.Files.{Files, and_said, SaysPart}
use Rattle.proof_log.specs.declared.line.Line.{Line}
use Rattle.run_answers.specs.Texts.{root_line}
use Rattle.run_task.specs.Costs.{vector}
use Rattle.run_task.specs.Places.{cert_at, lock_at}
use Rattle.run_task.specs.Problems.{Problem, each_alone}
use Rattle.run_task.specs.Answer.{Answer}
use Rattle.run_task.specs.Answer.TheVariants as answers
use Rattle.run_output.specs.Put.{files_with, HoldsWhole, IsHalfPut}
use Rattle.run_output.specs.Report.{vector_line}
use Rattle.run_output.specs.Senses.{Sense}
use Rattle.run_output.specs.Texts.{undecided_line, unsatisfiable_line}
use Rattle.run_output.specs.declared.answer.Outcome.{Outcome}
use Rattle.run_output.specs.declared.answer.Outcome.TheVariants as outcomes

-- an answer of each root by itself, as many as there are roots
abbrev pub AreAnswersOf : Sense → Problem → List Answer → Type 0
AreAnswersOf sense problem found = AllZip sense.answers (each_alone problem) found

-- ---- what they come to

-- the first answer without a graph decides; where there is none, all roots are solved
abbrev pub outcome_of_all : List Answer → Outcome
outcome_of_all [] = outcomes.Solved
outcome_of_all (answers.Best graph log ∷ more) = outcome_of_all more
outcome_of_all (answers.Nothing log ∷ more) = outcomes.Unsolved
outcome_of_all (answers.Undecided log ∷ more) = outcomes.Undecided

-- and its log is kept
abbrev pub log_of_all : List Answer → List Line
log_of_all [] = []
log_of_all (answers.Best graph log ∷ more) = log_of_all more
log_of_all (answers.Nothing log ∷ more) = log
log_of_all (answers.Undecided log ∷ more) = log

-- ---- lines

-- of one answer: the cost vector, or why there is no graph
abbrev pub brief_line : Problem → Answer → List ℕ
brief_line problem (answers.Best graph log) = vector_line (vector problem graph)
brief_line problem (answers.Nothing log) = unsatisfiable_line
brief_line problem (answers.Undecided log) = undecided_line problem.settings.conflict_budget

-- of the answers from a number on: each root by its number and its canonical text, and what was
-- found
abbrev pub lines_from : Problem → ℕ → List Problem → List Answer → List ℕ
lines_from whole root [] found = []
lines_from whole root (problem ∷ more) [] = []
lines_from whole root (problem ∷ more) (answer ∷ others) =
    (root_line whole root ++ brief_line problem answer) ++ lines_from whole (root + 1) more others

abbrev pub each_text : Problem → List Answer → List ℕ
each_text problem found = lines_from problem 0 (each_alone problem) found

-- ---- files

-- the files after the answers from a number on were written, one root behind the other: of each its
-- certificate, and its lock file where there is a graph
abbrev pub files_from : List ℕ → ℕ → List Problem → List Answer → Option Files → Option Files
files_from dir root [] found files = files
files_from dir root (problem ∷ more) [] files = files
files_from dir root (problem ∷ more) (answer ∷ others) files =
    files_from dir (root + 1) more others (files_with (lock_at dir root) (cert_at dir root) problem answer files)

abbrev pub files_of_each : List ℕ → Problem → List Answer → Option Files → Option Files
files_of_each dir problem found files = files_from dir 0 (each_alone problem) found files

-- a put at the path failed: all files of the roots before are whole, and those of one root are as
-- after a put that failed
abbrev pub IsHalfFrom : List ℕ → ℕ → List Problem → List Answer → List ℕ → Option Files → Option Files → Type 0
IsHalfFrom dir root [] found path before after = ⊥
IsHalfFrom dir root (problem ∷ more) [] path before after = ⊥
IsHalfFrom dir root (problem ∷ more) (answer ∷ others) path before after =
    IsHalfPut (lock_at dir root) (cert_at dir root) problem answer path before after
    ⊎ IsHalfFrom dir (root + 1) more others path (files_with (lock_at dir root) (cert_at dir root) problem answer before) after

-- at any end: all files of some first roots are whole, and those of the next one are as they were
-- or whole
abbrev pub HoldsFrom : List ℕ → ℕ → List Problem → List Answer → Option Files → Option Files → Type 0
HoldsFrom dir root [] found before after = ⊥
HoldsFrom dir root (problem ∷ more) [] before after = ⊥
HoldsFrom dir root (problem ∷ more) (answer ∷ others) before after =
    HoldsWhole (lock_at dir root) (cert_at dir root) problem answer before after
    ⊎ HoldsFrom dir (root + 1) more others (files_with (lock_at dir root) (cert_at dir root) problem answer before) after

-- ---- answers of `each`

-- each root was solved by itself (`found`: at each place the graph is optimal for the problem of
-- that root, or there is none, or the budget was spent; as evidence, its log shows it), and they
-- come to this; the root with number N has its certificate at DIR/N.cert and its lock file at
-- DIR/N.lock where there is a graph, every other file is as it was, and the lines of all roots were
-- said
pub record AreSolvedApart (sense : Sense) (dir : List ℕ) (problem : Problem) (outcome : Outcome) (before after : Option Files)
    (out_before out_after : Option (List ℕ)) : Type 0 where
  pub found : List Answer
  pub each : AreAnswersOf sense problem found
  pub is_outcome : outcome ≡ outcome_of_all found
  pub files : after ≡ files_of_each dir problem found before
  pub out : out_after ≡ and_said out_before (each_text problem found)

-- a put at the path failed
pub record HaveHalfPut (sense : Sense) (dir : List ℕ) (problem : Problem) (path : List ℕ) (before after : Option Files) : Type 0 where
  pub found : List Answer
  pub each : AreAnswersOf sense problem found
  pub half : IsHalfFrom dir 0 (each_alone problem) found path before after

-- all files were put, and the sink failed: a front of the lines was said
pub record AreUnsaid (sense : Sense) (dir : List ℕ) (problem : Problem) (before after : Option Files)
    (out_before out_after : Option (List ℕ)) : Type 0 where
  pub found : List Answer
  pub each : AreAnswersOf sense problem found
  pub files : after ≡ files_of_each dir problem found before
  pub out : SaysPart out_before out_after (each_text problem found)

-- at any end, each file is as it was, or holds its text
pub record HaveWhole (sense : Sense) (dir : List ℕ) (problem : Problem) (before after : Option Files) : Type 0 where
  pub found : List Answer
  pub each : AreAnswersOf sense problem found
  pub held : HoldsFrom dir 0 (each_alone problem) found before after
