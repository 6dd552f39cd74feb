-- What a text is answered that may be a log's.
use Rattle.std.specs.Prelude.{◌≡◌, ℕ, ◌+◌, Bool, true, false, not, ◌||◌, ◌==◌, List, ◌++◌, length, if◌then◌else◌}
use Rattle.proof_log.specs.Readings.{Place, place_after, reading}
use Rattle.log_checker.specs.declared.step.Step.TheVariants.{Refused}
use Rattle.log_checker.specs.Steps.{CheckerState, Progress, Going, Stopped, run_lines, finish_on}
use Rattle.certified.specs.declared.text.TextAnswer.{TextAnswer}
use Rattle.certified.specs.declared.text.TextAnswer.TheVariants.{Checked, BadLine}

-- the answer where the lines of a text brought a checker so far, a further line spells none or not, and these bytes follow
-- the last line feed: a refused line comes first, then the line that spells none or has not ended
abbrev pub answer_at : Progress → Bool → List ℕ → TextAnswer
answer_at (Stopped n w) failed rest = Checked (Refused n w)
answer_at (Going s) failed rest =
    if failed || not (length rest == 0) then BadLine (s.lines + 1) else Checked (finish_on (Going s))

-- the answer to a text, over these clauses, bits and values
abbrev pub answer_of : CheckerState → List ℕ → TextAnswer
answer_of s text = answer_at (run_lines (Going s) (reading text).lines) (reading text).failed (reading text).rest

-- a line is refused or spells none, and those before it were accepted: no further byte changes the answer
abbrev pub is_settled_at : Progress → Bool → Bool
is_settled_at (Stopped n w) failed = true
is_settled_at (Going s) failed = failed

abbrev pub is_settled_by : CheckerState → List ℕ → Bool
is_settled_by s text = is_settled_at (run_lines (Going s) (reading text).lines) (reading text).failed

-- a checker of texts: what it made of the lines, where its reader is, whether that came to a bad line, and whether there was
-- no memory for a piece
pub record Stage : Type 0 where
  pub progress : Progress
  pub place : Place
  pub failed : Bool
  pub short : Bool

abbrev pub is_settled : Stage → Bool
is_settled c = is_settled_at c.progress c.failed

-- a checker of texts over these clauses, bits and values after these bytes: it answers as they are to be answered; what came
-- behind a settled answer it did not read
pub record IsAfter (s : CheckerState) (text : List ℕ) (c : Stage) : Type 0 where
  pub ready : c.short ≡ false
  pub answer : answer_at c.progress c.failed c.place.rest ≡ answer_of s text
  pub settled : is_settled c ≡ is_settled_by s text
  pub whole : is_settled_by s text ≡ false → (c.place ≡ place_after text) × (c.progress ≡ run_lines (Going s) (reading text).lines)

-- a piece was taken, whatever came before it
abbrev pub IsFed : Stage → Stage → List ℕ → Type 0
IsFed old new piece = (s : CheckerState) (text : List ℕ) → IsAfter s text old → IsAfter s (text ++ piece) new

-- the same of a checker and a reader that have read all bytes
abbrev pub IsTaken : Progress → Progress → Place → List ℕ → Type 0
IsTaken old new p bytes = (p ≡ place_after bytes) × (new ≡ run_lines old (reading bytes).lines)

abbrev pub TakesPiece : Progress → Progress → Place → Place → List ℕ → Type 0
TakesPiece old new from to piece =
    (begin : Progress) (bytes : List ℕ) → IsTaken begin old from bytes → IsTaken begin new to (bytes ++ piece)
