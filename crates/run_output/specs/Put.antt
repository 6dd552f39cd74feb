-- The files of one answer: its certificate, and its lock file.
use Rattle.std.specs.Prelude.{◌≡◌, ◌⊎◌, ℕ, Bool, true, false, List, Option}
use Rattle.outside_desk.specs.Files.{Files, with_file, MayHold}
use Rattle.graph_core.specs.Graphs.{Content}
use Rattle.run_task.specs.Problems.{Problem}
use Rattle.proof_log.specs.declared.line.Line.{Line}
use Rattle.proof_log.specs.Readings.{log_text}
use Rattle.run_task.specs.Answers.{log_of}
use Rattle.run_task.specs.Answer.{Answer}
use Rattle.run_task.specs.Answer.TheVariants as answers
use Rattle.run_task.specs.Words.{is_dash_path}
use Rattle.run_output.specs.Locks.{lock_of}

abbrev pub with_cert_by : Bool → List ℕ → List Line → Option Files → Option Files
with_cert_by true cert log files = files
with_cert_by false cert log files = with_file files cert (log_text log)

-- the certificate is put, unless its path is `-`
abbrev pub with_cert : List ℕ → List Line → Option Files → Option Files
with_cert cert log files = with_cert_by (is_dash_path cert) cert log files

-- the certificate, and then the lock file of the graph
abbrev pub with_both : List ℕ → List ℕ → Problem → Content → List Line → Option Files → Option Files
with_both lock cert problem graph log files = with_file (with_cert cert log files) lock (lock_of problem graph)

-- the files after the answer was written: only a graph has a lock file
abbrev pub files_with : List ℕ → List ℕ → Problem → Answer → Option Files → Option Files
files_with lock cert problem (answers.Best graph log) files = with_both lock cert problem graph log files
files_with lock cert problem (answers.Nothing log) files = with_cert cert log files
files_with lock cert problem (answers.Undecided log) files = with_cert cert log files

-- the certificate is as it was, or holds its text
abbrev pub MayCert : List ℕ → List Line → Option Files → Option Files → Type 0
MayCert cert log before after = (is_dash_path cert ≡ false) × MayHold before after cert (log_text log)

-- the lock file is as it was, or holds its text
abbrev pub MayLock : List ℕ → Problem → Answer → Option Files → Option Files → Type 0
MayLock lock problem (answers.Best graph log) before after = MayHold before after lock (lock_of problem graph)
MayLock lock problem (answers.Nothing log) before after = ⊥
MayLock lock problem (answers.Undecided log) before after = ⊥

-- a put at the path failed: that of the certificate, or, with the certificate whole, that of the
-- lock file
abbrev pub IsHalfPut : List ℕ → List ℕ → Problem → Answer → List ℕ → Option Files → Option Files → Type 0
IsHalfPut lock cert problem answer path before after =
    ((path ≡ cert) × MayCert cert (log_of answer) before after)
    ⊎ ((path ≡ lock) × MayLock lock problem answer (with_cert cert (log_of answer) before) after)

-- at any end: the certificate is as it was, or whole; or it is whole, and the lock file is as it
-- was, or whole
abbrev pub HoldsWhole : List ℕ → List ℕ → Problem → Answer → Option Files → Option Files → Type 0
HoldsWhole lock cert problem answer before after =
    MayCert cert (log_of answer) before after ⊎ MayLock lock problem answer (with_cert cert (log_of answer) before) after
