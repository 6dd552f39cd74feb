-- What is shown is meant: a run by its evidence is one by its meaning.
use Rattle.std.proofs.Common.{ℕ, List, Option, Some, None, Result, Ok, Err, inl, inr}
use Rattle.std.specs.Prelude.{IfSome}
use Rattle.outside_desk.specs.Files.{Files}
use Rattle.run_output.specs.CertificateVerdicts.{any_verdict}
use Rattle.run_output.specs.Certificates.{log_verdict}
use Rattle.run_output.specs.Evidence.{evidence}
use Rattle.run_output.specs.ReadStop.TheVariants as reads
use Rattle.run_output.specs.Refusal.{Refusal}
use Rattle.run_output.specs.Senses.{meaning}
use Rattle.run_output.specs.Stop.{Stop}
use Rattle.run_output.specs.Stop.TheVariants.{Usage, Read, Write}
use Rattle.run_output.specs.Task.{Task}
use Rattle.run_output.specs.Tasks.{Poses}
use Rattle.run_output.specs.Words.{lock_path, cert_path}
use Rattle.run_output.specs.declared.answer.Outcome.{Outcome}
use Rattle.run_output.proofs.Meaning.{writes_meant, whole_meant}
use Rattle.concretizer.specs.Attempts.{Attempts}
use Rattle.concretizer.specs.Headline.{Keeps}

-- what logs pose is posed by any verdicts
abbrev pub AnyPosed : Type 0
AnyPosed = (files : Files) (words : List (List ℕ)) (posed : Result Task Refusal) → Poses log_verdict files words posed
    → Poses any_verdict files words posed

module _ (laws : AnyPosed) (words : List (List ℕ)) (after : Option Files) where
  attempt_meant : (files : Files) (said more : Option (List ℕ)) (result : Result Outcome Stop)
      → Attempts evidence files words after said more result → Attempts meaning files words after said more result
  attempt_meant files said more (Ok outcome) w = record {
    task = w.task;
    read = laws files words (Ok w.task) w.read;
    left = writes_meant (Some files) after said more (lock_path words) (cert_path words) w.task (Ok outcome) w.left;
  }
  attempt_meant files said more (Err Usage) left = left
  attempt_meant files said more (Err (Read (reads.Refused refusal))) left = (laws files words (Err refusal) left.0, left.1)
  attempt_meant files said more (Err (Read (reads.Fault path))) left = left
  attempt_meant files said more (Err (Read reads.NoMemory)) left = left
  attempt_meant files said more (Err (Write stop)) w = record {
    task = w.task;
    read = laws files words (Ok w.task) w.read;
    left = writes_meant (Some files) after said more (lock_path words) (cert_path words) w.task (Err stop) w.left;
  }

  -- an attempt
  pub attempts_meant : (before : Option Files) (said more : Option (List ℕ)) (result : Result Outcome Stop)
      → IfSome before (λ files. Attempts evidence files words after said more result)
      → IfSome before (λ files. Attempts meaning files words after said more result)
  attempts_meant None said more result left = tt
  attempts_meant (Some files) said more result left = attempt_meant files said more result left

  keep_meant : (files : Files) → Keeps evidence files words after → Keeps meaning files words after
  keep_meant files (inl same) = inl same
  keep_meant files (inr put) = inr (record {
    task = put.task;
    read = laws files words (Ok put.task) put.read;
    held = whole_meant (lock_path words) (cert_path words) put.task (Some files) after put.held;
  })

  -- the files of any end
  pub keeps_meant : (before : Option Files) → IfSome before (λ files. Keeps evidence files words after)
      → IfSome before (λ files. Keeps meaning files words after)
  keeps_meant None kept = tt
  keeps_meant (Some files) kept = keep_meant files kept
