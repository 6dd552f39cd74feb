-- A piece that was read, and its lines.
use Rattle.std.proofs.Common.{◌≡◌, ◌≢◌, ℕ, List, [], Result, Ok, Err, sym, ap, ◌∙◌}
use Rattle.proof_log.specs.declared.line.Line.{Line}
use Rattle.proof_log.specs.declared.reader.LogFault.{LogFault}
use Rattle.proof_log.specs.declared.reader.LogFault.TheVariants.{BadLine, OutOfMemory}
use Rattle.proof_log.specs.Readings.{Place, reading, Takes}
use Rattle.log_checker.specs.Steps.{Progress, run_lines}
use Rattle.log_checker.proofs.Accepted.{run-append}
use Rattle.certified.specs.Texts.{TakesPiece}

-- a piece was read, and the lines that came were taken
pub piece-taken : (old new : Progress) (from to : Place) (piece : List ℕ) (lines : List Line) → Takes from to piece [] lines
    → new ≡ run_lines old lines → TakesPiece old new from to piece
piece-taken old new from to piece lines t e begin bytes h =
    let r = t bytes h.0 in (
      r.0,
      e ∙ ap (run_lines old) r.3 ∙ ap (λ p. run_lines p r.1) h.1 ∙ sym (run-append begin (reading bytes).lines r.1)
          ∙ ap (run_lines begin) (sym r.2),
    )

pub ok-not : (r : Result (Unit {0}) LogFault) (x : Unit {0}) → r ≡ Ok x → r ≢ Err OutOfMemory
ok-not r x e q = differ (sym e ∙ q)
  where
    differ : ◌≡◌ {A = Result (Unit {0}) LogFault} (Ok x) (Err OutOfMemory) → ⊥
    differ q = cc

pub bad-not : (r : Result (Unit {0}) LogFault) (n : ℕ) → r ≡ Err (BadLine n) → r ≢ Err OutOfMemory
bad-not r n e q = differ (sym e ∙ q)
  where
    fault : (BadLine n ≡ OutOfMemory) → ⊥
    fault q = cc

    inner : Result (Unit {0}) LogFault → LogFault
    inner (Ok x) = OutOfMemory
    inner (Err x) = x

    differ : ◌≡◌ {A = Result (Unit {0}) LogFault} (Err (BadLine n)) (Err OutOfMemory) → ⊥
    differ q = fault (ap inner q)
