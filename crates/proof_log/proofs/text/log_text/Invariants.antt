use Rattle.std.proofs.Common.{◌≡◌, ◌++◌, true, drop}
use Rattle.proof_log.specs.Lines.{AllLines}
use Rattle.proof_log.specs.Texts.{may_write}
use Rattle.proof_log.specs.Readings.{log_text, AreWritable}
use Rattle.proof_log.proofs.text.log_text.Given as goal

abbrev pub invariant-loop-line : goal.invariant-loop-line
invariant-loop-line l = record {
  whole : l.text.items ++ log_text (drop l.line-index l.lines) ≡ log_text l.lines;
  left : AllLines (λ k. may_write k ≡ true) (drop l.line-index l.lines);
  typed : AreWritable (drop l.line-index l.lines) → AreWritable l.lines;
}
