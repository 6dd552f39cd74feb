use Rattle.std.proofs.Common.{refl}
use Rattle.proof_log.proofs.WorkedLogs.{certificate, spent, one_too_few}
use Rattle.proof_log.proofs.log_theorems.worked_logs.Goals as goal

pub returns : goal.returns
returns c = record {
  learns = refl;
  refutes = refl;
  no_pivot = refl;
  two_pivots = refl;
  not_contained = refl;
  no_id = refl;
  certificate =
      certificate;
  spent = spent;
  one_too_few = one_too_few;
}
