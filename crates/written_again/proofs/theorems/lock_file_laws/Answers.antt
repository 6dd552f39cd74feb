use Rattle.written_again.proofs.Roots.{asked}
use Rattle.written_again.proofs.Written.{read_again}
use Rattle.written_again.proofs.theorems.lock_file_laws.Goals as goal

pub returns : goal.returns
returns c = record {
  read = read_again c.writable_laws.ensures c.again_laws.ensures;
  asked = asked;
}
