use Rattle.written_again.proofs.Puts.{listed, others, there}
use Rattle.written_again.proofs.theorems.put_laws.Goals as goal

pub returns : goal.returns
returns c = record { there = there; others = others; listed = listed }
