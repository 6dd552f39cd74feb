use Rattle.log_checker.proofs.Flat.{start-le, end-le}
use Rattle.log_checker.proofs.known.part.Goals as goal

pub between-requires : goal.between-requires
between-requires c = record {
  order = rw (c.start_of.ensures, c.end_at.ensures) (start-le 0 _ _ _ c.requires.cut c.requires.place);
  within = rw c.end_at.ensures (end-le 0 _ _ _ c.requires.cut c.requires.place);
}
