use Rattle.clause_store.proofs.Kept.{start-le, end-le}
use Rattle.clause_store.proofs.cuts.part.Goals as goal

pub between-requires : goal.between-requires
between-requires g c = record {
  order = rw c.start_of.ensures (start-le 0 _ _ _ c.requires.cut c.requires.place);
  within = end-le 0 _ _ _ c.requires.cut c.requires.place;
}
