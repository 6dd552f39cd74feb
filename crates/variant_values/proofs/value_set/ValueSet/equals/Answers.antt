use Rattle.std.proofs.lemmas.Slice.Eq.{slice_eq-Decides, bytes_eq-Decides}
use Rattle.variant_values.proofs.value_set.ValueSet.equals.Goals as goal

pub returns : goal.returns
returns c = rw (← c.self.view_is, ← c.other.view_is) (slice_eq-Decides bytes_eq-Decides _ _ _ c.eq.ensures)
