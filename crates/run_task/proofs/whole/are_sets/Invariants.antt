use Rattle.std.proofs.Common.{drop}
use Rattle.std.specs.Prelude.{All}
use Rattle.variant_values.specs.Texts.{IsInByteOrder}
use Rattle.run_task.proofs.whole.are_sets.Given as goal

abbrev pub invariant-loop-variant : goal.invariant-loop-variant
invariant-loop-variant l = All (λ v. IsInByteOrder v.1) (drop l.variant-index l.variants) → All (λ v. IsInByteOrder v.1) l.variants
