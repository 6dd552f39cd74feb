use Rattle.std.proofs.Common.{drop}
use Rattle.std.specs.Prelude.{All}
use Rattle.variant_values.specs.Texts.{IsInByteOrder}
use Rattle.run_task.proofs.whole.name_sets.Given as goal

abbrev pub invariant-loop-edge : goal.invariant-loop-edge
invariant-loop-edge l = All (λ e. IsInByteOrder e.virtuals) (drop l.edge-index l.edges) → All (λ e. IsInByteOrder e.virtuals) l.edges
