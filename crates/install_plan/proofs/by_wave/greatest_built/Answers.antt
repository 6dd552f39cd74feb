use Rattle.std.proofs.Common.{◌<◌, ◌∙◌, sym, ap, inl, inr, length, arith}
use Rattle.install_plan.proofs.WaveLaws.{greatest_step}
use Rattle.install_plan.proofs.by_wave.greatest_built.Goals as goal
use Rattle.install_plan.proofs.by_wave.greatest_built.Goals.{then-is_built+then-numbers-place, else-is_built, else-is_built-via-then-is_built+else-numbers-place, else-is_built-via-else-is_built}

pub loop-place-preserved : goal.loop-place-preserved
loop-place-preserved c =
    let nodes_is = c.nodes-nodes.ensures.nodes in
    let lt : c.loop-place.place < length c.args.graph.now.nodes = omega (arith, ap length nodes_is) in
    rw nodes_is (greatest_step c.args.graph.now c.nodes-nodes.ensures.graph c.args.numbers.now c.requires c.loop-place.place
    c.index-nodes-place.result c.loop-place.greatest c.if-is_built.greatest lt (rw nodes_is at c.index-nodes-place.is)
    (rw nodes_is at c.loop-place.invariant) (elim c.if-is_built.branch [
      | then-is_built+then-numbers-place w ↦ inl (sym c.is_built.ensures ∙ w.if-is_built.true, w.if-numbers-place.true, w.greatest-is)
      | else-is_built w ↦ inr (
        elim w.else-is_built.branch [
          | else-is_built-via-then-is_built+else-numbers-place w' ↦ inr w'.if-numbers-place.false
          | else-is_built-via-else-is_built w' ↦ inl (sym c.is_built.ensures ∙ w'.if-is_built.false)
        ],
        w.greatest-is,
      )
    ]))
