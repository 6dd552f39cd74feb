use Rattle.std.proofs.Common.{◌<◌, ◌∙◌, refl, sym, ap, length, arith}
use Rattle.std.proofs.lemmas.List.{get_or_default}
use Rattle.install_plan.proofs.WaveLaws.{sorted_step, wave_within, built_same}
use Rattle.install_plan.proofs.by_wave.by_wave.Goals as goal
use Rattle.install_plan.proofs.by_wave.by_wave.Goals.{then-is_built+in_ok-add_name, else-is_built}

pub add_name-requires : goal.add_name-requires
add_name-requires c =
    let nodes_is = c.nodes-nodes.ensures.nodes in
    let lt : c.loop-place.place < length c.args.graph.now.nodes = omega (arith, ap length nodes_is) in
    wave_within c.args.graph.now c.nodes-nodes.ensures.graph c.args.numbers.now c.requires.each c.loop-place.place
    c.index-nodes-place.result
    c.loop-place.waves.items c.greatest_built-count.result _ lt (rw nodes_is at c.index-nodes-place.is)
    (sym c.is_built.ensures ∙ c.if-is_built.true) c.greatest_built-count.ensures refl
    (c.requires.some c.loop-place.place 0 (omega (arith, lt, c.requires.each))) (rw nodes_is at c.loop-place.invariant)

pub loop-place-preserved : goal.loop-place-preserved
loop-place-preserved c =
    let nodes_is = c.nodes-nodes.ensures.nodes in
    let lt : c.loop-place.place < length c.args.graph.now.nodes = omega (arith, ap length nodes_is) in
    rw nodes_is (elim c.if-is_built.branch [
      | then-is_built+in_ok-add_name w ↦ rw (
        w.waves-is,
        w.in_ok-add_name.ensures,
        get_or_default c.nodes-nodes.result.now c.loop-place.place w.index-nodes-place-then-is_built.result c.index-nodes-place.result
            c.loop-place-test.true ∙ sym c.index-nodes-place.is,
      )
          (sorted_step c.args.graph.now c.nodes-nodes.ensures.graph c.args.numbers.now c.requires.each c.loop-place.place
          c.index-nodes-place.result c.loop-place.waves.items c.greatest_built-count.result _ lt (rw nodes_is at c.index-nodes-place.is)
          (sym c.is_built.ensures ∙ w.if-is_built.true) c.greatest_built-count.ensures refl
          (c.requires.some c.loop-place.place 0 (omega (arith, lt, c.requires.each))) (rw nodes_is at c.loop-place.invariant))
      | else-is_built w ↦ rw (
        w.waves-is,
        built_same c.args.graph.now.nodes c.loop-place.place c.index-nodes-place.result lt
            (rw nodes_is at c.index-nodes-place.is) (sym c.is_built.ensures ∙ w.if-is_built.false),
      ) (rw nodes_is at c.loop-place.invariant)
    ])
