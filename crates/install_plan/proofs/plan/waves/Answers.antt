use Rattle.install_plan.specs.Children.{wave_in}
use Rattle.install_plan.proofs.EarliestLaws.{have_heights, earliest, steps_down}
use Rattle.install_plan.proofs.WaveLaws.{are_waves, go_down}
use Rattle.install_plan.proofs.plan.waves.Goals as goal

pub numbers_of-requires-clause-heights : goal.numbers_of-requires-clause-heights
numbers_of-requires-clause-heights c = rw c.as_slice.ensures.value
    (have_heights c.args.graph.now _ c.in_ok-children.ensures.children c.requires)

pub chain_of-requires : goal.chain_of-requires
chain_of-requires c =
    let g = c.args.graph.now in
    let graph = c.in_ok-children.ensures.graph in
    let children = c.in_ok-children.ensures.children in
    let numbers = c.in_ok-numbers.numbers.items in
    let found = rw c.as_slice.ensures.value at c.in_ok-numbers.ensures in
    rw c.as_slice-3.ensures.value (go_down g graph (wave_in g numbers) c.in_ok-waves.waves.items
    (rw c.as_slice-2.ensures.value at c.in_ok-waves.ensures)
    (earliest g c.in_ok-children.children.items children graph numbers found).schedule.from_one
    (steps_down g c.in_ok-children.children.items children graph numbers found))

pub returns : goal.returns
returns c =
    let g = c.args.graph.now in
    let graph = c.in_ok-children.ensures.graph in
    let children = c.in_ok-children.ensures.children in
    let numbers = c.in_ok-numbers.numbers.items in
    let found = rw c.as_slice.ensures.value at c.in_ok-numbers.ensures in
    let first = earliest g c.in_ok-children.children.items children graph numbers found in
    rw c.from_vec.ensures (record {
      earliest = (
        wave_in g numbers,
        first,
        are_waves g graph (wave_in g numbers) c.in_ok-waves.waves.items
            (rw c.as_slice-2.ensures.value at c.in_ok-waves.ensures) first.schedule.from_one
            (steps_down g c.in_ok-children.children.items children graph numbers found),
      );
      down = rw c.as_slice-3.ensures.value at c.in_ok-chain.ensures;
    })
