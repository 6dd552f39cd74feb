use Rattle.std.proofs.Common.{◌≡◌, ◌-◌, ◌+◌, subst, length, drop, arith}
use Rattle.lockfile.specs.Named.{AreNames}
use Rattle.lockfile.proofs.EdgeLaws.{names_more}
use Rattle.lockfile.proofs.names.names_by_hash.Goals as goal

pub loop-done-preserved : goal.loop-done-preserved
loop-done-preserved c =
    let nodes = c.args.nodes.now in
    let done = c.loop-done.done in
    let lt = c.loop-done-test.true in
    let before : length nodes - done ≡ (length nodes - 1 - done) + 1 = omega (arith, lt) in
    let after : length nodes - 1 - done ≡ length nodes - (done + 1) = omega (arith, lt) in
    subst (λ i. AreNames (drop i nodes) c.add_name.new.names) after
    (names_more nodes (length nodes - 1 - done) c.index-nodes-place.result c.loop-done.names c.add_name.new.names (omega (arith, lt))
    c.index-nodes-place.is
    (subst (λ i. AreNames (drop i nodes) c.loop-done.names) before c.loop-done.invariant) c.in_ok-add_name.ensures)

pub returns : goal.returns
returns c =
    let nodes = c.args.nodes.now in
    let none : length nodes - c.loop-done.done ≡ 0 = omega (arith, c.loop-done-test.false) in
    subst (λ i. AreNames (drop i nodes) c.loop-done.names) none c.loop-done.invariant
