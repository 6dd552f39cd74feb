use Rattle.std.proofs.Common.{◌∙◌, ◌-◌, [], length, arith}
use Rattle.std.proofs.lemmas.List.{get_or_read}
use Rattle.install_plan.proofs.ChainLaws.{has_next, one_down}
use Rattle.install_plan.proofs.chain.chain_of.Goals as goal

pub next_name-name-requires : goal.next_name-name-requires
next_name-name-requires c =
    let wave = c.as_slice-wave.ensures
    ∙ get_or_read c.args.waves.now (length c.args.waves.now - 1 - c.loop-done.done) _ (omega (arith, c.loop-done-test.true))
    c.index-waves-waves.is [] in
    rw wave (has_next c.args.graph.now _ _ _ _ c.loop-done.invariant c.loop-done-test.true c.requires)

pub loop-done-preserved : goal.loop-done-preserved
loop-done-preserved c =
    let wave = c.as_slice-wave.ensures
    ∙ get_or_read c.args.waves.now (length c.args.waves.now - 1 - c.loop-done.done) _ (omega (arith, c.loop-done-test.true))
    c.index-waves-waves.is [] in
    rw (c.in_ok-push.ensures.ok, c.in_ok-duplicate.ensures)
    (one_down c.args.graph.now _ _ _ _ c.loop-done.invariant c.loop-done-test.true c.next_name-name.result.now
    (rw wave at c.next_name-name.ensures))
