use Rattle.lock_writer.proofs.KnownLaws.{start_right, none_waits, all_right, all_within}
use Rattle.lock_writer.proofs.hashes.node_hashes.Goals as goal

pub loop-round-init : goal.loop-round-init
loop-round-init c = record {
  right = start_right c.args.graph.now _ _ c.count-places.result c.count-places.ensures.count c.in_ok-hashes.ensures c.in_ok-done.ensures;
  within = none_waits c.args.graph.now c.count-places.ensures.graph c.requires _;
}

pub loop-round-preserved : goal.loop-round-preserved
loop-round-preserved c = record {
  right = c.in_ok-find_hashes.ensures.right;
  within = c.in_ok-find_hashes.ensures.more c.loop-round.round c.loop-round.invariant.within;
}

pub returns : goal.returns
returns c = all_right c.args.graph.now _ _ c.loop-round.invariant.right
    (all_within c.args.graph.now c.count-places.ensures.graph c.requires _ c.count-places.result c.loop-round.round
    c.count-places.ensures.count c.loop-round-test.false c.loop-round.invariant.within)
