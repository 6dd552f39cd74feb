use Rattle.std.proofs.Common.{arith, ℕ, ◌<◌}
use Rattle.std.proofs.lemmas.Slice.Zip.{AllZip-long}
use Rattle.lock_writer.proofs.KnownLaws.{placed, children_at, one_further}
use Rattle.lock_writer.proofs.hashes.find_hashes.Goals as goal

none_below : (place : ℕ) → place < 0 → ⊥
none_below place lt = omega (arith, lt)

pub bounds-children-place : goal.bounds-children-place
bounds-children-place c =
    let long = AllZip-long _ c.args.graph.now.nodes c.args.children.now c.requires.children in
    let lt = rw c.nodes-nodes.ensures.nodes at c.loop-place-test.true in
    omega (arith, long, lt)

pub find_hash-requires-clause-there : goal.find_hash-requires-clause-there
find_hash-requires-clause-there c =
    let nodes = c.nodes-nodes.ensures.nodes in
    (placed c.args.graph.now c.nodes-nodes.ensures.graph c.loop-place.place c.index-nodes-place.result (rw nodes at c.loop-place-test.true)
    (rw nodes at c.index-nodes-place.is)).0

pub find_hash-requires-clause-found : goal.find_hash-requires-clause-found
find_hash-requires-clause-found c =
    let nodes = c.nodes-nodes.ensures.nodes in
    (placed c.args.graph.now c.nodes-nodes.ensures.graph c.loop-place.place c.index-nodes-place.result (rw nodes at c.loop-place-test.true)
    (rw nodes at c.index-nodes-place.is)).1

pub find_hash-requires-clause-children : goal.find_hash-requires-clause-children
find_hash-requires-clause-children c =
    let nodes = c.nodes-nodes.ensures.nodes in
    rw c.as_slice-places.ensures (children_at c.args.graph.now c.args.children.now c.loop-place.place c.index-nodes-place.result
    c.index-children-place.result c.requires.children
    (rw nodes at c.loop-place-test.true) (rw nodes at c.index-nodes-place.is) c.index-children-place.is)

pub loop-place-init : goal.loop-place-init
loop-place-init c = record {
  right = c.requires.right;
  kept = λ q told. told;
  more = λ rounds within name place at waits lt. absurd (none_below place lt);
}

pub loop-place-preserved : goal.loop-place-preserved
loop-place-preserved c =
    let nodes = c.nodes-nodes.ensures.nodes in
    let there = (placed c.args.graph.now c.nodes-nodes.ensures.graph c.loop-place.place c.index-nodes-place.result
    (rw nodes at c.loop-place-test.true) (rw nodes at c.index-nodes-place.is)).0 in
    let children = children_at c.args.graph.now c.args.children.now c.loop-place.place c.index-nodes-place.result
    c.index-children-place.result c.requires.children
    (rw nodes at c.loop-place-test.true) (rw nodes at c.index-nodes-place.is) c.index-children-place.is in
    record {
      right = c.in_ok-find_hash.ensures.right;
      kept = λ q told. c.in_ok-find_hash.ensures.kept q (c.loop-place.invariant.kept q told);
      more = λ rounds within. one_further c.args.graph.now c.nodes-nodes.ensures.graph c.requires.acyclic c.args.done.now.items
          c.loop-place.done.items c.find_hash.new.done.items c.loop-place.place rounds
          c.index-nodes-place.result c.index-children-place.result there children within c.loop-place.invariant.kept
          c.in_ok-find_hash.ensures.kept
          (rw c.as_slice-places.ensures at c.in_ok-find_hash.ensures.found) (c.loop-place.invariant.more rounds within);
    }

pub returns : goal.returns
returns c =
    let end = rw c.nodes-nodes.ensures.nodes at c.loop-place-test.false in
    record {
      right = c.loop-place.invariant.right;
      more = λ rounds within name place at waits lt. c.loop-place.invariant.more rounds within name place at waits (omega (arith, lt, end));
    }
