use Rattle.std.proofs.Common.{ap, sym, ◌∙◌, ◌+◌, ◌∷◌, drop, refl}
use Rattle.std.proofs.lemmas.List.{drop_all}
use Rattle.variant_values.specs.Texts.{byte_cmp}
use Rattle.keyed_lists.proofs.RiseLaws.{rises_none}
use Rattle.graph_core.specs.Graphs.{Text}
use Rattle.lockfile.specs.Locks.{named_hashes}
use Rattle.lockfile.proofs.Adding.{none_left, one_less}
use Rattle.lockfile.proofs.EdgeLaws.{drop_one}
use Rattle.lockfile.proofs.graph.hashes_of.Goals as goal

pub loop-node-init : goal.loop-node-init
loop-node-init c = record {
  order = rw c.new-hashes.ensures.items (rises_none byte_cmp);
  found = rw c.new-hashes.ensures.items (λ k. refl);
}

pub loop-node-preserved : goal.loop-node-preserved
loop-node-preserved c =
    let nodes = c.args.nodes.now in
    let i = c.loop-node.node-index in
    let rest = named_hashes (drop (i + 1) nodes) in
    let first = ap named_hashes (drop_one nodes i c.node-item.result c.loop-node-test.true c.node-item.is)
    ∙ ap (λ (name : Text). (name, c.node-item.result.described.hash) ∷ rest) (sym c.in_ok-name.ensures) in
    record {
      order = c.in_ok-push_hash.ensures.order;
      found = one_less byte_cmp (λ (h : Text × Text). h.0) c.loop-node.hashes.items c.push_hash.new.hashes.items
          (named_hashes (drop i nodes)) rest (named_hashes nodes) (c.in_ok-name.name, c.node-item.result.described.hash)
          c.in_ok-push_hash.ensures.found first c.loop-node.invariant.found;
    }

pub returns : goal.returns
returns c = record {
  order = rw c.from_vec.ensures c.loop-node.invariant.order;
  found = rw c.from_vec.ensures (none_left byte_cmp (λ (h : Text × Text). h.0) c.loop-node.hashes.items
      (named_hashes (drop c.loop-node.node-index c.args.nodes.now)) (named_hashes c.args.nodes.now)
      (ap named_hashes (drop_all c.loop-node.node-index c.args.nodes.now c.loop-node-test.false)) c.loop-node.invariant.found);
}
