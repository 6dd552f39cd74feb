use Rattle.std.proofs.Common.{ap, sym, ◌∙◌, ◌+◌, ◌∷◌, drop, refl}
use Rattle.std.proofs.lemmas.List.{drop_all}
use Rattle.graph_core.specs.Graphs.{ends_of, pair_cmp}
use Rattle.lockfile.specs.Named.{HasEnds}
use Rattle.lockfile.proofs.Adding.{ends_kept, none_left, one_less}
use Rattle.lock_writer.proofs.KnownLaws.{all_at}
use Rattle.lockfile.proofs.EdgeLaws.{drop_one}
use Rattle.lockfile.proofs.graph.add_edges.Goals as goal

pub loop-edge-init : goal.loop-edge-init
loop-edge-init c = record {
  edges = rw c.requires.none (λ k. refl);
  nodes = refl;
  providers = refl;
}

pub push_edge-requires : goal.push_edge-requires
push_edge-requires c =
    ends_kept c.args.graph.now c.loop-edge.graph c.edge-item.result c.in_ok-made.made c.loop-edge.invariant.nodes c.in_ok-made.ensures
    (all_at (HasEnds c.args.graph.now) c.args.edges.now c.loop-edge.edge-index c.edge-item.result c.requires.ends c.loop-edge-test.true
    c.edge-item.is)

pub loop-edge-preserved : goal.loop-edge-preserved
loop-edge-preserved c =
    let edges = c.args.edges.now in
    let i = c.loop-edge.edge-index in
    let rest = drop (i + 1) edges in
    let first = drop_one edges i c.edge-item.result c.loop-edge-test.true c.edge-item.is
    ∙ ap (λ edge. edge ∷ rest) (sym c.in_ok-made.ensures) in
    record {
      edges = one_less pair_cmp ends_of c.loop-edge.graph.edges c.push_edge.new.graph.edges (drop i edges) rest edges c.in_ok-made.made
          c.in_ok-push_edge.ensures.edges first c.loop-edge.invariant.edges;
      nodes = c.in_ok-push_edge.ensures.nodes ∙ c.loop-edge.invariant.nodes;
      providers = c.in_ok-push_edge.ensures.providers ∙ c.loop-edge.invariant.providers;
    }

pub returns-clause-edges : goal.returns-clause-edges
returns-clause-edges c =
    none_left pair_cmp ends_of c.loop-edge.graph.edges (drop c.loop-edge.edge-index c.args.edges.now) c.args.edges.now
    (drop_all c.loop-edge.edge-index c.args.edges.now c.loop-edge-test.false) c.loop-edge.invariant.edges
