use Rattle.std.proofs.Common.{ap, ap₂, sym, ◌∙◌, ◌+◌, ◌∷◌, drop, refl}
use Rattle.std.proofs.lemmas.List.{drop_all}
use Rattle.variant_values.specs.Texts.{byte_cmp}
use Rattle.graph_core.specs.Graphs.{Text, HasNode, virtual_of}
use Rattle.lockfile.proofs.Adding.{node_kept, none_left, one_less}
use Rattle.lock_writer.proofs.KnownLaws.{all_at}
use Rattle.lockfile.proofs.EdgeLaws.{drop_one}
use Rattle.lockfile.proofs.graph.add_providers.Goals as goal

pub loop-provider-init : goal.loop-provider-init
loop-provider-init c = record {
  providers = rw c.requires.none (λ k. refl);
  nodes = refl;
  edges = refl;
}

pub push_provider-requires : goal.push_provider-requires
push_provider-requires c =
    node_kept c.args.graph.now c.loop-provider.graph c.provider-item.result.1 c.in_ok-by.by c.loop-provider.invariant.nodes
    c.in_ok-by.ensures
    (all_at (λ (p : Text × Text). HasNode c.args.graph.now p.1) c.args.providers.now c.loop-provider.provider-index c.provider-item.result
    c.requires.nodes c.loop-provider-test.true c.provider-item.is)

pub loop-provider-preserved : goal.loop-provider-preserved
loop-provider-preserved c =
    let providers = c.args.providers.now in
    let i = c.loop-provider.provider-index in
    let rest = drop (i + 1) providers in
    let made = ap₂ (λ (a b : Text). (a, b)) c.in_ok-name.ensures c.in_ok-by.ensures in
    let first = drop_one providers i c.provider-item.result c.loop-provider-test.true c.provider-item.is
    ∙ ap (λ provider. provider ∷ rest) (sym made) in
    record {
      providers = one_less byte_cmp virtual_of c.loop-provider.graph.providers c.push_provider.new.graph.providers (drop i providers) rest
          providers (c.in_ok-name.name, c.in_ok-by.by) c.in_ok-push_provider.ensures.providers first c.loop-provider.invariant.providers;
      nodes = c.in_ok-push_provider.ensures.nodes ∙ c.loop-provider.invariant.nodes;
      edges = c.in_ok-push_provider.ensures.edges ∙ c.loop-provider.invariant.edges;
    }

pub returns-clause-providers : goal.returns-clause-providers
returns-clause-providers c =
    none_left byte_cmp virtual_of c.loop-provider.graph.providers (drop c.loop-provider.provider-index c.args.providers.now)
    c.args.providers.now
    (drop_all c.loop-provider.provider-index c.args.providers.now c.loop-provider-test.false) c.loop-provider.invariant.providers
