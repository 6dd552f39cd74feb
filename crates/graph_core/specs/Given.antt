-- Graphs by what they have at names.
use Rattle.std.specs.Prelude.{◌≡◌, List, map, filter_map, flat_map, Option, Some, option_map, Contains}
use Rattle.std.specs.List.Sorted.{IsStrictlySortedBy}
use Rattle.keyed_lists.specs.OfVariantValues.Texts.{byte_cmp}
use Rattle.graph_core.specs.declared.node.Node.{Node}
use Rattle.graph_core.specs.declared.node.Edge.{Edge}
use Rattle.graph_core.specs.Graphs.{Text, Content}

abbrev pub pairs_of : List Text → List (Text × Text)
pairs_of names = flat_map (λ parent. map (λ child. (parent, child)) names) names

-- what is told at names and virtuals: a node, an edge to another name, a provider
pub record Given : Type 0 where
  pub node : Text → Option Node
  pub edge : Text → Text → Option Edge
  pub provider : Text → Option Text

-- the graph that has just what is told at these names and virtuals
unfoldable pub graph_by : List Text → List Text → Given → Content
graph_by names virtuals given = record {
  nodes = filter_map given.node names;
  edges = filter_map (λ pair. given.edge pair.0 pair.1) (pairs_of names);
  providers = filter_map (λ name. option_map (λ provider. (name, provider)) (given.provider name)) virtuals;
}

-- what is told of a name is of that name, and what edges and providers name has a node there
pub record IsGiven (names : List Text) (given : Given) : Type 0 where
  pub nodes : (name : Text) (node : Node) → given.node name ≡ Some node → node.name ≡ name
  pub edges : (parent child : Text) (edge : Edge) → given.edge parent child ≡ Some edge → (edge.parent ≡ parent) × (edge.child ≡ child)
  pub parents : (parent child : Text) (edge : Edge) → given.edge parent child ≡ Some edge → (node : Node) × (given.node parent ≡ Some node)
  pub children : (parent child : Text) (edge : Edge) → given.edge parent child ≡ Some edge → (node : Node) × (given.node child ≡ Some node)
  pub packages : (name provider : Text) → given.provider name ≡ Some provider → Contains names provider
      × ((node : Node) × (given.node provider ≡ Some node))

-- names in byte order, each once
abbrev pub AreNames : List Text → Type 0
AreNames names = IsStrictlySortedBy byte_cmp names
