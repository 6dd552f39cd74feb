-- Graphs as three lists in order.
use Rattle.std.specs.Prelude.{ℕ, Bool, true, false, ◌&&◌, ◌||◌, List, [], Option, map, filter, All, Contains, option_map, is_some}
use Rattle.std.specs.List.{list_all}
use Rattle.std.specs.Ordering.{on, then_cmp}
use Rattle.std.specs.Str.{bytes_eq}
use Rattle.std.specs.declared.cmp.Ordering.{Ordering}
use Rattle.keyed_lists.specs.OfVariantValues.Texts.{byte_cmp}
use Rattle.keyed_lists.specs.Keyed.{IsInOrder, rises, find_key, with_one}
use Rattle.graph_core.specs.declared.node.Node.{Node}
use Rattle.graph_core.specs.declared.node.Edge.{Edge}
use Rattle.graph_core.specs.declared.node.Kinds.{Kinds}
use Rattle.graph_core.specs.declared.node.Origin.{Origin}
use Rattle.graph_core.specs.declared.node.Origin.TheVariants.{Built, External, Installed}

-- a text, as its bytes
abbrev pub Text : Type 0
Text = List ℕ

-- a graph: its nodes by name, its edges by their ends, and the package that provides each virtual
pub record Content : Type 0 where
  pub nodes : List Node
  pub edges : List Edge
  pub providers : List (Text × Text)

abbrev pub no_content : Content
no_content = record { nodes = []; edges = []; providers = [] }

-- ---- attributes

abbrev pub no_kinds : Kinds
no_kinds = record { build = false; link = false; run = false }

-- it is that of the nodes to build
abbrev pub builds : Origin → Bool
builds origin = elim origin [ Built ↦ true | External place ↦ false | Installed hash ↦ false ]

-- the node is to be built
abbrev pub is_built : Node → Bool
is_built node = builds node.origin

-- ---- keys

abbrev pub name_of : Node → Text
name_of node = node.name

-- the names of an edge's ends, the parent first
abbrev pub ends_of : Edge → Text × Text
ends_of edge = (edge.parent, edge.child)

-- pairs of names, by the first and then by the second
abbrev pub pair_cmp : Text × Text → Text × Text → Ordering
pair_cmp = then_cmp (on (λ p. p.0) byte_cmp) (on (λ p. p.1) byte_cmp)

-- an edge has one kind at least
abbrev pub has_kind : Kinds → Bool
has_kind kinds = kinds.build || kinds.link || kinds.run

-- a provider is a virtual and its package
abbrev pub virtual_of : Text × Text → Text
virtual_of provider = provider.0

-- ---- look-ups

abbrev pub node_of : Content → Text → Option Node
node_of g name = find_key byte_cmp name_of g.nodes name

abbrev pub edge_of : Content → Text → Text → Option Edge
edge_of g parent child = find_key pair_cmp ends_of g.edges (parent, child)

abbrev pub provider_of : Content → Text → Option Text
provider_of g name = option_map (λ provider. provider.1) (find_key byte_cmp virtual_of g.providers name)

abbrev pub edges_from : Content → Text → List Edge
edges_from g name = filter (λ edge. bytes_eq edge.parent name) g.edges

-- ---- what a graph is

abbrev pub HasNode : Content → Text → Type 0
HasNode g name = Contains (map name_of g.nodes) name

-- each list is in order, each key once; edges go from nodes to nodes, and packages that provide are nodes
pub record IsGraph (g : Content) : Type 0 where
  pub nodes : IsInOrder byte_cmp name_of g.nodes
  pub edges : IsInOrder pair_cmp ends_of g.edges
  pub providers : IsInOrder byte_cmp virtual_of g.providers
  pub parents : All (λ edge. HasNode g edge.parent) g.edges
  pub children : All (λ edge. HasNode g edge.child) g.edges
  pub packages : All (λ provider. HasNode g provider.1) g.providers

-- the test for that
unfoldable pub is_graph : Content → Bool
is_graph g =
    rises byte_cmp (map name_of g.nodes)
    && rises pair_cmp (map ends_of g.edges)
    && rises byte_cmp (map virtual_of g.providers)
    && list_all (λ edge. is_some (node_of g edge.parent)) g.edges
    && list_all (λ edge. is_some (node_of g edge.child)) g.edges
    && list_all (λ provider. is_some (node_of g provider.1)) g.providers

-- ---- one thing more

abbrev pub with_node : Content → Node → Content
with_node g node = record g { nodes = with_one byte_cmp name_of g.nodes node }

abbrev pub with_edge : Content → Edge → Content
with_edge g edge = record g { edges = with_one pair_cmp ends_of g.edges edge }

abbrev pub with_provider : Content → Text → Text → Content
with_provider g name provider = record g { providers = with_one byte_cmp virtual_of g.providers (name, provider) }
