-- Places of nodes and of their children, and the wave of each by its number.
use Rattle.std.specs.Prelude.{◌≡◌, ◌↔◌, ◌⊎◌, ℕ, ◌+◌, ◌<◌, ◌≤◌, ◌==◌, List, [], ◌∷◌, length, map, filter, Contains, if◌then◌else◌}
use Rattle.std.specs.Str.{bytes_eq}
use Rattle.graph_core.specs.OfReachability.Paths.{HasArc}
use Rattle.graph_core.specs.OfReachability.Places.{IsAt, LeadsTo}
use Rattle.graph_core.specs.Graphs.{Text, Content, name_of, is_built}
use Rattle.graph_core.specs.declared.node.Node.{Node}
use Rattle.graph_core.specs.declared.node.Edge.{Edge}
use Rattle.install_plan.specs.Schedules.{IsBuilt, wave_at}

abbrev pub names_of : Content → List Text
names_of g = map name_of g.nodes

-- the names of the nodes to build
abbrev pub built_of : List Node → List Text
built_of nodes = map name_of (filter is_built nodes)

-- an edge between nodes to build joins the names at two places
pub record IsBuiltArc (g : Content) (edges : List Edge) (i j : ℕ) : Type 0 where
  pub edge : Edge
  pub there : Contains edges edge
  pub parent : IsAt (names_of g) edge.parent i
  pub child : IsAt (names_of g) edge.child j
  pub parent_built : IsBuilt g edge.parent
  pub child_built : IsBuilt g edge.child

-- just the arcs of these edges that lie between nodes to build
pub record AreBuiltArcs (g : Content) (edges : List Edge) (arcs : List (ℕ × ℕ)) : Type 0 where
  pub exact : (i j : ℕ) → HasArc arcs i j ↔ IsBuiltArc g edges i j

-- for each node the places of the children to build, if it is itself to be built
pub record AreBuiltChildren (g : Content) (heads : List (List ℕ)) : Type 0 where
  pub each : length heads ≡ length g.nodes
  pub exact : (i j : ℕ) → LeadsTo heads i j ↔ IsBuiltArc g g.edges i j

-- ---- waves

-- the number of a name: that at the place of its node
unfoldable pub number_of : List Node → List ℕ → Text → ℕ
number_of [] numbers name = 0
number_of (node ∷ nodes) [] name = 0
number_of (node ∷ nodes) (number ∷ numbers) name = if bytes_eq node.name name then number else number_of nodes numbers name

abbrev pub wave_in : Content → List ℕ → Text → ℕ
wave_in g numbers = number_of g.nodes numbers

-- the names among these of the wave at a place, the first at place 0
abbrev pub with_number : (Text → ℕ) → ℕ → List Text → List Text
with_number wave_of place names = filter (λ name. wave_of name == place + 1) names

-- the greatest number of a node to build among these, or 0
pub record IsGreatest (wave_of : Text → ℕ) (names : List Text) (count : ℕ) : Type 0 where
  pub above : (name : Text) → Contains names name → wave_of name ≤ count
  pub there : (count ≡ 0) ⊎ ((name : Text) × Contains names name × (wave_of name ≡ count))

-- the names of the nodes to build, a list for each number from 1 up to the greatest
pub record AreByNumber (g : Content) (wave_of : Text → ℕ) (waves : List (List Text)) : Type 0 where
  pub greatest : IsGreatest wave_of (built_of g.nodes) (length waves)
  pub names : (place : ℕ) → place < length waves → wave_at waves place ≡ with_number wave_of place (built_of g.nodes)
