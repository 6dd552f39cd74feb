-- While hashes are found: those of some nodes, by the places of the nodes.
use Rattle.std.specs.Prelude.{◌≡◌, ℕ, ◌-◌, ◌≤◌, ◌<◌, Bool, false, List, [], map, length, IsTrue, slice_index_or}
use Rattle.std.specs.List.{AllZip}
use Rattle.std.specs.Str.{bytes_eq}
use Rattle.reachability.specs.Paths.{level}
use Rattle.reachability.specs.Places.{IsAt}
use Rattle.graph_core.specs.Graphs.{Text, Content, name_of}
use Rattle.graph_core.specs.Paths.{arcs_of}
use Rattle.graph_core.specs.declared.node.Edge.{Edge}
use Rattle.lock_writer.specs.Hashes.{node_hash}

abbrev pub names_of : Content → List Text
names_of g = map name_of g.nodes

-- the hash of each node, in the order of the nodes
abbrev pub all_hashes : Content → List Text
all_hashes g = map (λ node. node_hash g node.name) g.nodes

-- the places of the children of these edges
abbrev pub AreChildren : Content → List Edge → List ℕ → Type 0
AreChildren g edges places = AllZip (λ edge place. IsAt (names_of g) edge.child place) edges places

-- the hash of the name stands at its place
abbrev pub IsHashAt : Content → List Text → Text → Type 0
IsHashAt g hashes name = (place : ℕ) → IsAt (names_of g) name place → slice_index_or hashes place [] ≡ node_hash g name

abbrev pub is_done : List Bool → ℕ → Bool
is_done done place = slice_index_or done place false

-- a place for each node, and those that are done have the hash
pub record AreHashes (g : Content) (hashes : List Text) (done : List Bool) : Type 0 where
  pub each : length hashes ≡ length g.nodes
  pub marks : length done ≡ length g.nodes
  pub right : (name : Text) (place : ℕ) → IsAt (names_of g) name place → IsTrue (is_done done place)
      → slice_index_or hashes place [] ≡ node_hash g name

-- how many rounds a node waits at most: one more than each of its children
abbrev pub waits : Content → Text → ℕ
waits g name = length g.nodes - level bytes_eq (arcs_of g) (names_of g) name

-- all nodes before the end are done that wait no longer than so many rounds
abbrev pub DoneBefore : Content → ℕ → ℕ → List Bool → Type 0
DoneBefore g end rounds done = (name : Text) (place : ℕ) → IsAt (names_of g) name place → waits g name ≤ rounds → place < end
    → IsTrue (is_done done place)

abbrev pub DoneWithin : Content → ℕ → List Bool → Type 0
DoneWithin g = DoneBefore g (length g.nodes)

-- what is done stays so
abbrev pub Keeps : List Bool → List Bool → Type 0
Keeps old new = (place : ℕ) → IsTrue (is_done old place) → IsTrue (is_done new place)
