-- Schedules: a wave for each node to build, children before their parents.
use Rattle.std.specs.Prelude.{◌≡◌, ◌↔◌, ℕ, ◌+◌, ◌<◌, ◌≤◌, List, [], map, filter, All, Contains, slice_index_or}
use Rattle.std.specs.List.Sorted.{IsStrictlySortedBy}
use Rattle.graph_core.specs.OfVariantValues.Texts.{byte_cmp}
use Rattle.graph_core.specs.Graphs.{Text, Content, is_built, name_of}
use Rattle.graph_core.specs.Paths.{JoinedIn}

-- the name is that of a node to build
abbrev pub IsBuilt : Content → Text → Type 0
IsBuilt g name = Contains (map name_of (filter is_built g.nodes)) name

-- a schedule: each node to build has a wave from 1 on, and a child to build has a smaller one than its parent
pub record IsSchedule (g : Content) (wave_of : Text → ℕ) : Type 0 where
  pub from_one : (name : Text) → IsBuilt g name → 1 ≤ wave_of name
  pub rises : (parent child : Text) → IsBuilt g parent → IsBuilt g child → JoinedIn g parent child
      → wave_of child < wave_of parent

-- the earliest schedule: none has a node in a smaller wave
pub record IsEarliest (g : Content) (wave_of : Text → ℕ) : Type 0 where
  pub schedule : IsSchedule g wave_of
  pub least : (other : Text → ℕ) → IsSchedule g other → (name : Text) → IsBuilt g name → wave_of name ≤ other name

-- the wave at a place of the list, the first at place 0
abbrev pub wave_at : List (List Text) → ℕ → List Text
wave_at waves place = slice_index_or waves place []

-- the waves from 1 on, up to the greatest that a node has: each has just its names, once and in byte order
pub record AreWaves (g : Content) (wave_of : Text → ℕ) (waves : List (List Text)) : Type 0 where
  pub order : All (IsStrictlySortedBy byte_cmp) waves
  pub exact : (place : ℕ) (name : Text) → Contains (wave_at waves place) name ↔ (IsBuilt g name × (wave_of name ≡ place + 1))
  pub filled : All (λ names. (name : Text) × Contains names name) waves
