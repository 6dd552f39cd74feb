-- Arcs between numbered places, and places of keys.
use Rattle.std.specs.Prelude.{◌≡◌, ◌↔◌, ℕ, ◌+◌, ◌*◌, ◌<◌, Bool, true, false, IsTrue, List, [], length, slice_index_or, All, Contains}
use Rattle.std.specs.List.{AllZip}
use Rattle.reachability.specs.Paths.{Path, HasArc}

-- an arc goes from p to q: each place has the list of those that its arcs lead to
abbrev pub LeadsTo : List (List ℕ) → ℕ → ℕ → Type 0
LeadsTo heads p q = Contains (slice_index_or heads p []) q

-- no arc leads past the last place
abbrev pub AreWithin : List (List ℕ) → Type 0
AreWithin heads = All (All (λ q. q < length heads)) heads

-- the places have just these arcs
pub record AreHeads (places : ℕ) (arcs : List (ℕ × ℕ)) (heads : List (List ℕ)) : Type 0 where
  pub each : length heads ≡ places
  pub same : (p q : ℕ) → LeadsTo heads p q ↔ HasArc arcs p q

-- the place is marked
abbrev pub IsMarked : List Bool → ℕ → Type 0
IsMarked marks q = slice_index_or marks q false ≡ true

-- a mark for each place, which it has exactly where a path leads to it
pub record MarksReached (heads : List (List ℕ)) (from : ℕ) (marks : List Bool) : Type 0 where
  pub each : length marks ≡ length heads
  pub reached : (q : ℕ) → IsMarked marks q ↔ Path (LeadsTo heads) from q

-- ---- all paths

-- a row of marks for each place, in one list
pub record PathMarks : Type 0 where
  pub places : ℕ
  pub marks : List Bool

-- whether a path leads from p to q: row p has a mark at q
abbrev pub leads : PathMarks → ℕ → ℕ → Bool
leads table p q = slice_index_or table.marks (p * table.places + q) false

-- it tells for each two places whether a path over the arcs leads from one to the other
pub record IsPathTable (places : ℕ) (arcs : List (ℕ × ℕ)) (table : PathMarks) : Type 0 where
  pub each : table.places ≡ places
  pub marks : (p q : ℕ) → p < places → q < places → IsTrue (leads table p q) ↔ Path (HasArc arcs) p q

-- ---- keys that are numbered

-- the key stands at the place
abbrev pub IsAt : {K : Type 0} → List K → K → ℕ → Type 0
IsAt keys key place = (place < length keys) × (slice_index_or keys place key ≡ key)

-- no key stands at two places
abbrev pub AreOnce : {K : Type 0} → List K → Type 0
AreOnce {K} keys = (key : K) (i j : ℕ) → IsAt keys key i → IsAt keys key j → i ≡ j

-- arcs between keys, numbered: the ends of each stand at its two places
abbrev pub AreNumbered : {K : Type 0} → List K → List (K × K) → List (ℕ × ℕ) → Type 0
AreNumbered keys arcs numbers = AllZip (λ arc number. IsAt keys arc.0 number.0 × IsAt keys arc.1 number.1) arcs numbers

-- the same of keys: it tells whether a path leads from the key at one place to that at another
pub record IsKeyTable {K : Type 0} (keys : List K) (arcs : List (K × K)) (table : PathMarks) : Type 0 where
  pub each : table.places ≡ length keys
  pub marks : (p q : K) (i j : ℕ) → IsAt keys p i → IsAt keys q j → IsTrue (leads table i j) ↔ Path (HasArc arcs) p q
