-- The state of a search: places that are marked from a base on, and waiting ones, whose arcs were not yet followed.
use Rattle.std.specs.Prelude.{◌≡◌, ◌↔◌, ◌⊎◌, ℕ, ◌+◌, ◌<◌, ◌≤◌, Bool, not, List, length, All, Contains, count_by}
use Rattle.reachability.specs.Paths.{Path}
use Rattle.reachability.specs.Places.{LeadsTo, IsMarked}

-- how much is left to do: places without a mark, and places that wait
abbrev pub left : List Bool → List ℕ → ℕ
left marks waiting = count_by not marks + length waiting

-- these places were visited: each has a mark, and those that had none wait
pub record Visits (base : ℕ) (places : List ℕ) (marks new_marks : List Bool) (waiting new_waiting : List ℕ) : Type 0 where
  pub each : length new_marks ≡ length marks
  pub visited : All (λ q. IsMarked new_marks (base + q)) places
  pub kept : (k : ℕ) → IsMarked marks k → IsMarked new_marks k
  pub still_waiting : (q : ℕ) → Contains waiting q → Contains new_waiting q
  pub from_marked : (k : ℕ) → IsMarked new_marks k → IsMarked marks k
      ⊎ ((q : ℕ) × (k ≡ base + q) × Contains places q × Contains new_waiting q)
  pub from_waiting : (q : ℕ) → Contains new_waiting q → Contains waiting q ⊎ (Contains places q × IsMarked new_marks (base + q))
  pub work : left new_marks new_waiting ≡ left marks waiting

-- what is marked is reached, and all arcs of what does not wait were followed
pub record IsSearched (heads : List (List ℕ)) (from base : ℕ) (before marks : List Bool) (waiting : List ℕ) : Type 0 where
  pub each : length marks ≡ length before
  pub marked : (q : ℕ) → q < length heads → IsMarked marks (base + q) → Path (LeadsTo heads) from q
  pub waits : (q : ℕ) → Contains waiting q → (q < length heads) × ((q ≡ from) ⊎ IsMarked marks (base + q))
  pub followed : (p q : ℕ) → (p ≡ from) ⊎ IsMarked marks (base + p) → LeadsTo heads p q → Contains waiting p ⊎ IsMarked marks (base + q)
  pub kept : (k : ℕ) → IsMarked before k → IsMarked marks k
  pub others : (k : ℕ) → IsMarked marks k → IsMarked before k ⊎ ((q : ℕ) × (k ≡ base + q) × (q < length heads))

-- the marks from the base on are those of the places that paths lead to, and all others are as before
pub record MarksRow (heads : List (List ℕ)) (from base : ℕ) (before marks : List Bool) : Type 0 where
  pub each : length marks ≡ length before
  pub reached : (q : ℕ) → q < length heads → IsMarked marks (base + q) ↔ Path (LeadsTo heads) from q
  pub others : (k : ℕ) → (k < base) ⊎ (base + length heads ≤ k) → IsMarked marks k ↔ IsMarked before k
