-- What the heap of variables keeps of its tables.
use Rattle.std.specs.Prelude.{◌≡◌, ℕ, ◌<◌, ◌≤◌, List, [], ◌∷◌, length}

abbrev pub AllUnder : ℕ → List ℕ → Type 0
AllUnder n [] = Unit {0}
AllUnder n (x ∷ xs) = (x < n) × AllUnder n xs

-- the tables are of one length, and name variables and places that there are
pub record IsHeap (heap places : List ℕ) (waiting activities phases : ℕ) : Type 0 where
  pub heap_under : AllUnder (length heap) heap
  pub places_under : AllUnder (length heap) places
  pub waiting_within : waiting ≤ length heap
  pub same_places : length places ≡ length heap
  pub same_activities : activities ≡ length heap
  pub same_phases : phases ≡ length heap
