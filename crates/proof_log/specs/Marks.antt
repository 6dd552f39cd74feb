-- Ids in lists, and marks of clauses by their ids.
use Rattle.std.specs.Prelude.{◌≡◌, ℕ, ◌<◌, Bool, false, ◌||◌, ◌==◌, List, [], ◌∷◌, Some, length, slice_get}

-- a number stands in a list
abbrev pub stands : List ℕ → ℕ → Bool
stands [] x = false
stands (y ∷ ys) x = (y == x) || stands ys x

-- each clause with a mark is marked exactly where it is used
abbrev pub AreMarks : List Bool → (ℕ → Bool) → Type 0
AreMarks marks used = (x : ℕ) → x < length marks → slice_get marks x ≡ Some (used x)
