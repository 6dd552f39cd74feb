-- Entries of targets: their names, their ancestors, and their faults.
use Rattle.std.specs.Prelude.{◌≡◌, ◌⊎◌, ℕ, ◌<◌, Bool, true, ◌&&◌, ◌||◌, Option, Some, None, IfSome, List, length, map, take, Contains}
use Rattle.std.specs.List.{HoldsAt, position, flat_map}
use Rattle.std.specs.Str.{bytes_eq}
use Rattle.reachability.specs.Paths.{Path, HasArc, IsAcyclic, reaches}
use Rattle.target_table.specs.declared.entry.TargetEntry.{TargetEntry}
use Rattle.target_table.specs.declared.fault.TargetFault.{TargetFault}
use Rattle.target_table.specs.declared.fault.TargetFault.TheVariants.{TwiceNamed, UnknownParent, CyclicTargets, OutOfMemory}

abbrev pub names_of : List TargetEntry → List (List ℕ)
names_of entries = map (λ entry. entry.name) entries

-- the place of a name, which only the names of entries have
abbrev pub place_of : List TargetEntry → List ℕ → Option ℕ
place_of entries name = position (λ other. bytes_eq other name) (names_of entries)

-- each name with each of its parents
abbrev pub parent_arcs : List TargetEntry → List (List ℕ × List ℕ)
parent_arcs entries = flat_map (λ entry. map (λ parent. (entry.name, parent)) entry.parents) entries

-- one or more steps to a parent lead from the target to its ancestor
abbrev pub HasAncestor : List TargetEntry → List ℕ → List ℕ → Type 0
HasAncestor entries = Path (HasArc (parent_arcs entries))

-- the test for that
abbrev pub has_ancestor : List TargetEntry → List ℕ → List ℕ → Bool
has_ancestor entries = reaches bytes_eq (parent_arcs entries)

-- ---- faults

-- the entry at the place has the name of one before it
abbrev pub IsTwice : List TargetEntry → ℕ → Type 0
IsTwice entries place = (place < length entries) × HoldsAt (λ entry. Contains (take place (names_of entries)) entry.name) entries place

-- the entry at the place has a parent that is no entry's name
abbrev pub IsUnknown : List TargetEntry → ℕ → Type 0
IsUnknown entries place = (place < length entries)
    × HoldsAt (λ entry. (parent : List ℕ) × Contains entry.parents parent × (Contains (names_of entries) parent → ⊥)) entries place

-- the place has the fault, and none before it
abbrev pub IsFirst : (List TargetEntry → ℕ → Type 0) → List TargetEntry → ℕ → Type 0
IsFirst IsFault entries place = IsFault entries place × ((k : ℕ) → k < place → IsFault entries k → ⊥)

-- no place has the fault
abbrev pub HasNone : (List TargetEntry → ℕ → Type 0) → List TargetEntry → Type 0
HasNone IsFault entries = (k : ℕ) → IsFault entries k → ⊥

-- the fault of entries: the first that exists, at its least place
abbrev pub IsTargetFault : List TargetEntry → TargetFault → Type 0
IsTargetFault entries (TwiceNamed place) = IsFirst IsTwice entries place
IsTargetFault entries (UnknownParent place) = HasNone IsTwice entries × IsFirst IsUnknown entries place
IsTargetFault entries CyclicTargets = HasNone IsTwice entries × HasNone IsUnknown entries
    × ((name : List ℕ) × HasAncestor entries name name)
IsTargetFault entries OutOfMemory = Unit {0}

-- entries without a fault
pub record AreTargets (entries : List TargetEntry) : Type 0 where
  pub once : HasNone IsTwice entries
  pub known : HasNone IsUnknown entries
  pub acyclic : IsAcyclic (HasArc (parent_arcs entries))

-- ---- ranges

-- the target is the other or has it as an ancestor
abbrev pub IsAtLeast : List TargetEntry → List ℕ → List ℕ → Type 0
IsAtLeast entries target low = (target ≡ low) ⊎ HasAncestor entries target low

-- each end that is given bounds the target
abbrev pub IsInRange : List TargetEntry → List ℕ → Option (List ℕ) → Option (List ℕ) → Type 0
IsInRange entries target low high = IfSome low (λ l. IsAtLeast entries target l) × IfSome high (λ h. IsAtLeast entries h target)

-- ---- the tests for ranges

abbrev pub is_at_least : List TargetEntry → List ℕ → List ℕ → Bool
is_at_least entries target low = bytes_eq target low || has_ancestor entries target low

-- an end that is not given bounds nothing
abbrev pub keeps_end : (List ℕ → Bool) → Option (List ℕ) → Bool
keeps_end test None = true
keeps_end test (Some end) = test end

abbrev pub in_range : List TargetEntry → List ℕ → Option (List ℕ) → Option (List ℕ) → Bool
in_range entries target low high = keeps_end (is_at_least entries target) low && keeps_end (λ h. is_at_least entries h target) high
