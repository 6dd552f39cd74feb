-- The fault of entries, computed.
use Rattle.std.specs.Prelude.{ℕ, ◌+◌, Bool, true, false, not, Option, Some, None, List, [], ◌∷◌, if◌then◌else◌}
use Rattle.std.specs.List.{list_any, list_all, position}
use Rattle.std.specs.Str.{bytes_eq}
use Rattle.reachability.specs.Paths.{reaches}
use Rattle.target_table.specs.declared.entry.TargetEntry.{TargetEntry}
use Rattle.target_table.specs.declared.fault.TargetFault.{TargetFault}
use Rattle.target_table.specs.declared.fault.TargetFault.TheVariants.{TwiceNamed, UnknownParent, CyclicTargets}
use Rattle.target_table.specs.Targets.{names_of, parent_arcs}

abbrev pub is_one_of : List (List ℕ) → List ℕ → Bool
is_one_of names name = list_any (λ other. bytes_eq other name) names

-- the place of the first name that stands among those before it, where i names stand before these
abbrev pub first_twice : ℕ → List (List ℕ) → List (List ℕ) → Option ℕ
first_twice i before [] = None
first_twice i before (name ∷ names) = if is_one_of before name then Some i else first_twice (i + 1) (name ∷ before) names

-- the place of the first entry with a parent that is no entry's name
abbrev pub first_unknown_parent : List TargetEntry → Option ℕ
first_unknown_parent entries = position (λ entry. not (list_all (is_one_of (names_of entries)) entry.parents)) entries

-- whether some entry is its own ancestor
abbrev pub is_cyclic : List TargetEntry → Bool
is_cyclic entries = list_any (λ name. reaches bytes_eq (parent_arcs entries) name name) (names_of entries)

-- the first of the faults that exists
abbrev pub first_target_fault : Option ℕ → Option ℕ → Bool → Option TargetFault
first_target_fault (Some place) unknown cyclic = Some (TwiceNamed place)
first_target_fault None (Some place) cyclic = Some (UnknownParent place)
first_target_fault None None true = Some CyclicTargets
first_target_fault None None false = None

-- the fault of entries, if they have one
abbrev pub fault_of : List TargetEntry → Option TargetFault
fault_of entries = first_target_fault (first_twice 0 [] (names_of entries)) (first_unknown_parent entries) (is_cyclic entries)
