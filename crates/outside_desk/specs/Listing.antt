-- The names in a folder.
use Rattle.std.specs.Prelude.{◌≡◌, ◌≢◌, ℕ, ◌==◌, List, [], ◌∷◌, map, drop, length, Option, Some, None, Result, Ok, Err, Vec, String, if◌then◌else◌}
use Rattle.std.specs.List.{filter_map, starts_with, before_first}
use Rattle.std.specs.Option.{option_map, option_and_then}
use Rattle.std.specs.Ordering.{nat_cmp}
use Rattle.std.specs.List.Sorted.{IsStrictlySortedBy}
use Rattle.std.specs.Cmp.Lexicographic.{slice_cmp}
use Rattle.std.specs.Bool.{nat_eq}
use Rattle.std.specs.String.{string_bytes}
use Rattle.std.specs.FinMap.{keys}
use Rattle.std.specs.BTreeSet.{insert_key}
use Rattle.std.specs.declared.alloc.Global.{Global}
use Rattle.outside_desk.specs.Files.{Files}
use Rattle.outside_desk.specs.declared.fault.DeskFault.{DeskFault}
use Rattle.outside_desk.specs.declared.fault.DeskFault.TheVariants as desk_faults

-- what stands behind a front, where a text begins with it
unfoldable pub behind : List ℕ → List ℕ → Option (List ℕ)
behind front text = if starts_with nat_eq text front then Some (drop (length front) text) else None

-- what stands before the first `/`, or the end
unfoldable pub first_part : List ℕ → List ℕ
first_part text = before_first (λ b. b == 47) text

-- the text between `folder/` and the next `/`, or the path's end
abbrev pub name_below : List ℕ → List ℕ → Option (List ℕ)
name_below folder path = option_map first_part (option_and_then (behind (47 ∷ [])) (behind folder path))

-- names in byte order and each once, with one more
abbrev pub with_name : List (List ℕ) → List ℕ → List (List ℕ)
with_name names name = insert_key (slice_cmp nat_cmp) names name

abbrev pub with_names : List (List ℕ) → List (List ℕ) → List (List ℕ)
with_names names [] = names
with_names names (name ∷ more) = with_names (with_name names name) more

-- the names in a folder, in byte order and each once
unfoldable pub names_in : Files → List ℕ → List (List ℕ)
names_in files folder = with_names [] (filter_map (name_below folder) (keys files))

-- names in byte order, each once
abbrev pub AreInOrder : List (List ℕ) → Type 0
AreInOrder names = IsStrictlySortedBy (slice_cmp nat_cmp) names

-- what a listing answers
abbrev pub Lists : Files → List ℕ → Result (Vec (String Global) Global) DeskFault → Type 0
Lists files folder (Ok names) = (map string_bytes names.items ≡ names_in files folder) × (names_in files folder ≢ [])
Lists files folder (Err desk_faults.Missing) = names_in files folder ≡ []
Lists files folder (Err desk_faults.Failed) = Unit {0}
Lists files folder (Err desk_faults.OutOfMemory) = Unit {0}
