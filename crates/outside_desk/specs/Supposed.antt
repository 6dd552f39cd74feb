-- What a machine is supposed to hold behind a call of its desk: the same files as before where these have it as the machine answered,
-- and else none are told any more.
use Rattle.std.specs.Prelude.{ℕ, ◌-◌, ◌&&◌, ◌||◌, nat_le, nat_lt, not, is_none, Bool, true, false, List, [], ◌∷◌, map, length, take, drop, Option, Some, None, Result, Ok, Err, Vec, String}
use Rattle.std.specs.Str.{bytes_eq}
use Rattle.std.specs.String.{string_bytes}
use Rattle.std.specs.Cmp.Lexicographic.{pointwise}
use Rattle.std.specs.FinMap.{get}
use Rattle.std.specs.declared.alloc.Global.{Global}
use Rattle.outside_desk.specs.Files.{Files, with_file}
use Rattle.outside_desk.specs.Listing.{names_in}
use Rattle.outside_desk.specs.declared.fault.DeskFault.{DeskFault}
use Rattle.outside_desk.specs.declared.fault.DeskFault.TheVariants as desk_faults
use Rattle.outside_desk.specs.declared.supposed.DeskCall.{DeskCall}
use Rattle.outside_desk.specs.declared.supposed.DeskCall.TheVariants as calls

-- whether these are n bytes of the file from a place on (`IsPiece`)
unfoldable pub is_piece : List ℕ → ℕ → List ℕ → ℕ → Bool
is_piece file from out n =
    nat_le n (length out) && (nat_le n (length file - from) && (bytes_eq (take n out) (take n (drop from file))
    && (nat_le (length out) 0 || (nat_le (length file) from || nat_lt 0 n))))

-- whether a reading of a file, which may be missing, answers so (`ReadsAt`)
unfoldable pub reads_at : Option (List ℕ) → ℕ → List ℕ → Result ℕ DeskFault → Bool
reads_at (Some file) from out (Ok n) = is_piece file from out n
reads_at None from out (Ok n) = false
reads_at file from out (Err desk_faults.Missing) = is_none file
reads_at file from out (Err desk_faults.Failed) = true
reads_at file from out (Err desk_faults.OutOfMemory) = true

abbrev pub is_empty : List (List ℕ) → Bool
is_empty [] = true
is_empty (name ∷ names) = false

-- whether a listing of a folder with these names answers so (`Lists`)
unfoldable pub lists : List (List ℕ) → Result (Vec (String Global) Global) DeskFault → Bool
lists inside (Ok names) = pointwise bytes_eq (map string_bytes names.items) inside && not (is_empty inside)
lists inside (Err desk_faults.Missing) = is_empty inside
lists inside (Err desk_faults.Failed) = true
lists inside (Err desk_faults.OutOfMemory) = true

-- whether a file holds the bytes behind a put: of each put that fails it is given
unfoldable pub is_put : Result Unit DeskFault → List Bool → Bool
is_put (Ok done) late = true
is_put (Err desk_faults.Failed) (holds ∷ late) = holds
is_put (Err fault) late = false

-- what is given of the puts to come that fail
unfoldable pub late_behind : Result Unit DeskFault → List Bool → List Bool
late_behind (Err desk_faults.Failed) (holds ∷ late) = late
late_behind answer late = late

abbrev pub told_where : Bool → Files → Option Files
told_where true files = Some files
told_where false files = None

abbrev pub put_where : Bool → List ℕ → List ℕ → Option Files → Option Files
put_where true path bytes files = with_file files path bytes
put_where false path bytes files = files

-- the files behind a reading, a listing and a put that answered so
abbrev pub after_reading : List ℕ → ℕ → List ℕ → Result ℕ DeskFault → Option Files → Option Files
after_reading path from out answer None = None
after_reading path from out answer (Some files) = told_where (reads_at (get files path) from out answer) files

abbrev pub after_listing : List ℕ → Result (Vec (String Global) Global) DeskFault → Option Files → Option Files
after_listing path answer None = None
after_listing path answer (Some files) = told_where (lists (names_in files path) answer) files

abbrev pub after_put : List ℕ → List ℕ → Result Unit DeskFault → List Bool → Option Files → Option Files
after_put path bytes answer late files = put_where (is_put answer late) path bytes files

abbrev pub files_after : DeskCall → List Bool → Option Files → Option Files
files_after (calls.Read path from out answer) late files = after_reading path.now from out.now answer.now files
files_after (calls.Listed path answer) late files = after_listing path.now answer.now files
files_after (calls.Put path bytes answer) late files = after_put path.now bytes.now answer.now late files

abbrev pub late_after : DeskCall → List Bool → List Bool
late_after (calls.Read path from out answer) late = late
late_after (calls.Listed path answer) late = late
late_after (calls.Put path bytes answer) late = late_behind answer.now late
