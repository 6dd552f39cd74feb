-- Lines that begin a section: `-- NAME --` and `-- quoted NAME --`.
use Rattle.std.specs.Prelude.{ℕ, ◌+◌, ◌-◌, List, take, drop, length, slice_get, Bool, false, not, ◌&&◌, ◌==◌, nat_le, if◌then◌else◌, Option, Some, None, codes}
use Rattle.std.specs.Str.{bytes_eq}
use Rattle.scenario_reader.specs.declared.mark.Mark.{Mark}
use Rattle.scenario_reader.specs.declared.mark.Mark.TheVariants.{Inside, Plain, Quoted, Broken}

abbrev pub plain_front : List ℕ
plain_front = codes "-- "

abbrev pub quoted_front : List ℕ
quoted_front = codes "-- quoted "

abbrev pub end : List ℕ
end = codes " --"

abbrev pub has_front : List ℕ → List ℕ → Bool
has_front front line = nat_le (length front) (length line) && bytes_eq (take (length front) line) front

-- a line has this front, and ` --` at its end
abbrev pub is_framed : List ℕ → List ℕ → Bool
is_framed front line = nat_le (length front + 3) (length line)
    && (bytes_eq (take (length front) line) front && bytes_eq (drop (length line - 3) line) end)

-- what stands between these two
abbrev pub between : List ℕ → List ℕ → List ℕ
between front line = take (length line - (length front + 3)) (drop (length front) line)

abbrev pub is_sign : Option ℕ → Bool
is_sign None = false
is_sign (Some b) = not (b == 32)

-- a name neither begins nor ends with a blank
abbrev pub is_name : List ℕ → Bool
is_name name = is_sign (slice_get name 0) && is_sign (slice_get name (length name - 1))

unfoldable pub mark_of : List ℕ → Mark
mark_of line =
    if not (has_front plain_front line) then Inside
    else if is_framed quoted_front line then (if is_name (between quoted_front line) then Quoted else Broken)
    else if is_framed plain_front line && is_name (between plain_front line) then Plain
    else Broken
