-- A few words on texts, lists and what may not be there.
use Rattle.std.specs.Prelude.{Bool, true, false, List, [], ◌∷◌, Option, Some, None, if◌then◌else◌}
use Rattle.std.specs.Option.{option_or}
use Rattle.std.specs.List.{list_any, list_all}
use Rattle.std.specs.Str.{bytes_eq}
use Rattle.virtuals.specs.OfGraphCore.Graphs.{Text}

-- the text is one of these
abbrev pub is_one_text : List Text → Text → Bool
is_one_text texts text = list_any (bytes_eq text) texts

-- all these texts are among those
abbrev pub includes : List Text → List Text → Bool
includes texts wanted = list_all (is_one_text texts) wanted

-- what is not written asks nothing
abbrev pub if_written : {T : Type 0} → Option T → (T → Bool) → Bool
if_written None test = true
if_written (Some x) test = test x

-- there is one, and it passes the test
abbrev pub is_some_and : {T : Type 0} → Option T → (T → Bool) → Bool
is_some_and None test = false
is_some_and (Some x) test = test x

-- where the first is so, the second is
abbrev pub implies : Bool → Bool → Bool
implies false b = true
implies true b = b

-- the last element that passes the test
abbrev pub find_last : {T : Type 0} → (T → Bool) → List T → Option T
find_last test [] = None
find_last test (x ∷ xs) = option_or (find_last test xs) (if test x then Some x else None)
