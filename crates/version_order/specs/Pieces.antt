-- The components of a version: its text is cut at `.`, `-`, `_` and at each change between digits
-- and letters, and empty pieces are dropped.
use Rattle.std.specs.Prelude.{ℕ, ◌||◌, Bool, false, not, List, [], ◌∷◌, if◌then◌else◌}
use Rattle.std.specs.Char.{is_ascii_digit}
use Rattle.version_order.specs.Signs.{is_separator}

-- whether c may stand in one piece with b: both are digits, or neither is a digit or a separator
abbrev pub are_alike : ℕ → ℕ → Bool
are_alike b c = if is_ascii_digit b then is_ascii_digit c else not (is_ascii_digit c || is_separator c)

-- whether the byte b stands in one piece with the byte after it
abbrev pub goes_on : ℕ → List ℕ → Bool
goes_on b [] = false
goes_on b (c ∷ rest) = are_alike b c

-- a byte more at the front of the first piece
abbrev pub grow : ℕ → List (List ℕ) → List (List ℕ)
grow b [] = (b ∷ []) ∷ []
grow b (piece ∷ others) = (b ∷ piece) ∷ others

unfoldable pub pieces : List ℕ → List (List ℕ)
pieces [] = []
pieces (b ∷ rest) =
    if is_separator b then pieces rest
    else if goes_on b rest then grow b (pieces rest)
    else (b ∷ []) ∷ pieces rest
