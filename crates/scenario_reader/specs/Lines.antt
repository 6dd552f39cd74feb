-- The lines of a text.
use Rattle.std.specs.Prelude.{ℕ, List, [], ◌∷◌, ◌==◌, if◌then◌else◌}

-- a byte more at the front of the first line
abbrev pub into_line : ℕ → List (List ℕ) → List (List ℕ)
into_line b [] = (b ∷ []) ∷ []
into_line b (line ∷ lines) = (b ∷ line) ∷ lines

-- the lines, each ended by a line feed, of which the last may lack it
unfoldable pub lines_of : List ℕ → List (List ℕ)
lines_of [] = []
lines_of (b ∷ bs) = if b == 10 then [] ∷ lines_of bs else into_line b (lines_of bs)
