-- The texts that strings stand for.
use Rattle.std.specs.Prelude.{ℕ, ◌+◌, ◌-◌, ◌==◌, ◌&&◌, ◌||◌, not, Bool, true, false, List, [], ◌∷◌, length, take, drop, Option, Some, None, Ok, Err, if◌then◌else◌}
use Rattle.std.specs.List.{prefix_len}
use Rattle.std.specs.Str.{is_utf8}
use Rattle.recipe_lexer.specs.Layout.{slice}
use Rattle.recipe_lexer.specs.Pieces.{is_mark, opening}
use Rattle.recipe_lexer.specs.declared.token.Token.{Token}
use Rattle.recipe_values.specs.Reads.{Read, join}

-- ---- escapes

-- what a backslash and this byte stand for: the byte itself, a line feed, a tab, nothing at a line's end
abbrev pub text_of_escape : ℕ → Option (List ℕ)
text_of_escape b =
    if b == 92 || b == 34 || b == 39 then Some (b ∷ [])
    else if b == 110 then Some (10 ∷ [])
    else if b == 116 then Some (9 ∷ [])
    else if b == 10 then Some []
    else None

-- the backslash before it stands at `place`
abbrev pub escape : ℕ → Option (List ℕ) → Read (List ℕ)
escape place None = Err place
escape place (Some text) = Ok text

-- what a byte at `place` stands for; `taken`: a backslash before it takes it
abbrev pub byte_text : ℕ → Bool → ℕ → Read (List ℕ)
byte_text place true b = escape (place - 1) (text_of_escape b)
byte_text place false b = if b == 92 then Ok [] else Ok (b ∷ [])

-- the text of bytes that stand at `place`
unfoldable pub decoded : ℕ → Bool → List ℕ → Read (List ℕ)
decoded place taken [] = Ok []
decoded place taken (b ∷ rest) = join (byte_text place taken b) (decoded (place + 1) (not taken && b == 92) rest)

-- ---- strings

-- how many letters stand before the marks
abbrev pub prefix : List ℕ → ℕ
prefix text = prefix_len (λ b. not (is_mark b)) text

-- how many marks open a string, and close it
abbrev pub marks_of : List ℕ → ℕ
marks_of [] = 0
marks_of (q ∷ rest) = opening q (q ∷ rest)

-- what stands between the marks
abbrev pub inside : List ℕ → List ℕ
inside text = take (length text - (marks_of text + marks_of text)) (drop (marks_of text) text)

-- a byte that begins no escape
abbrev pub is_no_escape : ℕ → Bool
is_no_escape b = not (b == 92)

-- what stands behind the prefix `letters`: without one it has escapes, `r` takes it as it is, no other is read
abbrev pub string_by : ℕ → List ℕ → List ℕ → Read (List ℕ)
string_by place [] text = decoded (place + marks_of text) false (inside text)
string_by place (p ∷ []) text = if p == 114 then Ok (inside text) else Err place
string_by place (p ∷ q ∷ more) text = Err place

abbrev pub string_in : ℕ → List ℕ → Read (List ℕ)
string_in place text = string_by place (take (prefix text) text) (drop (prefix text) text)

-- the text of a string
unfoldable pub string : List ℕ → Token → Read (List ℕ)
string bytes t = string_in t.start (slice bytes t.start t.end)

-- the texts of strings beside each other, joined
unfoldable pub strings : List ℕ → List Token → Read (List ℕ)
strings bytes [] = Ok []
strings bytes (t ∷ more) = join (string bytes t) (strings bytes more)

-- what starts at `place` is a text, which is UTF-8
abbrev pub as_text : ℕ → Read (List ℕ) → Read (List ℕ)
as_text place (Ok w) = if is_utf8 w then Ok w else Err place
as_text place (Err p) = Err p

abbrev pub first_start : List Token → ℕ
first_start [] = 0
first_start (t ∷ more) = t.start

-- the text of all these strings
unfoldable pub strings_text : List ℕ → List Token → Read (List ℕ)
strings_text bytes tokens = as_text (first_start tokens) (strings bytes tokens)
