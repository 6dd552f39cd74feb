-- Which texts are versions.
use Rattle.std.specs.Prelude.{ℕ, ◌==◌, ◌||◌, ◌&&◌, Bool, false, IsTrue, List, [], ◌∷◌}
use Rattle.std.specs.Char.{is_ascii_digit, is_ascii_alphabetic}
use Rattle.std.specs.List.{list_all}

-- `.`, `-` and `_`
abbrev pub is_separator : ℕ → Bool
is_separator b = b == 46 || b == 45 || b == 95

-- a letter, a digit or `_`
abbrev pub is_start : ℕ → Bool
is_start b = is_ascii_alphabetic b || is_ascii_digit b || b == 95

-- a letter, a digit, `_`, `.` or `-`
abbrev pub is_version_byte : ℕ → Bool
is_version_byte b = is_start b || b == 46 || b == 45

-- a version: a letter, a digit or `_`, and then letters, digits, `_`, `.` and `-`
abbrev pub is_version : List ℕ → Bool
is_version [] = false
is_version (b ∷ rest) = is_start b && list_all is_version_byte rest

abbrev pub IsVersion : List ℕ → Type 0
IsVersion text = IsTrue (is_version text)

-- bytes that may stand in a version
abbrev pub AreBytes : List ℕ → Type 0
AreBytes text = IsTrue (list_all is_version_byte text)
