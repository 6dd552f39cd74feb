-- White space, NAME and VALUE.
use Rattle.std.specs.Prelude.{◌≡◌, ℕ, suc, ◌==◌, ◌||◌, ◌&&◌, Bool, true, false, List, [], ◌∷◌, if◌then◌else◌}
use Rattle.std.specs.List.{list_all, prefix_len}
use Rattle.version_order.specs.Signs.{is_start}

-- space, tab, line feed or carriage return
abbrev pub is_white : ℕ → Bool
is_white b = b == 32 || b == 9 || b == 10 || b == 13

abbrev pub AreWhite : List ℕ → Type 0
AreWhite gap = list_all is_white gap ≡ true

-- a letter, a digit, `_` or `-`
abbrev pub is_name_byte : ℕ → Bool
is_name_byte b = is_start b || b == 45

-- NAME: a letter, a digit or `_`, then letters, digits, `_` and `-`
abbrev pub is_name : List ℕ → Bool
is_name [] = false
is_name (b ∷ rest) = is_start b && list_all is_name_byte rest

abbrev pub IsName : List ℕ → Type 0
IsName w = is_name w ≡ true

-- the length of the NAME at the front, and 0 where there is none
abbrev pub name_length : List ℕ → ℕ
name_length [] = 0
name_length (b ∷ rest) = if is_start b then suc (prefix_len is_name_byte rest) else 0

-- a letter, a digit, `_`, `-`, `+`, `.`, `:` or `/`
abbrev pub is_value_byte : ℕ → Bool
is_value_byte b = is_name_byte b || b == 43 || b == 46 || b == 58 || b == 47

-- VALUE: one such byte or more
abbrev pub is_value : List ℕ → Bool
is_value [] = false
is_value (b ∷ rest) = list_all is_value_byte (b ∷ rest)

abbrev pub IsValue : List ℕ → Type 0
IsValue w = is_value w ≡ true
