-- The number that a word is: decimal, below 2^64, without leading zeros.
use Rattle.std.specs.Prelude.{ℕ, ◌+◌, ◌-◌, ◌*◌, ◌^◌, nat_lt, List, [], ◌∷◌, Option, Some, None, option_and_then, decimal, if◌then◌else◌}
use Rattle.std.specs.Str.{bytes_eq}

-- a number with one more digit: none from 2^64 on
abbrev pub with_decimal_digit : ℕ → ℕ → Option ℕ
with_decimal_digit n b = if nat_lt (n * 10 + (b - 48)) (2 ^ 64) then Some (n * 10 + (b - 48)) else None

-- the number that digits write behind those of another; what is no digit is read somehow
abbrev pub digits_behind : ℕ → List ℕ → Option ℕ
digits_behind n [] = Some n
digits_behind n (b ∷ bs) = option_and_then (λ m. digits_behind m bs) (with_decimal_digit n b)

unfoldable pub if_decimal : List ℕ → ℕ → Option ℕ
if_decimal text n = if bytes_eq (decimal n) text then Some n else None

-- the number of which this is the text
unfoldable pub number_of_word : List ℕ → Option ℕ
number_of_word text = option_and_then (if_decimal text) (digits_behind 0 text)
