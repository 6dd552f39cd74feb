-- Digits, and all that is ASCII, are UTF-8.
use Rattle.std.proofs.Common.{◌≡◌, ℕ, ◌<◌, true, List, [], ◌∷◌, zero, suc, arith}
use Rattle.std.specs.Prelude.{nat_lt}
use Rattle.std.specs.Char.{is_ascii_digit}
use Rattle.std.specs.List.{list_all}
use Rattle.std.specs.Str.{IsAscii, IsUtf8, is_utf8}
use Rattle.std.proofs.lemmas.Bool.{and_parts}
use Rattle.std.proofs.lemmas.Bool.Decides.{nat_tests}
use Rattle.std.proofs.lemmas.Str.{IsUtf8-from_ascii, is_utf8-from_IsUtf8}
use Rattle.recipe_values.specs.Values.{is_digits}

digit_small : (b : ℕ) → is_ascii_digit b ≡ true → b < 128
digit_small b e = grind (arith, nat_tests)

digits_ascii : (w : List ℕ) → list_all is_ascii_digit w ≡ true → IsAscii w
digits_ascii [] e i = omega arith
digits_ascii (b ∷ w) e zero = digit_small b (and_parts _ _ e).0
digits_ascii (b ∷ w) e (suc i) = digits_ascii w (and_parts _ _ e).1 i

-- a number is UTF-8
pub number_utf8 : (w : List ℕ) → is_digits w ≡ true → IsUtf8 w
number_utf8 w e = IsUtf8-from_ascii w (digits_ascii w (and_parts _ _ e).1)

small_by : (b : ℕ) → nat_lt b 128 ≡ true → b < 128
small_by b e = grind (arith, nat_tests)

below_ascii : (w : List ℕ) → list_all (λ b. nat_lt b 128) w ≡ true → IsAscii w
below_ascii [] e i = omega arith
below_ascii (b ∷ w) e zero = small_by b (and_parts _ _ e).0
below_ascii (b ∷ w) e (suc i) = below_ascii w (and_parts _ _ e).1 i

-- bytes below 128 are UTF-8
pub ascii_utf8 : (w : List ℕ) → list_all (λ b. nat_lt b 128) w ≡ true → is_utf8 w ≡ true
ascii_utf8 w e = is_utf8-from_IsUtf8 w (IsUtf8-from_ascii w (below_ascii w e))
