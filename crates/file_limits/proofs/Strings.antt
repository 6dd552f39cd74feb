-- A string has fewer bytes than its spelling with the closing quote.
use Rattle.std.proofs.Common.{◌≡◌, ℕ, ◌+◌, ◌≤◌, Bool, true, false, cond, ◌&&◌, ◌==◌, nat_lt, List, [], ◌∷◌, length, Option, Some, None, option_and_then, refl, sym, ap, ◌∙◌, arith}
use Rattle.std.proofs.lemmas.Bool.{false≢true, eqb-true, and_parts}
use Rattle.std.proofs.lemmas.List.{length-append}
use Rattle.std.specs.Prelude.{⊤}
use Rattle.std.specs.Char.{is_digit, encode_utf8}
use Rattle.json.specs.Text.{code_unit, short_escape, is_high_surrogate, is_low_surrogate, surrogate_pair, Within, plain, after_backslash, after_u, after_high, prepend, content}
use Rattle.json.specs.Word.{is_operator, is_space}
use Rattle.json.specs.Lex.{Class, quote, backslash, operator, space, other, Mode, in_string, in_escape}
use Rattle.json.specs.Align.{span_byte, span}

-- a string that was read has fewer bytes
abbrev pub IsShorter : Option (List ℕ) → ℕ → Type 0
IsShorter None n = ⊤
IsShorter (Some s) n = length s + 1 ≤ n

abbrev mode : Within → Mode
mode plain = in_string
mode after_backslash = in_escape
mode after_u = in_string
mode (after_high h) = in_string

-- ---- tests, and what is put together

by_test : (n : ℕ) (b : Bool) (x y : Option (List ℕ)) → (b ≡ true → IsShorter x n) → (b ≡ false → IsShorter y n) → IsShorter (cond b x y) n
by_test n true x y f g = f refl
by_test n false x y f g = g refl

abbrev is_there : Option ℕ → Bool
is_there None = false
is_there (Some u) = true

if_there : (n : ℕ) (f : ℕ → Option (List ℕ)) (o : Option ℕ) → (is_there o ≡ true → (u : ℕ) → IsShorter (f u) n)
    → IsShorter (option_and_then f o) n
if_there n f None h = tt
if_there n f (Some u) h = h refl u

all_digits : (b : Bool) (u : ℕ) → is_there (cond b (Some u) None) ≡ true → b ≡ true
all_digits true u h = refl
all_digits false u h = h

more : (n m : ℕ) (r : Option (List ℕ)) → IsShorter r m → m ≤ n → IsShorter r n
more n m None h le = tt
more n m (Some s) h le = omega arith

longer : (n m : ℕ) (front : List ℕ) (r : Option (List ℕ)) → IsShorter r m → length front + m ≤ n → IsShorter (prepend front r) n
longer n m front None h le = tt
longer n m front (Some s) h le = omega (arith, length-append front s)

-- ---- how far the lexer goes

length-encode : (u : ℕ) → length (encode_utf8 u) ≤ 4
unfolding encode_utf8
length-encode u = grind arith

passes : (o s : Bool) (k : Mode → ℕ) → span_byte in_string (cond o operator (cond s space other)) k ≡ 1 + k in_string
passes true s k = refl
passes false true k = refl
passes false false k = refl

span_plain : (x : ℕ) (xs : List ℕ) → (x == 34) ≡ false → (x == 92) ≡ false → span in_string (x ∷ xs) ≡ 1 + span in_string xs
unfolding span
span_plain x xs q b =
    let plain_class : Class = cond (is_operator x) operator (cond (is_space x) space other) in
    (λ i. span_byte in_string (cond (q i) quote (cond (b i) backslash plain_class)) (λ n. span n xs))
    ∙ passes (is_operator x) (is_space x) (λ n. span n xs)

span_quote : (x : ℕ) (xs : List ℕ) → (x == 34) ≡ true → span in_string (x ∷ xs) ≡ 1
unfolding span
span_quote x xs q = ap (λ y. span in_string (y ∷ xs)) (eqb-true x 34 q)

span_backslash : (x : ℕ) (xs : List ℕ) → (x == 92) ≡ true → span in_string (x ∷ xs) ≡ 1 + span in_escape xs
unfolding span
span_backslash x xs b = ap (λ y. span in_string (y ∷ xs)) (eqb-true x 92 b)

span_escape : (x : ℕ) (xs : List ℕ) → span in_escape (x ∷ xs) ≡ 1 + span in_string xs
unfolding span
span_escape x xs = refl

no_digit : (c x : ℕ) (t : Bool) → (t ≡ true → x ≡ c) → is_digit c 16 ≡ false → is_digit x 16 ≡ true → t ≡ false
no_digit c x false e never h = refl
no_digit c x true e never h = absurd (false≢true (sym never ∙ ap (λ y. is_digit y 16) (sym (e refl)) ∙ h))

span_digit : (x : ℕ) (xs : List ℕ) → is_digit x 16 ≡ true → span in_string (x ∷ xs) ≡ 1 + span in_string xs
span_digit x xs h = span_plain x xs (no_digit 34 x (x == 34) (eqb-true x 34) refl h) (no_digit 92 x (x == 92) (eqb-true x 92) refl h)

span_unit : (a b c d : ℕ) (xs : List ℕ) → is_there (code_unit a b c d) ≡ true
    → span in_string (a ∷ b ∷ c ∷ d ∷ xs) ≡ 4 + span in_string xs
unfolding code_unit
span_unit a b c d xs h =
    let p = and_parts (is_digit a 16 && is_digit b 16 && is_digit c 16) (is_digit d 16) (all_digits _ _ h) in
    let q = and_parts (is_digit a 16 && is_digit b 16) (is_digit c 16) p.0 in
    let r = and_parts (is_digit a 16) (is_digit b 16) q.0 in
    omega (arith, span_digit a (b ∷ c ∷ d ∷ xs) r.0, span_digit b (c ∷ d ∷ xs) r.1, span_digit c (d ∷ xs) q.1, span_digit d xs p.1)

-- ---- a string, from each place in it

content-shorter : (w : Within) (xs : List ℕ) → IsShorter (content w xs) (span (mode w) xs)
unfolding content
content-shorter plain [] = tt
content-shorter plain (x ∷ xs) =
    let n = span in_string (x ∷ xs) in
    by_test n (x == 34) _ _ (λ q. omega (arith, span_quote x xs q))
    (λ q. by_test n (x == 92) _ _ (λ b. more n _ _ (content-shorter after_backslash xs) (omega (arith, span_backslash x xs b)))
    (λ b. by_test n (nat_lt x 32) _ _ (λ l. tt)
    (λ l. longer n _ (x ∷ []) _ (content-shorter plain xs) (omega (arith, span_plain x xs q b)))))
content-shorter after_backslash [] = tt
content-shorter after_backslash (x ∷ xs) =
    let n = span in_escape (x ∷ xs) in
    by_test n (x == 117) _ _ (λ u. more n _ _ (content-shorter after_u xs) (omega (arith, span_escape x xs)))
    (λ u. if_there n _ (short_escape x) (λ f c. longer n _ (c ∷ []) _ (content-shorter plain xs) (omega (arith, span_escape x xs))))
content-shorter after_u [] = tt
content-shorter after_u (a ∷ []) = tt
content-shorter after_u (a ∷ b ∷ []) = tt
content-shorter after_u (a ∷ b ∷ c ∷ []) = tt
content-shorter after_u (a ∷ b ∷ c ∷ d ∷ xs) =
    let n = span in_string (a ∷ b ∷ c ∷ d ∷ xs) in
    if_there n _ (code_unit a b c d)
    (λ f u. by_test n (is_high_surrogate u) _ _
    (λ h. more n _ _ (content-shorter (after_high u) xs) (omega (arith, span_unit a b c d xs f)))
    (λ h. by_test n (is_low_surrogate u) _ _ (λ l. tt)
    (λ l. longer n _ (encode_utf8 u) _ (content-shorter plain xs) (omega (arith, span_unit a b c d xs f, length-encode u)))))
content-shorter (after_high h) [] = tt
content-shorter (after_high h) (s ∷ []) = tt
content-shorter (after_high h) (s ∷ u ∷ []) = tt
content-shorter (after_high h) (s ∷ u ∷ a ∷ []) = tt
content-shorter (after_high h) (s ∷ u ∷ a ∷ b ∷ []) = tt
content-shorter (after_high h) (s ∷ u ∷ a ∷ b ∷ c ∷ []) = tt
content-shorter (after_high h) (s ∷ u ∷ a ∷ b ∷ c ∷ d ∷ xs) =
    let n = span in_string (s ∷ u ∷ a ∷ b ∷ c ∷ d ∷ xs) in
    by_test n ((s == 92) && (u == 117)) _ _
    (λ e. if_there n _ (code_unit a b c d) (λ f l. by_test n (is_low_surrogate l) _ _
    (λ y. longer n _ (encode_utf8 (surrogate_pair h l)) _ (content-shorter plain xs)
    (omega (
      arith,
      span_backslash s (u ∷ a ∷ b ∷ c ∷ d ∷ xs) (and_parts _ _ e).0,
      span_escape u (a ∷ b ∷ c ∷ d ∷ xs),
      span_unit a b c d xs f,
      length-encode (surrogate_pair h l),
    ))) (λ y. tt))) (λ e. tt)

-- the bytes behind an opening quote
pub string-shorter : (xs : List ℕ) → IsShorter (content plain xs) (span in_string xs)
string-shorter xs = content-shorter plain xs
