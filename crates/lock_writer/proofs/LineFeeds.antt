-- A line feed behind a text changes nothing in what it is read as.
use Rattle.std.proofs.Common.{◌≡◌, refl, sym, ap, ap₂, ◌∙◌, subst, ℕ, zero, suc, ◌+◌, ◌-◌, ◌≤◌, Bool, true, false, cond, ◌&&◌, ◌||◌, ◌==◌, nat_lt, nat_eq, List, [], ◌∷◌, ◌++◌, length, drop, take, Option, Some, None, option_and_then, inl, inr, ◌⊎◌, arith, length-append}
use Rattle.std.proofs.lemmas.Bool.{true≢false, false≢true, or_cases}
use Rattle.std.proofs.lemmas.List.Sums.{prefix_len-le-length}
use Rattle.std.specs.List.{prefix_len, starts_with}
use Rattle.std.specs.Char.{is_ascii_digit, is_digit, encode_utf8}
use Rattle.json.specs.Token.{boolean, null, number, bad}
use Rattle.json.specs.Text.{Within, plain, after_backslash, after_u, after_high, content, code_unit, short_escape, is_high_surrogate, is_low_surrogate, surrogate_pair, prepend}
use Rattle.json.specs.Word.{head, ends_word, after_digits, after_minus, after_sign, after_whole, after_fraction, after_exponent, after_number, number_before, literal, word}
use Rattle.json.specs.Lex.{Class, Mode, token, string_token, operator_lexeme, quote, backslash, operator, space, other, class, lex, lex_byte, between, in_word, in_string, in_escape, fresh, punctuate}
use Rattle.json.specs.Ascii as ascii
use Rattle.json.specs.Json as json
use Rattle.serde_json.specs.Read.{of_json, max_depth, read}

-- with a line feed
abbrev fed : List ℕ → List ℕ
fed t = t ++ 10 ∷ []

never : (b : Bool) → (b && false) ≡ false
never true = refl
never false = refl

either_none : (b : Bool) → cond {A = Option (List ℕ)} b None None ≡ None
either_none true = refl
either_none false = refl

-- ---- strings

no_unit : (a b c : ℕ) → code_unit a b c 10 ≡ None
unfolding code_unit
no_unit a b c = rw (never (is_digit a 16 && is_digit b 16 && is_digit c 16)) refl

one_unit : (o : Option ℕ) (high p q : ℕ → Option (List ℕ)) (r s : Option (List ℕ)) → ((u : ℕ) → p u ≡ q u) → r ≡ s
    → option_and_then (λ u. cond (is_high_surrogate u) (p u) (cond (is_low_surrogate u) None (prepend (encode_utf8 u) r))) o
    ≡ option_and_then (λ u. cond (is_high_surrogate u) (q u) (cond (is_low_surrogate u) None (prepend (encode_utf8 u) s))) o
one_unit None high p q r s same rest = refl
one_unit (Some u) high p q r s same rest =
    ap₂ (λ h t. cond (is_high_surrogate u) h (cond (is_low_surrogate u) None (prepend (encode_utf8 u) t))) (same u) rest

content_fed : (w : Within) (xs : List ℕ) → content w (fed xs) ≡ content w xs
unfolding content short_escape
content_fed plain [] = refl
content_fed plain (x ∷ xs) = ap₂ (λ a p. cond (x == 34) (Some []) (cond (x == 92) a (cond (nat_lt x 32) None (prepend (x ∷ []) p))))
    (content_fed after_backslash xs) (content_fed plain xs)
content_fed after_backslash [] = refl
content_fed after_backslash (x ∷ xs) = ap₂ (λ u p. cond (x == 117) u (option_and_then (λ c. prepend (c ∷ []) p) (short_escape x)))
    (content_fed after_u xs) (content_fed plain xs)
content_fed after_u [] = refl
content_fed after_u (a ∷ []) = refl
content_fed after_u (a ∷ b ∷ []) = refl
content_fed after_u (a ∷ b ∷ c ∷ []) = rw (no_unit a b c) refl
content_fed after_u (a ∷ b ∷ c ∷ d ∷ xs) =
    one_unit (code_unit a b c d) (λ u. None) (λ u. content (after_high u) (fed xs)) (λ u. content (after_high u) xs) _ _
    (λ u. content_fed (after_high u) xs) (content_fed plain xs)
content_fed (after_high h) [] = refl
content_fed (after_high h) (s ∷ []) = refl
content_fed (after_high h) (s ∷ u ∷ []) = refl
content_fed (after_high h) (s ∷ u ∷ a ∷ []) = refl
content_fed (after_high h) (s ∷ u ∷ a ∷ b ∷ []) = refl
content_fed (after_high h) (s ∷ u ∷ a ∷ b ∷ c ∷ []) = rw (no_unit a b c) (either_none ((s == 92) && (u == 117)))
content_fed (after_high h) (s ∷ u ∷ a ∷ b ∷ c ∷ d ∷ xs) =
    ap (λ p. cond ((s == 92) && (u == 117)) (option_and_then
    (λ l. cond (is_low_surrogate l) (prepend (encode_utf8 (surrogate_pair h l)) p) None) (code_unit a b c d)) None)
    (content_fed plain xs)

-- ---- words

drop_fed : (n : ℕ) (t : List ℕ) → n ≤ length t → drop n (fed t) ≡ fed (drop n t)
drop_fed zero t h = refl
drop_fed (suc n) [] h = absurd (omega (arith, h))
drop_fed (suc n) (x ∷ xs) h = drop_fed n xs (omega (arith, h))

take_fed : (n : ℕ) (t : List ℕ) → n ≤ length t → take n (fed t) ≡ take n t
take_fed zero t h = refl
take_fed (suc n) [] h = absurd (omega (arith, h))
take_fed (suc n) (x ∷ xs) h = ap (λ l. x ∷ l) (take_fed n xs (omega (arith, h)))

drop_within : (n : ℕ) (t : List ℕ) → length (drop n t) ≤ length t
drop_within zero t = omega arith
drop_within (suc n) [] = omega arith
drop_within (suc n) (x ∷ xs) = omega (arith, drop_within n xs)

run_same : (t : List ℕ) → prefix_len is_ascii_digit (fed t) ≡ prefix_len is_ascii_digit t
run_same [] = refl
run_same (x ∷ xs) = ap (λ n. cond (is_ascii_digit x) (1 + n) 0) (run_same xs)

ends_fed : (t : List ℕ) → ends_word (fed t) ≡ ends_word t
ends_fed [] = refl
ends_fed (x ∷ xs) = refl

-- o is what a part leaves of a text no longer than n, and p what it leaves of the text with a line feed
abbrev Leaves : ℕ → Option (List ℕ) → Option (List ℕ) → Type 0
Leaves n None p = p ≡ None
Leaves n (Some r) p = (p ≡ Some (fed r)) × (length r ≤ n)

by_count : (t : List ℕ) (n : ℕ) → n ≤ length t → (b : Bool)
    → Leaves (length t) (cond b None (Some (drop n t))) (cond b None (Some (drop n (fed t))))
by_count t n le true = refl
by_count t n le false = (ap Some (drop_fed n t le), drop_within n t)

digits : (t : List ℕ) → Leaves (length t) (after_digits t) (after_digits (fed t))
digits t =
    let n = prefix_len is_ascii_digit t in
    subst (λ m. Leaves (length t) (after_digits t) (cond (m == 0) None (Some (drop m (fed t))))) (sym (run_same t))
    (by_count t n (prefix_len-le-length is_ascii_digit t) (n == 0))

same_head : (c : ℕ) (t : List ℕ) → (10 == c) ≡ (32 == c) → (head (fed t) == c) ≡ (head t == c)
same_head c [] e = e
same_head c (x ∷ xs) e = refl

-- a byte less
abbrev IsLess : List ℕ → Type 0
IsLess t = (drop 1 (fed t) ≡ fed (drop 1 t)) × (length (drop 1 t) ≤ length t)

byte-less : (c : ℕ) (t : List ℕ) → (32 == c) ≡ false → (head t == c) ≡ true → IsLess t
byte-less c [] blank e = absurd (false≢true (sym blank ∙ e))
byte-less c (x ∷ xs) blank e = (refl, omega arith)

either : (a b : ℕ) (t : List ℕ) → (32 == a) ≡ false → (32 == b) ≡ false → ((head t == a) || (head t == b)) ≡ true → IsLess t
either a b t p q e = either-cases (or_cases _ _ e)
  where
    either-cases : ((head t == a) ≡ true) ⊎ ((head t == b) ≡ true) → IsLess t
    either-cases (inl h) = byte-less a t p h
    either-cases (inr h) = byte-less b t q h

optional : (t : List ℕ) (b : Bool) → (b ≡ true → IsLess t) → (cond b (drop 1 (fed t)) (fed t) ≡ fed (cond b (drop 1 t) t))
    × (length (cond b (drop 1 t) t) ≤ length t)
optional t true f = f refl
optional t false f = (refl, omega arith)

-- a part behind a front that was passed
then : (n : ℕ) (u v : List ℕ) (f : List ℕ → Option (List ℕ)) → v ≡ fed u → length u ≤ n → Leaves (length u) (f u) (f (fed u))
    → Leaves n (f u) (f v)
then n u v f is le = then-cases (f u)
  where
    then-cases : (o : Option (List ℕ)) → Leaves (length u) o (f (fed u)) → Leaves n o (f v)
    then-cases None h = ap f is ∙ h
    then-cases (Some r) h = (ap f is ∙ h.0, omega (arith, h.1, le))

by_test : (n : ℕ) (b c : Bool) (x y p q : Option (List ℕ)) → c ≡ b → (b ≡ true → Leaves n x p) → Leaves n y q
    → Leaves n (cond b x y) (cond c p q)
by_test n true true x y p q e f g = f refl
by_test n false false x y p q e f g = g
by_test n true false x y p q e f g = absurd (false≢true e)
by_test n false true x y p q e f g = absurd (true≢false e)

test_same : (t : List ℕ) (b c : Bool) → c ≡ b → (b ≡ true → IsLess t) → (cond c (drop 1 (fed t)) (fed t) ≡ fed (cond b (drop 1 t) t))
    × (length (cond b (drop 1 t) t) ≤ length t)
test_same t b c e f = (ap (λ d. cond d (drop 1 (fed t)) (fed t)) e ∙ (optional t b f).0, (optional t b f).1)

whole : (t : List ℕ) → Leaves (length t) (after_whole t) (after_whole (fed t))
whole t = by_test (length t) (head t == 48) _ (Some (drop 1 t)) _ _ _ (same_head 48 t refl) (λ e. let s = byte-less 48 t refl e in
    (ap Some s.0, s.1)) (digits t)

fraction : (t : List ℕ) → Leaves (length t) (after_fraction t) (after_fraction (fed t))
fraction t =
    by_test (length t) (head t == 46) _ _ (Some t) _ _ (same_head 46 t refl)
    (λ e. let s = byte-less 46 t refl e in then (length t) (drop 1 t) _ after_digits s.0 s.1 (digits (drop 1 t))) (refl, omega arith)

either_head : (a b : ℕ) (t : List ℕ) → (10 == a) ≡ (32 == a) → (10 == b) ≡ (32 == b)
    → ((head (fed t) == a) || (head (fed t) == b)) ≡ ((head t == a) || (head t == b))
either_head a b t p q = ap₂ (λ x y. x || y) (same_head a t p) (same_head b t q)

signed : (t : List ℕ) → Leaves (length t) (after_digits (after_sign t)) (after_digits (after_sign (fed t)))
signed t =
    let s = test_same t _ _ (either_head 45 43 t refl refl) (either 45 43 t refl refl) in
    then (length t) (after_sign t) _ after_digits s.0 s.1 (digits (after_sign t))

exponent : (t : List ℕ) → Leaves (length t) (after_exponent t) (after_exponent (fed t))
exponent t =
    by_test (length t) ((head t == 101) || (head t == 69)) _ _ (Some t) _ _ (either_head 101 69 t refl refl)
    (λ e. let s = either 101 69 t refl refl e in
    then (length t) (drop 1 t) _ (λ u. after_digits (after_sign u)) s.0 s.1 (signed (drop 1 t))) (refl, omega arith)

behind : (n : ℕ) (f : List ℕ → Option (List ℕ)) → ((u : List ℕ) → Leaves (length u) (f u) (f (fed u))) → (o p : Option (List ℕ))
    → Leaves n o p → Leaves n (option_and_then f o) (option_and_then f p)
behind n f each None p h = ap (option_and_then f) h
behind n f each (Some r) p h = subst (λ q. Leaves n (f r) (option_and_then f q)) (sym h.0) (then n r (fed r) f refl h.1 (each r))

all_parts : (t : List ℕ) → Leaves (length t) (after_number t) (after_number (fed t))
unfolding after_number
all_parts t =
    let n = length t in
    let s = test_same t _ _ (same_head 45 t refl) (byte-less 45 t refl) in
    behind n after_exponent exponent _ _ (behind n after_fraction fraction _ _
    (then n (after_minus t) _ after_whole s.0 s.1 (whole (after_minus t))))

number_fed : (t : List ℕ) (o p : Option (List ℕ)) → Leaves (length t) o p → number_before (fed t) p ≡ number_before t o
number_fed t None p h = ap (number_before (fed t)) h
number_fed t (Some r) p h =
    let size : length (fed t) - length (fed r) ≡ length t - length r =
    omega (arith, length-append t (10 ∷ []), length-append r (10 ∷ [])) in
    let within : length t - length r ≤ length t = omega arith in
    ap (number_before (fed t)) h.0
    ∙ ap₂ (λ e n. cond e (number (take n (fed t))) bad) (ends_fed r) size
    ∙ ap (λ l. cond (ends_word r) (number l) bad) (take_fed (length t - length r) t within)

-- a name without a line feed
abbrev IsPlain : List ℕ → Type 0
IsPlain [] = Unit {0}
IsPlain (c ∷ cs) = (nat_eq c 10 ≡ false) × IsPlain cs

name_fed : (name t : List ℕ) → IsPlain name
    → (starts_with nat_eq (fed t) name && ends_word (drop (length name) (fed t)))
    ≡ (starts_with nat_eq t name && ends_word (drop (length name) t))
name_fed [] t h = ends_fed t
name_fed (c ∷ cs) [] h = rw h.0 refl
name_fed (c ∷ cs) (x ∷ xs) h = name_fed-cases (nat_eq c x) (name_fed cs xs h.1)
  where
    name_fed-cases : (b : Bool) → (starts_with nat_eq (fed xs) cs && ends_word (drop (length cs) (fed xs)))
        ≡ (starts_with nat_eq xs cs && ends_word (drop (length cs) xs))
        → ((b && starts_with nat_eq (fed xs) cs) && ends_word (drop (length cs) (fed xs)))
        ≡ ((b && starts_with nat_eq xs cs) && ends_word (drop (length cs) xs))
    name_fed-cases true e = e
    name_fed-cases false e = refl

word_fed : (x : ℕ) (xs : List ℕ) → word (x ∷ fed xs) ≡ word (x ∷ xs)
unfolding word
word_fed x xs =
    let t = x ∷ xs in
    ap (λ e. cond (x == 116) (cond e (boolean true) bad)
    (cond (x == 102) (literal ascii.false_text (boolean false) (fed t))
    (cond (x == 110) (literal ascii.null_text null (fed t)) (number_before (fed t) (after_number (fed t))))))
    (name_fed ascii.true_text t (refl, (refl, (refl, (refl, tt)))))
    ∙ ap (λ e. cond (x == 116) (literal ascii.true_text (boolean true) t)
    (cond (x == 102) (cond e (boolean false) bad)
    (cond (x == 110) (literal ascii.null_text null (fed t)) (number_before (fed t) (after_number (fed t))))))
    (name_fed ascii.false_text t (refl, (refl, (refl, (refl, (refl, tt))))))
    ∙ ap (λ e. cond (x == 116) (literal ascii.true_text (boolean true) t)
    (cond (x == 102) (literal ascii.false_text (boolean false) t)
    (cond (x == 110) (cond e null bad) (number_before (fed t) (after_number (fed t))))))
    (name_fed ascii.null_text t (refl, (refl, (refl, (refl, tt)))))
    ∙ ap (λ w. cond (x == 116) (literal ascii.true_text (boolean true) t)
    (cond (x == 102) (literal ascii.false_text (boolean false) t) (cond (x == 110) (literal ascii.null_text null t) w)))
    (number_fed t (after_number t) (after_number (fed t)) (all_parts t))

-- ---- the whole

byte_fed : (m : Mode) (c : Class) (x : ℕ) (xs : List ℕ) → ((next : Mode) → lex next (fed xs) ≡ lex next xs)
    → lex_byte m c x (fed xs) (λ next. lex next (fed xs)) ≡ lex_byte m c x xs (λ next. lex next xs)
byte_fed between quote x xs same = ap₂ (λ o l. token (string_token o) ∷ l) (content_fed plain xs) (same in_string)
byte_fed between backslash x xs same = ap (λ l. token bad ∷ l) (same in_word)
byte_fed between operator x xs same = ap (λ l. operator_lexeme x ∷ l) (same between)
byte_fed between space x xs same = same between
byte_fed between other x xs same = ap₂ (λ w l. token w ∷ l) (word_fed x xs) (same in_word)
byte_fed in_word quote x xs same = same in_word
byte_fed in_word backslash x xs same = same in_word
byte_fed in_word operator x xs same = ap (λ l. operator_lexeme x ∷ l) (same between)
byte_fed in_word space x xs same = same between
byte_fed in_word other x xs same = same in_word
byte_fed in_string quote x xs same = same between
byte_fed in_string backslash x xs same = same in_escape
byte_fed in_string operator x xs same = same in_string
byte_fed in_string space x xs same = same in_string
byte_fed in_string other x xs same = same in_string
byte_fed in_escape c x xs same = same in_string

lex_fed : (m : Mode) (xs : List ℕ) → lex m (fed xs) ≡ lex m xs
unfolding lex
lex_fed between [] = refl
lex_fed in_word [] = refl
lex_fed in_string [] = refl
lex_fed in_escape [] = refl
lex_fed m (x ∷ xs) = byte_fed m (class x) x xs (λ next. lex_fed next xs)

-- a line feed at the end changes nothing that is read
pub read_fed : (text : List ℕ) → read (text ++ 10 ∷ []) ≡ read text
read_fed text = ap (λ ls. option_and_then of_json (option_and_then (λ p. json.if_last p.0 p.1) (json.value max_depth (punctuate fresh ls))))
    (lex_fed between text)
