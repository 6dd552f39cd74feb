-- Runs of bytes at the front of a text.
use Rattle.std.proofs.Common.{◌≡◌, ℕ, zero, suc, ◌<◌, ◌≤◌, ◌+◌, Bool, true, false, List, [], ◌∷◌, ◌++◌, length, take, drop, get_or, refl, sym, arith, inl, inr, IsUtf8, IsAscii}
use Rattle.std.proofs.lemmas.List.Sums.{prefix_len-le-length, prefix_len_stops}
use Rattle.std.proofs.lemmas.Str.{IsUtf8-from_ascii}
use Rattle.std.proofs.lemmas.Str.Ascii.{IsAscii-nil, IsAscii-cons}
use Rattle.spec_grammar.proofs.Common.{list_all, prefix_len, cases_Bool, and_parts, nat_tests, is_start, is_name_byte, IsName, name_length, is_value_byte, IsValue}

pub true_false : {A : Type 0} (b : Bool) → b ≡ true → b ≡ false → A
true_false b t f = absurd cc

pub two_cons : (a b : ℕ) (k l : List ℕ) → a ∷ k ≡ b ∷ l → (a ≡ b) × (k ≡ l)
two_cons a b k l e = (cc, cc)

pub cons_none : {A : Type 0} (b : ℕ) (l : List ℕ) → b ∷ l ≡ [] → A
cons_none b l e = absurd cc

-- the text does not begin with such a byte
abbrev pub Stop : (ℕ → Bool) → List ℕ → Type 0
Stop p text = (b : ℕ) (more : List ℕ) → text ≡ b ∷ more → p b ≡ false

pub run_front : (p : ℕ → Bool) (text : List ℕ) → list_all p (take (prefix_len p text) text) ≡ true
run_front p [] = refl
run_front p (b ∷ rest) = elim (cases_Bool (p b)) [
  | inl is ↦
      let one : 1 + prefix_len p rest ≡ suc (prefix_len p rest) = omega arith in
      rw (is, one, is) (run_front p rest)
  | inr other ↦ rw other refl
]

pub at_drop : (text : List ℕ) (n b : ℕ) (more : List ℕ) → drop n text ≡ b ∷ more → (n < length text) × (get_or text n 0 ≡ b)
at_drop [] zero b more e = cons_none b more (sym e)
at_drop [] (suc n) b more e = cons_none b more (sym e)
at_drop (x ∷ text) zero b more e = (omega arith, (two_cons _ _ _ _ e).0)
at_drop (x ∷ text) (suc n) b more e = let r = at_drop text n b more e in (omega (arith, r.0), r.1)

pub run_stop : (p : ℕ → Bool) (text : List ℕ) → Stop p (drop (prefix_len p text) text)
run_stop p text b more e =
    let at = at_drop text (prefix_len p text) b more e in
    rw (← at.1) (prefix_len_stops p text 0 at.0)

pub stop_cons : (p : ℕ → Bool) (b : ℕ) (l : List ℕ) → p b ≡ false → Stop p (b ∷ l)
stop_cons p b l h c more e = rw (← (two_cons _ _ _ _ e).0) h

pub stop_none : (p : ℕ → Bool) → Stop p []
stop_none p b more e = cons_none b more (sym e)

-- a run is the longest one
pub run_is : (p : ℕ → Bool) (w rest : List ℕ) → list_all p w ≡ true → Stop p rest → prefix_len p (w ++ rest) ≡ length w
run_is p [] [] h s = refl
run_is p [] (b ∷ rest) h s = rw (s b rest refl) refl
run_is p (b ∷ w) rest h s =
    let q = and_parts (p b) (list_all p w) h in
    rw (q.0, run_is p w rest q.1 s) (omega arith)

pub run_cut : (p : ℕ → Bool) (w v r s : List ℕ) → list_all p w ≡ true → list_all p v ≡ true → Stop p r → Stop p s → w ++ r ≡ v ++ s
    → (w ≡ v) × (r ≡ s)
run_cut p [] [] r s hw hv sr ss e = (refl, e)
run_cut p [] (b ∷ v) r s hw hv sr ss e = true_false (p b) (and_parts (p b) (list_all p v) hv).0 (sr b (v ++ s) e)
run_cut p (b ∷ w) [] r s hw hv sr ss e = true_false (p b) (and_parts (p b) (list_all p w) hw).0 (ss b (w ++ r) (sym e))
run_cut p (b ∷ w) (c ∷ v) r s hw hv sr ss e =
    let t = two_cons b c (w ++ r) (v ++ s) e in
    let more = run_cut p w v r s (and_parts (p b) (list_all p w) hw).1 (and_parts (p c) (list_all p v) hv).1 sr ss t.1 in
    (let one = t.0 in let rest = more.0 in cc, more.1)

-- ---- NAME and VALUE

start_byte : (b : ℕ) → is_start b ≡ true → is_name_byte b ≡ true
start_byte b h = rw h refl

pub name_run : (w : List ℕ) → IsName w → list_all is_name_byte w ≡ true
name_run [] h = absurd cc
name_run (b ∷ w) h =
    let p = and_parts (is_start b) (list_all is_name_byte w) h in
    rw (start_byte b p.0, p.1) refl

pub name_front : (text : List ℕ) (n : ℕ) → n ≡ name_length text → 0 < n → IsName (take n text)
name_front [] n e lt = absurd (omega arith)
name_front (b ∷ rest) n e lt = elim (cases_Bool (is_start b)) [
  | inl is ↦ let k : n ≡ suc (prefix_len is_name_byte rest) = rw is at e in rw (k, is, run_front is_name_byte rest) refl
  | inr other ↦ let k : n ≡ 0 = rw other at e in absurd (omega arith)
]

-- no NAME goes on behind the longest one
pub name_stop : (text : List ℕ) (n : ℕ) → n ≡ name_length text → 0 < n → Stop is_name_byte (drop n text)
name_stop [] n e lt = absurd (omega arith)
name_stop (b ∷ rest) n e lt = elim (cases_Bool (is_start b)) [
  | inl is ↦ let k : n ≡ suc (prefix_len is_name_byte rest) = rw is at e in rw k (run_stop is_name_byte rest)
  | inr other ↦ let k : n ≡ 0 = rw other at e in absurd (omega arith)
]

pub name_length_is : (w rest : List ℕ) → IsName w → Stop is_name_byte rest → name_length (w ++ rest) ≡ length w
name_length_is [] rest h s = absurd cc
name_length_is (b ∷ w) rest h s =
    let p = and_parts (is_start b) (list_all is_name_byte w) h in
    rw (p.0, run_is is_name_byte w rest p.1 s) (omega arith)

pub name_length-le : (text : List ℕ) → name_length text ≤ length text
name_length-le [] = omega arith
name_length-le (b ∷ rest) = elim (cases_Bool (is_start b)) [
  | inl is ↦ rw is (omega (arith, prefix_len-le-length is_name_byte rest))
  | inr other ↦ rw other (omega arith)
]

pub value_run : (w : List ℕ) → IsValue w → list_all is_value_byte w ≡ true
value_run [] h = absurd cc
value_run (b ∷ w) h = h

-- ---- text

pub byte_ascii : (b : ℕ) → is_value_byte b ≡ true → b < 128
byte_ascii b h = grind (arith, nat_tests)

pub bytes_ascii : (w : List ℕ) → list_all is_value_byte w ≡ true → IsAscii w
bytes_ascii [] h = IsAscii-nil
bytes_ascii (b ∷ w) h =
    let p = and_parts (is_value_byte b) (list_all is_value_byte w) h in
    IsAscii-cons b w (byte_ascii b p.0) (bytes_ascii w p.1)

pub value_utf8 : (w : List ℕ) → list_all is_value_byte w ≡ true → IsUtf8 w
value_utf8 w h = IsUtf8-from_ascii w (bytes_ascii w h)

pub name_value : (w : List ℕ) → list_all is_name_byte w ≡ true → list_all is_value_byte w ≡ true
name_value [] h = refl
name_value (b ∷ w) h =
    let p = and_parts (is_name_byte b) (list_all is_name_byte w) h in
    rw (p.0, name_value w p.1) refl

pub name_utf8 : (w : List ℕ) → IsName w → IsUtf8 w
name_utf8 w h = value_utf8 w (name_value w (name_run w h))
