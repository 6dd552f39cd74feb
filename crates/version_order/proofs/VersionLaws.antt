-- How far a text is a version.
use Rattle.std.proofs.Common.{ap, ◌≡◌, ◌≢◌, ◌++◌, ℕ, ◌<◌, ◌≤◌, ◌+◌, Bool, true, false, List, [], ◌∷◌, length, take, get_or, Option, Some, None, refl, if◌then◌else◌, ◌∙◌, arith, inl, inr}
use Rattle.std.specs.List.{list_all}
use Rattle.std.proofs.lemmas.Bool.{cases_Bool, cases_lt, and_parts}
use Rattle.std.proofs.lemmas.List.{take_all}
use Rattle.std.proofs.lemmas.List.Folds.{list_all-append}
use Rattle.std.proofs.lemmas.Bool.Decides.{nat_tests}
use Rattle.std.proofs.lemmas.Str.{IsUtf8-from_ascii}
use Rattle.std.proofs.lemmas.Str.Ascii.{IsAscii-nil, IsAscii-cons}
use Rattle.std.specs.Str.{IsUtf8, IsAscii}
use Rattle.version_order.specs.Signs.{is_start, is_version_byte, IsVersion, AreBytes}
use Rattle.version_order.specs.Fronts.{IsBadAt}
use Rattle.version_order.specs.Machine.{run, Tells}
use Rattle.version_order.proofs.MachineLaws.{bad_at_stop, run_more}

-- inside a version, and before its first byte
abbrev pub version_step : Bool → ℕ → Option Bool
version_step inside b = if (if inside then is_version_byte b else is_start b) then Some true else None

-- a version may end where it has begun
abbrev is_inside : Bool → Bool
is_inside b = b

inside_goes : (w : List ℕ) → list_all is_version_byte w ≡ true → run version_step true w ≡ Some true
inside_goes [] h = refl
inside_goes (b ∷ w) h =
    let p = and_parts (is_version_byte b) (list_all is_version_byte w) h in
    rw p.0 (inside_goes w p.1)

version_goes : (w : List ℕ) → IsVersion w → run version_step false w ≡ Some true
version_goes [] h = absurd cc
version_goes (b ∷ w) h =
    let p = and_parts (is_start b) (list_all is_version_byte w) h in
    rw p.0 (inside_goes w p.1)

inside_bytes : (w : List ℕ) (s : Bool) → run version_step true w ≡ Some s → list_all is_version_byte w ≡ true
inside_bytes [] s e = refl
inside_bytes (b ∷ w) s e = elim (cases_Bool (is_version_byte b)) [
  | inl is ↦ rw is (inside_bytes w s (rw is at e))
  | inr other ↦ absurd (let no : None ≡ Some s = rw other at e in cc)
]

-- a text that the machine of versions runs through is a version, unless it is empty
pub version_all : (text : List ℕ) (inside : Bool) → run version_step false text ≡ Some inside → 0 < length text → IsVersion text
version_all [] inside e lt = absurd (omega arith)
version_all (b ∷ w) inside e lt = elim (cases_Bool (is_start b)) [
  | inl is ↦ rw (is, inside_bytes w inside (rw is at e)) refl
  | inr other ↦ absurd (let no : None ≡ Some inside = rw other at e in cc)
]

version_ends : (w : List ℕ) (s : Bool) → run version_step false w ≡ Some s → s ≡ true → IsVersion w
version_ends [] s e h = absurd (let no : Some false ≡ Some true = e ∙ ap (λ (b : Bool). Some b) h in cc)
version_ends (b ∷ w) s e h = version_all (b ∷ w) s e (omega arith)

-- the machine tells which texts are versions
pub version_tells : Tells version_step IsVersion false is_inside
version_tells = record {
  accepts = λ w h. (true, version_goes w h, refl);
  completes = λ s. (97 ∷ [], true, elim s as (λ b. run version_step b (97 ∷ []) ≡ Some true) [ true ↦ refl | false ↦ refl ], refl);
  ends = version_ends;
}

-- where the machine stops the text is bad
pub version_stop : (text : List ℕ) (i : ℕ) (inside : Bool) → i < length text → run version_step false (take i text) ≡ Some inside
    → version_step inside (get_or text i 0) ≡ None → IsBadAt IsVersion text i
version_stop text i inside lt here stop = bad_at_stop version_step version_tells text i inside lt here stop

-- the machine goes one byte further
pub version_more : (text : List ℕ) (i : ℕ) (inside : Bool) → i < length text → run version_step false (take i text) ≡ Some inside
    → version_step inside (get_or text i 0) ≡ Some true
    → run version_step false (take (i + 1) text) ≡ Some true
version_more text i inside lt here more = run_more version_step false inside text i lt here ∙ more

-- ---- bytes of versions are ASCII

byte_ascii : (b : ℕ) → is_version_byte b ≡ true → b < 128
byte_ascii b h = grind (arith, nat_tests)

bytes_ascii : (w : List ℕ) → AreBytes w → IsAscii w
bytes_ascii [] h = IsAscii-nil
bytes_ascii (b ∷ w) h =
    let p = and_parts (is_version_byte b) (list_all is_version_byte w) h in
    IsAscii-cons b w (byte_ascii b p.0) (bytes_ascii w p.1)

-- the bytes of versions are UTF-8
pub bytes_utf8 : (w : List ℕ) → AreBytes w → IsUtf8 w
bytes_utf8 w h = IsUtf8-from_ascii w (bytes_ascii w h)

-- what may begin a version may stand in one
pub start_byte : (b : ℕ) → is_start b ≡ true → is_version_byte b ≡ true
start_byte b h = rw h refl

-- a version has only bytes of versions
pub version_bytes : (w : List ℕ) → IsVersion w → AreBytes w
version_bytes [] h = absurd cc
version_bytes (b ∷ w) h =
    let p = and_parts (is_start b) (list_all is_version_byte w) h in
    rw (start_byte b p.0, p.1) refl

-- ---- one place where a text goes wrong

-- a text is bad at one place
pub one_place : (Right : List ℕ → Type 0) (text : List ℕ) (p q : ℕ) → IsBadAt Right text p → IsBadAt Right text q → p ≡ q
one_place Right text p q a b =
    let below : q ≤ p = a.front.longest q b.front.within b.front.begins in
    let above : p ≤ q = b.front.longest p a.front.within a.front.begins in
    omega arith

-- a version stays one where it is cut short, but for the empty text
version_front : (text rest : List ℕ) → text ≢ [] → IsVersion (text ++ rest) → IsVersion text
version_front [] rest some h = absurd (some refl)
version_front (b ∷ w) rest some h =
    let p = and_parts (is_start b) (list_all is_version_byte (w ++ rest)) h in
    let q = and_parts (list_all is_version_byte w) (list_all is_version_byte rest) (rw (list_all-append is_version_byte w rest) at p.1) in
    rw (p.0, q.0) refl

-- some byte stands where a text goes wrong
pub bad_within : (text : List ℕ) (p : ℕ) → text ≢ [] → IsBadAt IsVersion text p → p < length text
bad_within text p some bad = elim (cases_lt p (length text)) [
  | inl lt ↦ lt
  | inr le ↦ absurd (bad.wrong (version_front text bad.front.begins.0 some (rw (take_all p text le) at bad.front.begins.1)))
]
