-- Where a text is cut into components, and that it is cut nowhere else.
use Rattle.std.proofs.Common.{◌≡◌, ℕ, Bool, true, false, List, [], ◌∷◌, ◌++◌, refl, sym, ap, ◌∙◌, inl, inr, arith}
use Rattle.std.specs.Prelude.{◌||◌, not}
use Rattle.std.specs.Char.{is_ascii_digit}
use Rattle.std.specs.List.{list_all}
use Rattle.std.proofs.lemmas.Bool.{cases_Bool, and_parts}
use Rattle.std.proofs.lemmas.Bool.Decides.{nat_tests}
use Rattle.std.proofs.lemmas.List.{append_assoc}
use Rattle.version_order.specs.Signs.{is_separator}
use Rattle.version_order.specs.Pieces.{are_alike, goes_on, grow, pieces}
use Rattle.version_order.proofs.PieceLaws.{pieces-run, pieces-separator, alike-no_separator}

-- the last byte of the first text does not go on with the second
abbrev Parted : List ℕ → List ℕ → Type 0
Parted [] ys = Unit {0}
Parted (b ∷ []) ys = goes_on b ys ≡ false
Parted (b ∷ c ∷ xs) ys = Parted (c ∷ xs) ys

parts : (xs ys : List ℕ) → Parted xs ys → pieces (xs ++ ys) ≡ pieces xs ++ pieces ys
unfolding pieces
parts [] ys h = refl
parts (b ∷ []) ys h = elim (cases_Bool (is_separator b)) [
  | inl is ↦ rw is refl
  | inr other ↦ rw (other, h) refl
]
parts (b ∷ c ∷ xs) ys h =
    let rest = parts (c ∷ xs) ys h in
    elim (cases_Bool (is_separator b)) [
      | inl is ↦ rw is rest
      | inr other ↦ elim (cases_Bool (are_alike b c)) [
        | inl same ↦
            let first = pieces-run c xs (alike-no_separator b c other same) in
            rw (other, same) (ap (grow b) rest ∙ rw first refl)
        | inr change ↦ rw (other, change) (ap (λ ps. (b ∷ []) ∷ ps) rest)
      ]
    ]

-- ---- at a separator

alike-separator : (b c : ℕ) → is_separator c ≡ true → are_alike b c ≡ false
alike-separator b c h = grind (arith, nat_tests)

parted_separator : (xs ys : List ℕ) (b : ℕ) → is_separator b ≡ true → Parted xs (b ∷ ys)
parted_separator [] ys b h = tt
parted_separator (x ∷ []) ys b h = alike-separator x b h
parted_separator (x ∷ y ∷ xs) ys b h = parted_separator (y ∷ xs) ys b h

-- a separator ends a piece
pub cut_separator : (xs ys : List ℕ) (b : ℕ) → is_separator b ≡ true → pieces (xs ++ b ∷ ys) ≡ pieces xs ++ pieces ys
cut_separator xs ys b h = parts xs (b ∷ ys) (parted_separator xs ys b h) ∙ ap (λ ps. pieces xs ++ ps) (pieces-separator b ys h)

-- ---- at a change between digits and letters

alike-change : (b c : ℕ) → (is_ascii_digit b ≡ is_ascii_digit c → ⊥) → are_alike b c ≡ false
alike-change b c h =
    elim (cases_Bool (is_ascii_digit b)) [
      | inl is ↦ elim (cases_Bool (is_ascii_digit c)) [
        | inl too ↦ absurd (h (is ∙ sym too))
        | inr other ↦ rw (is, other) refl
      ]
      | inr unlike ↦ elim (cases_Bool (is_ascii_digit c)) [
        | inl is ↦ rw (unlike, is) refl
        | inr other ↦ absurd (h (unlike ∙ sym other))
      ]
    ]

parted_change : (xs ys : List ℕ) (b c : ℕ) → are_alike b c ≡ false → Parted (xs ++ b ∷ []) (c ∷ ys)
parted_change [] ys b c h = h
parted_change (x ∷ []) ys b c h = h
parted_change (x ∷ y ∷ xs) ys b c h = parted_change (y ∷ xs) ys b c h

-- a change between digits and letters ends a piece
pub cut_change : (xs ys : List ℕ) (b c : ℕ) → (is_ascii_digit b ≡ is_ascii_digit c → ⊥) → pieces (xs ++ b ∷ c ∷ ys) ≡ pieces (xs ++ b ∷ [])
    ++ pieces (c ∷ ys)
cut_change xs ys b c h = ap pieces (sym (append_assoc xs (b ∷ []) (c ∷ ys)))
    ∙ parts (xs ++ b ∷ []) (c ∷ ys) (parted_change xs ys b c (alike-change b c h))

-- ---- nowhere else

digit-no_separator : (b : ℕ) → is_ascii_digit b ≡ true → is_separator b ≡ false
digit-no_separator b h = grind (arith, nat_tests)

-- digits are one piece
pub digits_whole : (b : ℕ) (rest : List ℕ) → list_all is_ascii_digit (b ∷ rest) ≡ true → pieces (b ∷ rest) ≡ (b ∷ rest) ∷ []
unfolding pieces
digits_whole b [] h =
    let p = and_parts (is_ascii_digit b) true h in
    rw (digit-no_separator b p.0) refl
digits_whole b (c ∷ rest) h =
    let p = and_parts (is_ascii_digit b) (list_all is_ascii_digit (c ∷ rest)) h in
    let q = and_parts (is_ascii_digit c) (list_all is_ascii_digit rest) p.1 in
    let alike : are_alike b c ≡ true = rw (p.0, q.0) refl in
    rw (digit-no_separator b p.0, alike) (ap (grow b) (digits_whole c rest p.1))

-- neither a digit nor a separator
abbrev is_letter : ℕ → Bool
is_letter b = not (is_ascii_digit b || is_separator b)

letter-no_separator : (b : ℕ) → is_letter b ≡ true → is_separator b ≡ false
letter-no_separator b h = grind (arith, nat_tests)

letters-alike : (b c : ℕ) → is_letter b ≡ true → is_letter c ≡ true → are_alike b c ≡ true
letters-alike b c h k = elim (cases_Bool (is_ascii_digit b)) [
  | inl is ↦ absurd (let unlike : false ≡ true = rw is at h in cc)
  | inr other ↦ rw other k
]

-- letters are one piece
pub letters_whole : (b : ℕ) (rest : List ℕ) → list_all is_letter (b ∷ rest) ≡ true → pieces (b ∷ rest) ≡ (b ∷ rest) ∷ []
unfolding pieces
letters_whole b [] h =
    let p = and_parts (is_letter b) true h in
    rw (letter-no_separator b p.0) refl
letters_whole b (c ∷ rest) h =
    let p = and_parts (is_letter b) (list_all is_letter (c ∷ rest)) h in
    let q = and_parts (is_letter c) (list_all is_letter rest) p.1 in
    rw (letter-no_separator b p.0, letters-alike b c p.0 q.0) (ap (grow b) (letters_whole c rest p.1))
