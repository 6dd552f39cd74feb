-- The first text of those that are the text looked for has its first place beside it.
use Rattle.std.proofs.Common.{◌≡◌, refl, sym, ap, ◌∙◌, ℕ, suc, ◌+◌, ◌==◌, ◌<◌, ◌||◌, ◌≤◌, Bool, true, false, not, List, [], ◌∷◌, length, get_or, map, filter, cond, Bor, arith}
use Rattle.std.specs.List.{list_any, position_or_len}
use Rattle.std.specs.Str.{bytes_eq}
use Rattle.std.proofs.lemmas.Bool.{false≢true}
use Rattle.std.proofs.lemmas.Bool.Decides.{same_from_decides}
use Rattle.std.proofs.lemmas.Slice.Eq.{bytes_eq-Decides}
use Rattle.keyed_lists.specs.Lent.{lent}
use Rattle.keyed_lists.proofs.Lent.{some_kept}
use Rattle.text_places.specs.Places.{texts_of, numbers_of, numbered, AreNumbered}

abbrev Placed : Type 0
Placed = Bor (List ℕ) × ℕ

-- texts are the same either way round
swapped : (a b : List ℕ) → bytes_eq a b ≡ bytes_eq b a
swapped a b = same_from_decides (bytes_eq a b) (bytes_eq b a) (bytes_eq-Decides a b)
    ((λ e. sym ((bytes_eq-Decides b a).0 e)), (λ e. (bytes_eq-Decides b a).1 (sym e)))

-- the number of the first, or this one
abbrev number_or : ℕ → List Placed → ℕ
number_or other [] = other
number_or other (p ∷ ps) = p.1

-- ---- what was numbered

firsts : (entries : List Placed) → map (λ (e : List ℕ × ℕ). e.0) (numbers_of entries) ≡ texts_of entries
firsts [] = refl
firsts (e ∷ entries) = ap (λ l. e.0.now ∷ l) (firsts entries)

firsts_numbered : (first : ℕ) (texts : List (List ℕ)) → map (λ (e : List ℕ × ℕ). e.0) (numbered first texts) ≡ texts
firsts_numbered first [] = refl
firsts_numbered first (text ∷ texts) = ap (λ l. text ∷ l) (firsts_numbered (first + 1) texts)

pub texts_are : (texts : List (List ℕ)) (placed : List Placed) → numbers_of placed ≡ numbered 0 texts → texts_of placed ≡ texts
texts_are texts placed is = sym (firsts placed) ∙ ap (map (λ (e : List ℕ × ℕ). e.0)) is ∙ firsts_numbered 0 texts

pub are_numbered : (texts : List (List ℕ)) (placed : List Placed) → numbers_of placed ≡ numbered 0 texts → AreNumbered placed
are_numbered texts placed is = is ∙ ap (numbered 0) (sym (texts_are texts placed is))

-- ---- the first of those with one text

abbrev first_number : List (List ℕ × ℕ) → ℕ
first_number [] = 0
first_number (e ∷ entries) = e.1

abbrev all_but_first : List (List ℕ × ℕ) → List (List ℕ × ℕ)
all_but_first [] = []
all_but_first (e ∷ entries) = entries

module _ (text : List ℕ) where
  step : (first place : ℕ) (p : Placed) (ps kept : List Placed) (b c : Bool) → b ≡ c → p.1 ≡ first
      → number_or (first + 1 + length ps) kept ≡ first + 1 + place
      → number_or (first + length (p ∷ ps)) (cond b (p ∷ kept) kept) ≡ first + cond (not c) (1 + place) 0
  step first place p ps kept true true same is e = omega (arith, is)
  step first place p ps kept true false same is e = absurd (false≢true (sym same))
  step first place p ps kept false true same is e = absurd (false≢true same)
  step first place p ps kept false false same is e =
      let counts : first + length (p ∷ ps) ≡ first + 1 + length ps = omega arith in
      let places : first + 1 + place ≡ first + (1 + place) = omega arith in
      ap (λ n. number_or n kept) counts ∙ e ∙ places

  number_found : (first : ℕ) (placed : List Placed) → numbers_of placed ≡ numbered first (texts_of placed)
      → number_or (first + length placed) (filter (λ p. bytes_eq p.0.now text) placed)
      ≡ first + position_or_len (bytes_eq text) (texts_of placed)
  number_found first [] e = refl
  number_found first (p ∷ ps) e =
      let is : p.1 ≡ first = ap first_number e in
      let later : numbers_of ps ≡ numbered (first + 1) (texts_of ps) = ap all_but_first e in
      step first (position_or_len (bytes_eq text) (texts_of ps)) p ps (filter (λ q. bytes_eq q.0.now text) ps)
      (bytes_eq p.0.now text) (bytes_eq text p.0.now) (swapped p.0.now text) is (number_found (first + 1) ps later)

  number_is : (placed : List Placed) → AreNumbered placed
      → number_or (length placed) (filter (λ p. bytes_eq p.0.now text) placed) ≡ position_or_len (bytes_eq text) (texts_of placed)
  number_is placed are =
      let place = position_or_len (bytes_eq text) (texts_of placed) in
      let counts : length placed ≡ 0 + length placed = omega arith in
      let places : 0 + place ≡ place = omega arith in
      ap (λ n. number_or n (filter (λ p. bytes_eq p.0.now text) placed)) counts ∙ number_found 0 placed are ∙ places

  abbrev seen : List (List ℕ × Placed) → List Placed
  seen entries = map (λ e. e.1) entries

  among : (placed : List Placed) → list_any (λ p. bytes_eq p.0.now text) placed ≡ list_any (bytes_eq text) (texts_of placed)
  among [] = refl
  among (p ∷ ps) = ap (λ b. b || list_any (λ q. bytes_eq q.0.now text) ps) (swapped p.0.now text)
      ∙ ap (λ b. bytes_eq text p.0.now || b) (among ps)

  lengths : (run : List (Bor (List ℕ) × Bor Placed)) → length run ≡ length (seen (lent run))
  lengths [] = refl
  lengths (e ∷ run) = ap (λ n. suc n) (lengths run)

  -- a run is not empty where the text is among them
  pub some_placed : (placed : List Placed) (run : List (Bor (List ℕ) × Bor Placed))
      → seen (lent run) ≡ filter (λ p. bytes_eq p.0.now text) placed
      → not (length run == 0) ≡ list_any (bytes_eq text) (texts_of placed)
  some_placed placed run is =
      ap (λ n. not (n == 0)) (lengths run ∙ ap length is) ∙ some_kept (λ p. bytes_eq p.0.now text) placed ∙ among placed

  -- an empty run says that the text is not there
  pub none_placed : (placed : List Placed) → AreNumbered placed → (run : List (Bor (List ℕ) × Bor Placed))
      → seen (lent run) ≡ filter (λ p. bytes_eq p.0.now text) placed → length run < 1
      → length placed ≡ position_or_len (bytes_eq text) (texts_of placed)
  none_placed placed are [] is short = ap (number_or (length placed)) is ∙ number_is placed are
  none_placed placed are (e ∷ run) is short = absurd (omega (arith, short))

  -- the first of a run has the first place
  pub first_placed : (placed : List Placed) → AreNumbered placed
      → (run : List (Bor (List ℕ) × Bor Placed)) (d : Bor (List ℕ) × Bor Placed)
      → seen (lent run) ≡ filter (λ p. bytes_eq p.0.now text) placed → 1 ≤ length run
      → (get_or run 0 d).1.now.1 ≡ position_or_len (bytes_eq text) (texts_of placed)
  first_placed placed are [] d is long = absurd (omega (arith, long))
  first_placed placed are (e ∷ run) d is long = ap (number_or (length placed)) is ∙ number_is placed are
