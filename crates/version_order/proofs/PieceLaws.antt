-- How the pieces of a text follow from its bytes, from the left.
use Rattle.std.proofs.Common.{◌≡◌, ℕ, suc, ◌+◌, ◌<◌, true, false, List, [], ◌∷◌, length, take, drop, get_or, refl, add-one, arith, inl, inr}
use Rattle.std.specs.Char.{is_ascii_digit}
use Rattle.std.proofs.lemmas.Bool.{cases_Bool, or_parts, not-true}
use Rattle.std.proofs.lemmas.Bool.Decides.{nat_tests}
use Rattle.std.proofs.lemmas.List.{drop_more}
use Rattle.version_order.specs.Signs.{is_separator}
use Rattle.std.specs.List.{prefix_len}
use Rattle.version_order.specs.Pieces.{are_alike, pieces}

-- a separator at the front
pub pieces-separator : (b : ℕ) (rest : List ℕ) → is_separator b ≡ true → pieces (b ∷ rest) ≡ pieces rest
unfolding pieces
pieces-separator b rest h = rw h refl

-- what is alike with a byte that is no separator is none
pub alike-no_separator : (b c : ℕ) → is_separator b ≡ false → are_alike b c ≡ true → is_separator c ≡ false
alike-no_separator b c h e = grind (arith, nat_tests)

-- what is alike with b is alike with what b is alike with
alike-same : (b c d : ℕ) → is_separator b ≡ false → are_alike b c ≡ true → are_alike b d ≡ are_alike c d
alike-same b c d h e =
    elim (cases_Bool (is_ascii_digit b)) [
      | inl digit ↦
          let as_well : is_ascii_digit c ≡ true = rw digit at e in
          rw (digit, as_well) refl
      | inr other ↦
          let neither : is_ascii_digit c ≡ false = (or_parts _ _ (not-true _ (rw other at e))).0 in
          rw (other, neither) refl
    ]

-- how many bytes at the front may stand in one piece with b
abbrev run_length : ℕ → List ℕ → ℕ
run_length b rest = prefix_len (are_alike b) rest

run-same : (b c : ℕ) (rest : List ℕ) → is_separator b ≡ false → are_alike b c ≡ true → run_length b rest ≡ run_length c rest
run-same b c [] h e = refl
run-same b c (d ∷ rest) h e = rw (alike-same b c d h e, run-same b c rest h e) refl

one_more : (n : ℕ) → 1 + n ≡ suc n
one_more n = omega arith

-- the first piece is the longest run
pub pieces-run : (b : ℕ) (rest : List ℕ) → is_separator b ≡ false
    → pieces (b ∷ rest) ≡ (b ∷ take (run_length b rest) rest) ∷ pieces (drop (run_length b rest) rest)
unfolding pieces
pieces-run b [] h = rw h refl
pieces-run b (c ∷ rest) h =
    elim (cases_Bool (are_alike b c)) [
      | inl same ↦
          let more = pieces-run c rest (alike-no_separator b c h same) in
          rw (h, same, one_more (run_length b rest), more, run-same b c rest h same) refl
      | inr other ↦ rw (h, other) refl
    ]

-- the empty text has no pieces
pub pieces-none : pieces [] ≡ []
unfolding pieces
pieces-none = refl

-- past a separator at place i
pub pieces-skip : (xs : List ℕ) (i : ℕ) → i < length xs → is_separator (get_or xs i 0) ≡ true
    → pieces (drop i xs) ≡ pieces (drop (i + 1) xs)
pieces-skip xs i lt h = rw (drop_more xs i 0 lt) (pieces-separator _ _ h)

-- a piece at place i, of n bytes after its first
pub pieces-at : (xs : List ℕ) (i n : ℕ) → i < length xs → is_separator (get_or xs i 0) ≡ false
    → n ≡ prefix_len (are_alike (get_or xs i 0)) (drop (i + 1) xs)
    → pieces (drop i xs) ≡ take (n + 1) (drop i xs) ∷ pieces (drop (n + 1) (drop i xs))
pieces-at xs i n lt h e = rw (drop_more xs i 0 lt, e, add-one (run_length (get_or xs i 0) (drop (i + 1) xs)))
    (pieces-run (get_or xs i 0) (drop (i + 1) xs) h)
