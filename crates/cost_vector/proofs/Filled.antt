-- Arrays that are filled one number after another.
use Rattle.std.proofs.Common.{◌≡◌, sym, ap, ◌∙◌, ℕ, ◌+◌, ◌<◌, ◌≤◌, List, [], ◌∷◌, ◌++◌, map, length, get_or, take, drop, set, arith}
use Rattle.std.proofs.lemmas.List.{take_all, take_at, take_more, take_more_set, drop_all, drop_at, set_at, get_or-map, length-map, length-append, append-nil, append_assoc}

-- the next number of a list that is mapped
pub next_filled : {X : Type 0} (f : X → ℕ) (xs : List X) (numbers : List ℕ) (i : ℕ) (d : X) (n : ℕ) → i < length xs
    → length numbers ≡ length xs → n ≡ f (get_or xs i d) → take i numbers ≡ take i (map f xs)
    → take (i + 1) (set numbers i n) ≡ take (i + 1) (map f xs)
next_filled f xs numbers i d n less long is before =
    take_more_set numbers i n (omega (arith, less, long)) ∙ (λ j. before j ++ is j ∷ [])
    ∙ ap (λ y. take i (map f xs) ++ y ∷ []) (sym (get_or-map f xs i d (f d) less))
    ∙ sym (take_more (map f xs) i (f d) (omega (arith, less, length-map xs f)))

-- all of them
pub all_filled : {X : Type 0} (f : X → ℕ) (xs : List X) (numbers : List ℕ) (i : ℕ) → length xs ≤ i
    → length numbers ≡ length xs → take i numbers ≡ take i (map f xs) → numbers ≡ map f xs
all_filled f xs numbers i end long before =
    sym (take_all i numbers (omega (arith, end, long))) ∙ before ∙ take_all i (map f xs) (omega (arith, end, length-map xs f))

-- a number is written, and then what stands behind it
pub written_between : (first last rest : List ℕ) (h k old n : ℕ) → length first ≡ h → length rest ≡ k
    → take (h + 1) (set (first ++ old ∷ rest) h n) ++ (last ++ drop k (drop (h + 1) (set (first ++ old ∷ rest) h n)))
    ≡ first ++ n ∷ last
written_between first last rest h k old n long short =
    let once : set (first ++ old ∷ rest) h n ≡ first ++ n ∷ [] ++ rest = set_at first old rest n h long ∙ sym (append_assoc first (n ∷ []) rest) in
    let next : length (first ++ n ∷ []) ≡ h + 1 = omega (arith, long, length-append first (n ∷ [])) in
    rw (
      once,
      take_at (first ++ n ∷ []) rest (h + 1) next,
      drop_at (first ++ n ∷ []) rest (h + 1) next,
      drop_all k rest (omega (arith, short)),
      append-nil last,
    ) (append_assoc first (n ∷ []) last)
