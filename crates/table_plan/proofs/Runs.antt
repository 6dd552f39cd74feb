-- Runs of numbers: one element more.
use Rattle.std.proofs.Common.{◌≡◌, refl, sym, ap, ◌∙◌, ℕ, ◌+◌, ◌<◌, List, [], ◌∷◌, ◌++◌, take, get_or, length, arith}
use Rattle.std.proofs.lemmas.List.{take_more}
use Rattle.table_plan.specs.Numbers.{numbered_run, total_width}

module _ {X Y : Type 0} (make : ℕ → X → Y) (width : X → ℕ) where
  total-append : (xs : List X) (x : X) → total_width width (xs ++ x ∷ []) ≡ total_width width xs + width x
  total-append [] x = omega arith
  total-append (y ∷ ys) x = omega (arith, total-append ys x)

  run-append : (n : ℕ) (xs : List X) (x : X) → numbered_run make width n (xs ++ x ∷ []) ≡ numbered_run make width n xs
      ++ make (n + total_width width xs) x ∷ []
  run-append n [] x = let at : n ≡ n + 0 = omega arith in ap (λ m. make m x ∷ []) at
  run-append n (y ∷ ys) x =
      let at : n + width y + total_width width ys ≡ n + (width y + total_width width ys) = omega arith in
      ap (λ zs. make n y ∷ zs) (run-append (n + width y) ys x ∙ ap (λ m. numbered_run make width (n + width y) ys ++ make m x ∷ []) at)

  module _ (xs : List X) (i : ℕ) (x : X) (lt : i < length xs) (is : x ≡ get_or xs i x) where
    front : take (i + 1) xs ≡ take i xs ++ x ∷ []
    front = take_more xs i x lt ∙ ap (λ z. take i xs ++ z ∷ []) (sym is)

    -- the variables of one element more
    pub total_more : total_width width (take (i + 1) xs) ≡ total_width width (take i xs) + width x
    total_more = ap (total_width width) front ∙ total-append (take i xs) x

    -- a run of one element more
    pub run_more : (n : ℕ) → numbered_run make width n (take i xs) ++ make (n + total_width width (take i xs)) x
        ∷ [] ≡ numbered_run make width n (take (i + 1) xs)
    run_more n = sym (ap (numbered_run make width n) front ∙ run-append n (take i xs) x)

-- the same where the next number is told
pub run_next : {X Y : Type 0} (make : ℕ → X → Y) (width : X → ℕ) (xs : List X) (i : ℕ) (x : X) → i < length xs → x ≡ get_or xs i x
    → (n next : ℕ) → next ≡ n + total_width width (take i xs)
    → numbered_run make width n (take i xs) ++ make next x ∷ [] ≡ numbered_run make width n (take (i + 1) xs)
run_next make width xs i x lt is n next e =
    ap (λ m. numbered_run make width n (take i xs) ++ make m x ∷ []) e ∙ run_more make width xs i x lt is n

-- a variable for each element
pub ones : {X : Type 0} (xs : List X) → total_width (λ x. 1) xs ≡ length xs
ones [] = refl
ones (x ∷ xs) = omega (arith, ones xs)
