-- A number is put in its place, and numbers are joined.
use Prim.Native.Nat.{zero, suc}
use Rattle.std.proofs.Common.{◌≡◌, ℕ, ◌+◌, ◌<◌, ◌≤◌, Bool, true, false, ◌||◌, List, [], ◌∷◌, ◌++◌, take, drop, length, refl, sym, ◌∙◌, subst, ap, arith, cond, eqb, ltb, get_or, insert}
use Rattle.std.specs.Prelude.{if◌then◌else◌}
use Rattle.std.specs.List.{filter}
use Rattle.std.proofs.lemmas.Bool.{lt-ltb, eq-eqb, ne_eqb, ltb-true}
use Rattle.std.proofs.lemmas.List.{drop_more, take_more}
use Rattle.std.proofs.lemmas.List.Elements.{filter-append}
use Rattle.explain_failure.specs.Uses.{stands}
use Rattle.explain_failure.specs.Rising.{with_number}
use Rattle.explain_failure.proofs.Numbers.{stands-with}

-- a number behind another one
put-behind : (x n : ℕ) (xs : List ℕ) → x < n → with_number (x ∷ xs) n ≡ x ∷ with_number xs n
put-behind x n xs h =
    ap (λ b. if b then x ∷ with_number xs n else (if eqb x n then x ∷ xs else n ∷ x ∷ xs)) (lt-ltb x n h)

-- one that is there
put-same : (x n : ℕ) (xs : List ℕ) → x ≡ n → with_number (x ∷ xs) n ≡ x ∷ xs
put-same x n xs e = by-bool (ltb x n) refl
  where
    by-bool : (b : Bool) → ltb x n ≡ b → (if b then x ∷ with_number xs n else (if eqb x n then x ∷ xs else n ∷ x ∷ xs)) ≡ x ∷ xs
    by-bool true q = absurd (omega (arith, e, ltb-true x n q))
    by-bool false q = ap (λ b. if b then x ∷ xs else n ∷ x ∷ xs) (eq-eqb x n e)

-- one before another
put-before : (x n : ℕ) (xs : List ℕ) → n < x → with_number (x ∷ xs) n ≡ n ∷ x ∷ xs
put-before x n xs h = by-bool (ltb x n) refl
  where
    by-bool : (b : Bool) → ltb x n ≡ b
        → (if b then x ∷ with_number xs n else (if eqb x n then x ∷ xs else n ∷ x ∷ xs)) ≡ n ∷ x ∷ xs
    by-bool true q = absurd (omega (arith, h, ltb-true x n q))
    by-bool false q = ap (λ b. if b then x ∷ xs else n ∷ x ∷ xs) (ne_eqb x n (λ e. omega (arith, e, h)))

-- the numbers so far are all below
abbrev pub Passes : List ℕ → ℕ → ℕ → Type 0
Passes xs n i = take i xs ++ with_number (drop i xs) n ≡ with_number xs n

pub passes-more : (xs : List ℕ) (n i d : ℕ) → i < length xs → get_or xs i d < n → Passes xs n i → Passes xs n (i + 1)
passes-more xs n i d h b p = let e : i + 1 ≡ suc i = omega arith in subst (Passes xs n) (sym e) (sym (along xs i h b) ∙ p)
  where
    along : (xs : List ℕ) (i : ℕ) → i < length xs → get_or xs i d < n
        → take i xs ++ with_number (drop i xs) n ≡ take (suc i) xs ++ with_number (drop (suc i) xs) n
    along [] i h b = absurd (omega (arith, h))
    along (x ∷ xs) zero h b = put-behind x n xs b
    along (x ∷ xs) (suc i) h b = ap (λ ys. x ∷ ys) (along xs i (omega (arith, h)) b)

-- the number is here
pub passes-same : (xs : List ℕ) (n i d : ℕ) → i < length xs → get_or xs i d ≡ n → Passes xs n i → with_number xs n ≡ xs
passes-same xs n i d h e p = sym p ∙ along xs i h e
  where
    along : (xs : List ℕ) (i : ℕ) → i < length xs → get_or xs i d ≡ n → take i xs ++ with_number (drop i xs) n ≡ xs
    along [] i h e = absurd (omega (arith, h))
    along (x ∷ xs) zero h e = put-same x n xs e
    along (x ∷ xs) (suc i) h e = ap (λ ys. x ∷ ys) (along xs i (omega (arith, h)) e)

-- it is to be put here
pub passes-before : (xs : List ℕ) (n i d : ℕ) → i < length xs → n < get_or xs i d → Passes xs n i → insert xs i n ≡ with_number xs n
passes-before xs n i d h b p = sym (along xs i h b) ∙ p
  where
    along : (xs : List ℕ) (i : ℕ) → i < length xs → n < get_or xs i d → take i xs ++ with_number (drop i xs) n ≡ insert xs i n
    along [] i h b = absurd (omega (arith, h))
    along (x ∷ xs) zero h b = put-before x n xs b
    along (x ∷ xs) (suc i) h b = ap (λ ys. x ∷ ys) (along xs i (omega (arith, h)) b)

-- or at the end
pub passes-end : (xs : List ℕ) (n i : ℕ) → length xs ≤ i → Passes xs n i → insert xs (length xs) n ≡ with_number xs n
passes-end xs n i h p = sym (along xs i h) ∙ p
  where
    along : (xs : List ℕ) (i : ℕ) → length xs ≤ i → take i xs ++ with_number (drop i xs) n ≡ insert xs (length xs) n
    along [] zero h = refl
    along [] (suc i) h = refl
    along (x ∷ xs) zero h = absurd (omega (arith, h))
    along (x ∷ xs) (suc i) h = ap (λ ys. x ∷ ys) (along xs i (omega (arith, h)))

-- one more number is looked at
pub stands-at : (xs : List ℕ) (i d n : ℕ) → i < length xs
    → stands (drop i xs) n ≡ (eqb (get_or xs i d) n || stands (drop (i + 1) xs) n)
stands-at xs i d n h = ap (λ ys. stands ys n) (drop_more xs i d h)

-- one more number is joined
pub joined-more : (all new more : List ℕ) (i d n : ℕ) → i < length more → new ≡ with_number all (get_or more i d)
    → (stands new n || stands (drop (i + 1) more) n) ≡ (stands all n || stands (drop i more) n)
joined-more all new more i d n h q =
    let x = get_or more i d in
    ap (λ ys. stands ys n || stands (drop (i + 1) more) n) q
    ∙ ap (λ b. b || stands (drop (i + 1) more) n) (stands-with all x n)
    ∙ moved (eqb x n) (stands all n) (stands (drop (i + 1) more) n)
    ∙ ap (λ b. stands all n || b) (sym (stands-at more i d n h))
  where
    moved : (a b c : Bool) → ((a || b) || c) ≡ (b || (a || c))
    moved true true c = refl
    moved true false c = refl
    moved false b c = refl

-- one more number is kept, or is not
pub filter-more : (p : ℕ → Bool) (xs : List ℕ) (i d : ℕ) → i < length xs
    → filter p (take (i + 1) xs) ≡ filter p (take i xs) ++ cond (p (get_or xs i d)) (get_or xs i d ∷ []) []
filter-more p xs i d h = ap (filter p) (take_more xs i d h) ∙ filter-append p (take i xs) (get_or xs i d ∷ [])
