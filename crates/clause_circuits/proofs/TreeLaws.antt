-- A halved list has its elements as leaves.
use Rattle.std.proofs.Common.{◌≡◌, ℕ, zero, suc, ◌*◌, ◌/◌, ◌<◌, ◌≤◌, Bool, true, false, List, [], ◌∷◌, length, take, drop, get_or, sum_by, refl, sym, ap, ◌∙◌, arith, length-take, length-drop}
use Rattle.std.proofs.lemmas.List.{take-append-drop}
use Rattle.std.proofs.lemmas.List.Sums.{sum_by-append}
use Rattle.clause_store.specs.declared.Lit.{Lit}
use Rattle.clause_store.specs.Lits.{lit_true}
use Rattle.clause_circuits.specs.Cells.{bit}
use Rattle.clause_circuits.specs.Trees.{Tree, none, leaf, node, halves, halved, tree_sum, tree_total, weight_of, TermsBelow, TreeBelow}

module _ {A : Type 0} where
  halves-enough : (j k : ℕ) (xs : List A) → length xs ≤ j → length xs ≤ k → halves j xs ≡ halves k xs
  halves-enough zero zero xs h g = refl
  halves-enough zero (suc k) [] h g = refl
  halves-enough zero (suc k) (x ∷ xs) h g = absurd (omega arith)
  halves-enough (suc j) zero [] h g = refl
  halves-enough (suc j) zero (x ∷ xs) h g = absurd (omega arith)
  halves-enough (suc j) (suc k) [] h g = refl
  halves-enough (suc j) (suc k) (x ∷ []) h g = refl
  halves-enough (suc j) (suc k) (x ∷ y ∷ zs) h g =
      let xs = x ∷ y ∷ zs in
      let n = length xs / 2 in
      let front = length-take n xs in
      let back = length-drop n xs in
      rw (halves-enough j k (take n xs) (omega arith) (omega arith), halves-enough j k (drop n xs) (omega arith) (omega arith)) refl

  halved-node : (x y : A) (zs : List A) → halved (x ∷ y ∷ zs) ≡ node (halved (take (length (x ∷ y ∷ zs) / 2) (x ∷ y ∷ zs)))
      (halved (drop (length (x ∷ y ∷ zs) / 2) (x ∷ y ∷ zs)))
  unfolding halved
  halved-node x y zs =
      let xs = x ∷ y ∷ zs in
      let n = length xs / 2 in
      let front = length-take n xs in
      let back = length-drop n xs in
      rw (
        halves-enough (suc (length zs)) (length (take n xs)) (take n xs) (omega arith) (omega arith),
        halves-enough (suc (length zs))
            (length (drop n xs)) (drop n xs) (omega arith) (omega arith),
      ) refl

  pub halved-none : (xs : List A) → length xs < 1 → halved xs ≡ none
  unfolding halved
  halved-none [] h = refl
  halved-none (x ∷ xs) h = absurd (omega arith)

  -- one element is a leaf
  pub halved-leaf : (xs : List A) (d : A) → length xs < 2 → 1 ≤ length xs → halved xs ≡ leaf (get_or xs 0 d)
  unfolding halved
  halved-leaf [] d h k = absurd (omega arith)
  halved-leaf (x ∷ []) d h k = refl
  halved-leaf (x ∷ y ∷ zs) d h k = absurd (omega arith)

-- a sum over the leaves, whatever bounds the depth
pub halves-sum : {A : Type 0} (f : A → ℕ) (k : ℕ) (xs : List A) → length xs ≤ k → tree_sum f (halves k xs) ≡ sum_by f xs
halves-sum f zero [] h = refl
halves-sum f zero (x ∷ xs) h = absurd (omega arith)
halves-sum f (suc k) [] h = refl
halves-sum f (suc k) (x ∷ []) h = omega arith
halves-sum f (suc k) (x ∷ y ∷ zs) h =
    let xs = x ∷ y ∷ zs in
    let n = length xs / 2 in
    let front = length-take n xs in
    let back = length-drop n xs in
    rw (halves-sum f k (take n xs) (omega arith), halves-sum f k (drop n xs) (omega arith)) (sym (sum_by-append f (take n xs) (drop n xs))
    ∙ ap (sum_by f) (take-append-drop n xs))

-- a sum over the leaves is the sum over the list
pub halved-sum : {A : Type 0} (f : A → ℕ) (xs : List A) → tree_sum f (halved xs) ≡ sum_by f xs
unfolding halved
halved-sum f xs = halves-sum f (length xs) xs (omega arith)

TermsBelow-take : (n i : ℕ) (ts : List (ℕ × Lit)) → TermsBelow n ts → TermsBelow n (take i ts)
TermsBelow-take n zero ts b = tt
TermsBelow-take n (suc i) [] b = tt
TermsBelow-take n (suc i) (t ∷ ts) b = (b.0, TermsBelow-take n i ts b.1)

TermsBelow-drop : (n i : ℕ) (ts : List (ℕ × Lit)) → TermsBelow n ts → TermsBelow n (drop i ts)
TermsBelow-drop n zero ts b = b
TermsBelow-drop n (suc i) [] b = tt
TermsBelow-drop n (suc i) (t ∷ ts) b = TermsBelow-drop n i ts b.1

halves-below : (n k : ℕ) (ts : List (ℕ × Lit)) → TermsBelow n ts → TreeBelow n (halves k ts)
halves-below n zero ts b = tt
halves-below n (suc k) [] b = tt
halves-below n (suc k) (t ∷ []) b = b.0
halves-below n (suc k) (t ∷ u ∷ ts) b =
    (halves-below n k _ (TermsBelow-take n _ (t ∷ u ∷ ts) b), halves-below n k _ (TermsBelow-drop n _ (t ∷ u ∷ ts) b))

pub halved-below : (n : ℕ) (ts : List (ℕ × Lit)) → TermsBelow n ts → TreeBelow n (halved ts)
unfolding halved
halved-below n ts b = halves-below n (length ts) ts b

-- literals below a number are below a greater one
pub TreeBelow-more : (m n : ℕ) (t : Tree (ℕ × Lit)) → m ≤ n → TreeBelow m t → TreeBelow n t
TreeBelow-more m n none h b = tt
TreeBelow-more m n (leaf t) h b = omega arith
TreeBelow-more m n (node l r) h b = (TreeBelow-more m n l h b.0, TreeBelow-more m n r h b.1)

bit-le : (b : Bool) (w : ℕ) → w * bit b ≤ w
bit-le true w = omega arith
bit-le false w = omega arith

-- no sum of true weights is above the sum of all
pub weight-le : (v : ℕ → Bool) (t : Tree (ℕ × Lit)) → tree_sum (weight_of v) t ≤ tree_total t
weight-le v none = omega arith
weight-le v (leaf t) = bit-le (lit_true v t.1) t.0
weight-le v (node l r) = omega (arith, weight-le v l, weight-le v r)

-- two elements and more are a node of their halves
pub halved-split : {A : Type 0} (xs : List A) → 2 ≤ length xs
    → halved xs ≡ node (halved (take (length xs / 2) xs)) (halved (drop (length xs / 2) xs))
halved-split [] h = absurd (omega arith)
halved-split (x ∷ []) h = absurd (omega arith)
halved-split (x ∷ y ∷ zs) h = halved-node x y zs
