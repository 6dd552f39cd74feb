-- A list as the leaves of a balanced tree.
use Prim.Native.Nat.{suc, zero}
use Rattle.std.specs.Prelude.{ℕ, Bool, ◌+◌, ◌*◌, ◌/◌, ◌<◌, List, [], ◌∷◌, length, take, drop, sum_by}
use Rattle.clause_store.specs.declared.Lit.{Lit}
use Rattle.clause_store.specs.Lits.{var_of, lit_true}
use Rattle.clause_circuits.specs.Cells.{bit}

pub data Tree (A : Type 0) : Type 0 where
  none : Tree A
  leaf : A → Tree A
  node : Tree A → Tree A → Tree A

-- the list halved at every step, at most so often
abbrev pub halves : {A : Type 0} → ℕ → List A → Tree A
halves zero xs = none
halves (suc k) [] = none
halves (suc k) (x ∷ []) = leaf x
halves (suc k) (x ∷ y ∷ zs) =
    node (halves k (take (length (x ∷ y ∷ zs) / 2) (x ∷ y ∷ zs))) (halves k (drop (length (x ∷ y ∷ zs) / 2) (x ∷ y ∷ zs)))

unfoldable pub halved : {A : Type 0} → List A → Tree A
halved xs = halves (length xs) xs

-- the sum of all weights
abbrev pub total : List (ℕ × Lit) → ℕ
total ts = sum_by (λ t. t.0) ts

-- the sum of weights of true literals
abbrev pub weight_of : (ℕ → Bool) → ℕ × Lit → ℕ
weight_of v t = t.0 * bit (lit_true v t.1)

abbrev pub weight : (ℕ → Bool) → List (ℕ × Lit) → ℕ
weight v ts = sum_by (weight_of v) ts

abbrev pub tree_sum : {A : Type 0} → (A → ℕ) → Tree A → ℕ
tree_sum f none = 0
tree_sum f (leaf t) = f t
tree_sum f (node l r) = tree_sum f l + tree_sum f r

abbrev pub tree_total : Tree (ℕ × Lit) → ℕ
tree_total t = tree_sum (λ t. t.0) t

-- the literals' variables are below a number
abbrev pub TermsBelow : ℕ → List (ℕ × Lit) → Type 0
TermsBelow n [] = Unit {0}
TermsBelow n (t ∷ ts) = (var_of t.1 < n) × TermsBelow n ts

abbrev pub TreeBelow : ℕ → Tree (ℕ × Lit) → Type 0
TreeBelow n none = Unit {0}
TreeBelow n (leaf t) = var_of t.1 < n
TreeBelow n (node l r) = TreeBelow n l × TreeBelow n r
