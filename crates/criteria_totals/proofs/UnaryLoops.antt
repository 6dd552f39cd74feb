-- The code over a tree of merges, step by step.
use Rattle.std.proofs.Common.{◌≡◌, ℕ, ◌+◌, ◌/◌, ◌<◌, ◌≤◌, List, [], length, take, drop, get_or, reverse, replicate, refl, ap, ◌∙◌}
use Rattle.clause_store.specs.declared.Lit.{Lit}
use Rattle.clause_circuits.specs.Gates.{Planned, Made}
use Rattle.clause_circuits.specs.Trees.{halved}
use Rattle.clause_circuits.proofs.TreeLaws.{halved-none, halved-leaf, halved-split}
use Rattle.criteria_totals.specs.Merges.{merge_from}
use Rattle.criteria_totals.specs.Unary.{unary_on, unary_bits_on}

-- no term has no literal
pub unary-none : (p : Planned) (ts : List (ℕ × Lit)) (xs : List Lit) → length ts < 1 → xs ≡ []
    → unary_on p (halved ts) ≡ record { plan = p; answer = xs }
unary-none p ts xs h e = rw (halved-none ts h, e) refl

-- one term has its literal so many times
pub unary-leaf : (p : Planned) (ts : List (ℕ × Lit)) (d : ℕ × Lit) (xs : List Lit) → length ts < 2 → 1 ≤ length ts
    → xs ≡ replicate (get_or ts 0 d).0 (get_or ts 0 d).1 → unary_on p (halved ts) ≡ record { plan = p; answer = xs }
unary-leaf p ts d xs h k e = rw (halved-leaf ts d h k, e) refl

-- two terms and more have the merge of their halves
pub unary-node : (p q r : Planned) (ts : List (ℕ × Lit)) (xs ys zs ws : List Lit) (m : Made (List Lit)) → 2 ≤ length ts →
    unary_on p (halved (take (length ts / 2) ts)) ≡ record { plan = q; answer = xs }
    → unary_on q (halved (drop (length ts / 2) ts)) ≡ record { plan = r; answer = ys } →
    zs ≡ xs → ws ≡ ys → merge_from 1 (length zs + length ws) r zs ws ≡ m → unary_on p (halved ts) ≡ m
unary-node p q r ts xs ys zs ws m h e f a b o = ap (unary_on p) (halved-split ts h) ∙ rw (e, f, ← a, ← b) o

-- the code planned the definition's sum
pub unary-built : (p q : Planned) (ts : List (ℕ × Lit)) (ls bits : List Lit) → unary_on p (halved ts) ≡ record { plan = q; answer = ls }
    → bits ≡ reverse ls → unary_bits_on p ts ≡ record { plan = q; answer = bits }
unfolding unary_bits_on
unary-built p q ts ls bits e f = rw (e, f) refl
