-- Two sorted lists as one, and how many of its literals are true.
use Rattle.std.proofs.Common.{◌≡◌, ℕ, suc, ◌+◌, ◌-◌, Bool, List, [], ◌∷◌, length, map, leb, min, refl, ◌∙◌, inl, inr, arith}
use Rattle.std.proofs.lemmas.Bool.{cases_lt, le-leb, lt-leb}
use Rattle.clause_store.specs.declared.Lit.{Lit}
use Rattle.clause_store.specs.Lits.{lit_true, AllBelow}
use Rattle.clause_circuits.specs.Gates.{Planned, Made, next}
use Rattle.clause_circuits.specs.Steps.{Step, FollowsPlan}
use Rattle.clause_circuits.proofs.StepLaws.{Step-refl}
use Rattle.clause_circuits.specs.Cells.{count_true}
use Rattle.criteria_totals.specs.Merges.{thresholds, Spells, merged_on}
use Rattle.criteria_totals.proofs.MergeLaws.{head-same, tail-same, merge_from-is}

-- how many literals of a sorted list are true
count-from : (v : ℕ → Bool) (k n : ℕ) (ls : List Lit) → map (lit_true v) ls ≡ thresholds (suc k) (length ls) n
    → count_true v ls ≡ min (length ls) (n - k)
count-from v k n [] e = omega arith
count-from v k n (l ∷ ls) e =
    let ih = count-from v (suc k) n ls (tail-same _ _ _ _ e) in
    let h : lit_true v l ≡ leb (suc k) n = head-same _ _ _ _ e in
    elim (cases_lt k n) [
      | inl lt ↦ rw (h, le-leb (suc k) n (omega arith)) (omega arith)
      | inr ge ↦ rw (h, lt-leb (suc k) n (omega arith)) (omega arith)
    ]

-- a sorted list spells how many of it are true
pub spells-count : (v : ℕ → Bool) (ls : List Lit) (n : ℕ) → Spells v ls n → count_true v ls ≡ n
spells-count v ls n s = omega (arith, count-from v 0 n ls s.0, s.1)

-- so it spells its own count
pub spells-own : (v : ℕ → Bool) (ls : List Lit) (n : ℕ) → Spells v ls n → Spells v ls (count_true v ls)
spells-own v ls n s = rw (spells-count v ls n s) s

-- two sorted lists as one
pub record Joins (p : Planned) (m : Made (List Lit)) (long : ℕ) (n : (ℕ → Bool) → ℕ) : Type 0 where
  pub step : Step p m.plan
  pub below : AllBelow (next m.plan) m.answer
  pub long_is : length m.answer ≡ long
  pub spells : (v : ℕ → Bool) → FollowsPlan v m.plan → Spells v m.answer (n v)

-- two sorted lists merged spell the sum
pub merged_on-is : (p : Planned) (xs ys : List Lit) (c d : (ℕ → Bool) → ℕ) → AllBelow (next p) xs → AllBelow (next p) ys →
    ((v : ℕ → Bool) → FollowsPlan v p → Spells v xs (c v) × Spells v ys (d v))
    → Joins p (merged_on p xs ys) (length xs + length ys) (λ v. c v + d v)
merged_on-is p [] ys c d a b s = record {
  step = Step-refl p;
  below = b;
  long_is = omega arith;
  spells = λ v f. let n : c v + d v ≡ d v = omega (arith, (s v f).0.1) in rw n (s v f).1;
}
merged_on-is p (x ∷ xs) [] c d a b s = record {
  step = Step-refl p;
  below = a;
  long_is = omega arith;
  spells = λ v f. let n : c v + d v ≡ c v = omega (arith, (s v f).1.1) in rw n (s v f).0;
}
merged_on-is p (x ∷ xs) (y ∷ ys) c d a b s =
    let z = merge_from-is 1 (length (x ∷ xs) + length (y ∷ ys)) p (x ∷ xs) (y ∷ ys) c d (omega arith) a b s in record {
      step = z.step;
      below = z.below;
      long_is = z.long;
      spells = λ v f. let g = s v (z.step.follows v f) in (z.spells v f ∙ rw z.long refl, omega (arith, z.long, g.0.1, g.1.1));
    }
