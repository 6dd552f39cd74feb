-- Trees of digits spell sums.
use Rattle.std.proofs.Common.{◌≡◌, ℕ, zero, suc, ◌+◌, ◌*◌, ◌/◌, ◌%◌, ◌^◌, ◌<◌, ◌≤◌, Bool, true, false, List, [], ◌∷◌, length, leb, replicate, refl, ◌∙◌, inl, inr, arith, pow-suc}
use Rattle.std.proofs.lemmas.Bool.{cases_Bool}
use Rattle.std.proofs.lemmas.List.{length-replicate}
use Rattle.clause_store.specs.declared.Lit.{Lit}
use Rattle.clause_store.specs.Lits.{var_of, lit_true, AllBelow}
use Rattle.clause_store.proofs.Range.{AllBelow-le}
use Rattle.clause_circuits.specs.Gates.{Planned, Made, next, AllClausesBelow}
use Rattle.clause_circuits.specs.Steps.{Step, FollowsPlan}
use Rattle.clause_circuits.proofs.StepLaws.{Step-refl, Step-trans}
use Rattle.clause_circuits.specs.Cells.{bit, count_true}
use Rattle.clause_circuits.specs.Trees.{Tree, none, leaf, node, tree_sum, tree_total, weight_of, TreeBelow}
use Rattle.clause_circuits.specs.Binary.{size}
use Rattle.clause_circuits.proofs.TreeLaws.{TreeBelow-more, weight-le}
use Rattle.clause_circuits.proofs.BinaryLaws.{size-is}
use Rattle.criteria_totals.specs.Merges.{Spells, above, merged_on}
use Rattle.criteria_totals.specs.Digits.{worth, digit_on, first_digit, rest_digits, add_digits, digit_count, weight_digits, digits_on}
use Rattle.criteria_totals.proofs.MergeLaws.{above-below, replicate-below, replicate-is}
use Rattle.criteria_totals.proofs.JoinLaws.{spells-count, spells-own, merged_on-is}
use Rattle.criteria_totals.proofs.DigitLaws.{left_of, left_of-parts, above-short, carry-spells, digit_on-is}

-- each digit has at most three literals
abbrev pub AllShort : List (List Lit) → Type 0
AllShort [] = Unit {0}
AllShort (d ∷ ds) = (length d ≤ 3) × AllShort ds

-- each digit is sorted under an assignment
abbrev pub AllSorted : (ℕ → Bool) → List (List Lit) → Type 0
AllSorted v [] = Unit {0}
AllSorted v (d ∷ ds) = Spells v d (count_true v d) × AllSorted v ds

-- digits that a longer plan defines, and the number that they spell
pub record Counts (p : Planned) (m : Made (List (List Lit))) (n : (ℕ → Bool) → ℕ) (limit : ℕ) : Type 0 where
  pub step : Step p m.plan
  pub below : AllClausesBelow (next m.plan) m.answer
  pub short : AllShort m.answer
  pub sorted : (v : ℕ → Bool) → FollowsPlan v m.plan → AllSorted v m.answer
  pub counts : (v : ℕ → Bool) → FollowsPlan v m.plan → n v < limit → worth v m.answer ≡ n v

pub AllClausesBelow-le : (m n : ℕ) (ds : List (List Lit)) → m ≤ n → AllClausesBelow m ds → AllClausesBelow n ds
AllClausesBelow-le m n [] h b = tt
AllClausesBelow-le m n (d ∷ ds) h b = (AllBelow-le m n d h b.0, AllClausesBelow-le m n ds h b.1)

first-below : (n : ℕ) (ds : List (List Lit)) → AllClausesBelow n ds → AllBelow n (first_digit ds)
first-below n [] b = tt
first-below n (d ∷ ds) b = b.0

rest-below : (n : ℕ) (ds : List (List Lit)) → AllClausesBelow n ds → AllClausesBelow n (rest_digits ds)
rest-below n [] b = tt
rest-below n (d ∷ ds) b = b.1

first-short : (ds : List (List Lit)) → AllShort ds → length (first_digit ds) ≤ 3
first-short [] b = omega arith
first-short (d ∷ ds) b = b.0

rest-short : (ds : List (List Lit)) → AllShort ds → AllShort (rest_digits ds)
rest-short [] b = tt
rest-short (d ∷ ds) b = b.1

first-sorted : (v : ℕ → Bool) (ds : List (List Lit)) → AllSorted v ds → Spells v (first_digit ds) (count_true v (first_digit ds))
first-sorted v [] b = (refl, omega arith)
first-sorted v (d ∷ ds) b = b.0

rest-sorted : (v : ℕ → Bool) (ds : List (List Lit)) → AllSorted v ds → AllSorted v (rest_digits ds)
rest-sorted v [] b = tt
rest-sorted v (d ∷ ds) b = b.1

worth-parts : (v : ℕ → Bool) (ds : List (List Lit)) → worth v ds ≡ count_true v (first_digit ds) + 4 * worth v (rest_digits ds)
worth-parts v [] = refl
worth-parts v (d ∷ ds) = refl

add_digits-is : (w : ℕ) (p : Planned) (c : List Lit) (ds es : List (List Lit)) → AllBelow (next p) c → length c ≤ 1 →
    AllClausesBelow (next p) ds → AllClausesBelow (next p) es → AllShort ds → AllShort es →
    ((v : ℕ → Bool) → FollowsPlan v p → Spells v c (count_true v c) × AllSorted v ds × AllSorted v es)
    → Counts p (add_digits w p c ds es) (λ v. count_true v c + worth v ds + worth v es) (4 ^ w)
add_digits-is zero p c ds es a k f g s t o = record {
  step = Step-refl p;
  below = tt;
  short = tt;
  sorted = λ v fol. tt;
  counts = λ v fol h. omega arith;
}
add_digits-is (suc w) p c ds es a k f g s t o =
    let n1 = λ (v : ℕ → Bool). count_true v (first_digit ds) + count_true v (first_digit es) in
    let n2 = λ (v : ℕ → Bool). n1 v + count_true v c in
    let here = merged_on p (first_digit ds) (first_digit es) in
    let x = merged_on-is p (first_digit ds) (first_digit es) (λ v. count_true v (first_digit ds)) (λ v. count_true v (first_digit es))
    (first-below (next p) ds f) (first-below (next p) es g)
    (λ v fol. (first-sorted v ds (o v fol).1, first-sorted v es (o v fol).2)) in
    let all = merged_on here.plan here.answer c in
    let y = merged_on-is here.plan here.answer c n1 (λ v. count_true v c) x.below (AllBelow-le (next p) (next here.plan) c x.step.more a)
    (λ v fol. (x.spells v fol, (o v (x.step.follows v fol)).0)) in
    let long : length all.answer ≤ 7 = omega (arith, x.long_is, y.long_is, first-short ds s, first-short es t) in
    let digit = digit_on all.plan all.answer in
    let z = digit_on-is all.plan all.answer n2 y.below long y.spells in
    let carry = above all.answer 3 in
    let m = next digit.plan in
    let up : next p ≤ m = omega (arith, x.step.more, y.step.more, z.step.more) in
    let back : (v : ℕ → Bool) → FollowsPlan v digit.plan → FollowsPlan v p =
    λ v fol. x.step.follows v (y.step.follows v (z.step.follows v fol)) in
    let carried : (v : ℕ → Bool) → FollowsPlan v digit.plan → Spells v carry (bit (leb 4 (n2 v))) =
    λ v fol. carry-spells v all.answer (n2 v) (y.spells v (z.step.follows v fol)) in
    let r = add_digits-is w digit.plan carry (rest_digits ds) (rest_digits es)
    (AllBelow-le (next all.plan) m carry z.step.more (above-below (next all.plan) 3 all.answer y.below)) (above-short all.answer 3)
    (AllClausesBelow-le (next p) m (rest_digits ds) up (rest-below (next p) ds f))
    (AllClausesBelow-le (next p) m (rest_digits es) up (rest-below (next p) es g)) (rest-short ds s) (rest-short es t)
    (λ v fol. (
      spells-own v carry (bit (leb 4 (n2 v))) (carried v fol),
      rest-sorted v ds (o v (back v fol)).1,
      rest-sorted v es (o v (back v fol)).2,
    )) in
    let last = (add_digits w digit.plan carry (rest_digits ds) (rest_digits es)).plan in record {
      step = Step-trans p here.plan last x.step (Step-trans here.plan all.plan last y.step
          (Step-trans all.plan digit.plan last z.step r.step));
      below = (AllBelow-le m (next last) digit.answer r.step.more z.below, r.below);
      short = (z.short, r.short);
      sorted = λ v fol.
          (spells-own v digit.answer (left_of (n2 v)) (z.spells v (r.step.follows v fol)), r.sorted v fol);
      counts = λ v fol h.
          let f1 : FollowsPlan v digit.plan = r.step.follows v fol in
          let e1 : count_true v digit.answer ≡ left_of (n2 v) = spells-count v digit.answer (left_of (n2 v)) (z.spells v f1) in
          let e2 : count_true v carry ≡ bit (leb 4 (n2 v)) = spells-count v carry (bit (leb 4 (n2 v))) (carried v f1) in
          let e3 : left_of (n2 v) + 4 * bit (leb 4 (n2 v)) ≡ n2 v = left_of-parts (n2 v) in
          let e4 = worth-parts v ds in
          let e5 = worth-parts v es in
          let small : count_true v carry + worth v (rest_digits ds) + worth v (rest_digits es) < 4 ^ w = omega (arith, pow-suc 4 w) in
          let ih = r.counts v fol small in
          omega arith;
    }

-- digits are enough
two-four : (j k : ℕ) → k ≤ j + j → 2 ^ k ≤ 4 ^ j
two-four zero k h = let e : k ≡ 0 = omega arith in rw e (omega arith)
two-four (suc j) zero h = omega (arith, pow-suc 4 j, two-four j zero (omega arith))
two-four (suc j) (suc zero) h = omega (arith, pow-suc 4 j, two-four j zero (omega arith))
two-four (suc j) (suc (suc k)) h = omega (arith, pow-suc 4 j, pow-suc 2 (suc k), pow-suc 2 k, two-four j k (omega arith))

-- a number is below the power of its count of digits
pub digit_count-is : (n : ℕ) → n < 2 ^ 63 → n < 4 ^ digit_count n
digit_count-is n h = omega (arith, size-is n h, two-four (digit_count n) (size n) (omega arith))

weight-below : (n k w : ℕ) (l : Lit) → var_of l < n → AllClausesBelow n (weight_digits k w l)
weight-below n zero w l h = tt
weight-below n (suc k) w l h = (replicate-below n (w % 4) l h, weight-below n k (w / 4) l h)

weight-short : (k w : ℕ) (l : Lit) → AllShort (weight_digits k w l)
weight-short zero w l = tt
weight-short (suc k) w l = (omega (arith, length-replicate (w % 4) l), weight-short k (w / 4) l)

weight-sorted : (v : ℕ → Bool) (k w : ℕ) (l : Lit) → AllSorted v (weight_digits k w l)
weight-sorted v zero w l = tt
weight-sorted v (suc k) w l = (spells-own v _ _ (replicate-is v (w % 4) l), weight-sorted v k (w / 4) l)

digit-counts : (v : ℕ → Bool) (d : ℕ) (l : Lit) → count_true v (replicate d l) ≡ d * bit (lit_true v l)
digit-counts v d l = spells-count v (replicate d l) _ (replicate-is v d l)

weight-on : (v : ℕ → Bool) (k w : ℕ) (l : Lit) → lit_true v l ≡ true → w < 4 ^ k → worth v (weight_digits k w l) ≡ w
weight-on v zero w l t h = omega arith
weight-on v (suc k) w l t h =
    let ih = weight-on v k (w / 4) l t (omega (arith, pow-suc 4 k)) in
    rw (digit-counts v (w % 4) l, t, ih) (omega arith)

weight-off : (v : ℕ → Bool) (k w : ℕ) (l : Lit) → lit_true v l ≡ false → worth v (weight_digits k w l) ≡ 0
weight-off v zero w l t = refl
weight-off v (suc k) w l t = rw (digit-counts v (w % 4) l, t, weight-off v k (w / 4) l t) (omega arith)

weight-is : (v : ℕ → Bool) (k w : ℕ) (l : Lit) → w < 4 ^ k → worth v (weight_digits k w l) ≡ w * bit (lit_true v l)
weight-is v k w l h =
    elim (cases_Bool (lit_true v l)) [
      | inl t ↦ weight-on v k w l t h ∙ rw t (omega arith)
      | inr t ↦ weight-off v k w l t ∙ rw t (omega arith)
    ]

-- the digits of a tree spell the sum of the weights of true literals
pub digits_on-is : (p : Planned) (t : Tree (ℕ × Lit)) → TreeBelow (next p) t → tree_total t < 2 ^ 63
    → Counts p (digits_on p t) (λ v. tree_sum (weight_of v) t) (2 ^ 63)
digits_on-is p none b h = record { step = Step-refl p; below = tt; short = tt; sorted = λ v f. tt; counts = λ v f k. refl }
digits_on-is p (leaf t) b h = record {
  step = Step-refl p;
  below = weight-below (next p) (digit_count t.0) t.0 t.1 b;
  short = weight-short (digit_count t.0) t.0 t.1;
  sorted = λ v f. weight-sorted v (digit_count t.0) t.0 t.1;
  counts = λ v f k. weight-is v (digit_count t.0) t.0 t.1 (digit_count-is t.0 h);
}
digits_on-is p (node l r) b h =
    let left = digits_on p l in
    let x = digits_on-is p l b.0 (omega arith) in
    let right = digits_on left.plan r in
    let y = digits_on-is left.plan r (TreeBelow-more (next p) (next left.plan) r x.step.more b.1) (omega arith) in
    let w = digit_count (tree_total l + tree_total r) in
    let out = add_digits w right.plan [] left.answer right.answer in
    let z = add_digits-is w right.plan [] left.answer right.answer tt (omega arith)
    (AllClausesBelow-le (next left.plan) (next right.plan) left.answer y.step.more x.below) y.below x.short y.short
    (λ v f. ((refl, omega arith), x.sorted v (y.step.follows v f), y.sorted v f)) in record {
      step = Step-trans p left.plan out.plan x.step (Step-trans left.plan right.plan out.plan y.step z.step);
      below = z.below;
      short = z.short;
      sorted = z.sorted;
      counts = λ v f k.
          let g : FollowsPlan v right.plan = z.step.follows v f in
          let e1 = x.counts v (y.step.follows v g) (omega arith) in
          let e2 = y.counts v g (omega arith) in
          let top = digit_count-is (tree_total l + tree_total r) h in
          let small : 0 + worth v left.answer + worth v right.answer < 4 ^ w = omega (arith, weight-le v l, weight-le v r) in
          z.counts v f small ∙ omega arith;
    }
