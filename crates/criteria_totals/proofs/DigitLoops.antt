-- The loops over digits, step by step.
use Rattle.std.proofs.Common.{◌≡◌, ℕ, zero, suc, ◌+◌, ◌/◌, ◌%◌, ◌<◌, ◌≤◌, List, [], ◌∷◌, ◌++◌, length, take, drop, get_or, map, reverse, replicate, Option, append_assoc, refl, sym, ap, ◌∙◌, arith}
use Rattle.clause_store.specs.declared.Lit.{Lit}
use Rattle.clause_store.specs.Lits.{negation}
use Rattle.clause_circuits.specs.Gates.{Sides, Planned, Made}
use Rattle.clause_circuits.specs.Trees.{halved, total, tree_total}
use Rattle.clause_circuits.specs.Binary.{size, spell_on}
use Rattle.clause_circuits.proofs.TreeLaws.{halved-none, halved-leaf, halved-split, halved-sum}
use Rattle.clause_circuits.proofs.AddLoops.{with_front}
use Rattle.criteria_totals.specs.Merges.{above, merged_on}
use Rattle.criteria_totals.specs.Digits.{not_above, left_over, digit_on, first_digit, rest_digits, with_lowest_digit, add_digits, digit_count, weight_digits, digits_on, low_bit_on, high_bit, bits_on, digit_bits_on}

-- one more digit of a weight
pub weight-more : (j k w : ℕ) (l : Lit) (ds all more : List (List Lit)) → j ≡ suc k → ds ++ weight_digits j w l ≡ all
    → more ≡ ds ++ replicate (w % 4) l ∷ [] → more ++ weight_digits k (w / 4) l ≡ all
weight-more j k w l ds all more q e f = rw f (append_assoc ds _ _) ∙ ap (λ n. ds ++ weight_digits n w l) (sym q) ∙ e

rest-next : (i : ℕ) (ds : List (List Lit)) → rest_digits (drop i ds) ≡ drop (suc i) ds
rest-next zero [] = refl
rest-next zero (d ∷ ds) = refl
rest-next (suc i) [] = refl
rest-next (suc i) (d ∷ ds) = rest-next i ds

rest-drop : (i : ℕ) (ds : List (List Lit)) → rest_digits (drop i ds) ≡ drop (i + 1) ds
rest-drop i ds = let e : suc i ≡ i + 1 = omega arith in rest-next i ds ∙ ap (λ n. drop n ds) e

pushed : {A : Type 0} (xs : List A) (x : A) (m : Made (List A)) (more : List A) → more ≡ xs ++ x ∷ []
    → with_front xs (record { plan = m.plan; answer = x ∷ m.answer }) ≡ with_front more m
pushed xs x m more e = rw (e, append_assoc xs (x ∷ []) m.answer) refl

-- one more digit of a sum
pub add-more : (j w : ℕ) (p q r t : Planned) (carry next here all digit x y : List Lit) (ds es out more : List (List Lit)) (i : ℕ)
    (m : Made (List (List Lit))) →
    j ≡ suc w → with_front out (add_digits j p carry (drop i ds) (drop i es)) ≡ m →
    x ≡ first_digit (drop i ds) → y ≡ first_digit (drop i es) → merged_on p x y ≡ record { plan = q; answer = here } →
    merged_on q here carry ≡ record { plan = r; answer = all } → digit_on r all ≡ record { plan = t; answer = digit } →
    next ≡ above all 3 → more ≡ out ++ digit ∷ []
    → with_front more (add_digits w t next (drop (i + 1) ds) (drop (i + 1) es)) ≡ m
add-more j w p q r t carry next here all digit x y ds es out more i m n inv f g a b d k o =
    let xs = drop i ds in
    let ys = drop i es in
    let after = λ (d : Made (List Lit)) (c : List Lit) (xs ys : List (List Lit)). with_front out
    (with_lowest_digit d.answer (add_digits w d.plan c xs ys)) in
    let with_all = λ (z : Made (List Lit)). after (digit_on z.plan z.answer) (above z.answer 3) (rest_digits xs) (rest_digits ys) in
    let with_here = λ (z : Made (List Lit)). with_all (merged_on z.plan z.answer carry) in
    let last : Made (List Lit) = record { plan = t; answer = digit } in
    sym (ap (λ k. with_front out (add_digits k p carry xs ys)) n
    ∙ ap (λ z. with_here (merged_on p z (first_digit ys))) (sym f)
    ∙ ap (λ z. with_here (merged_on p x z)) (sym g)
    ∙ ap with_here a ∙ ap with_all b ∙ ap (λ z. after z (above all 3) (rest_digits xs) (rest_digits ys)) d
    ∙ ap (λ z. after last z (rest_digits xs) (rest_digits ys)) (sym k)
    ∙ ap (λ z. after last next z (rest_digits ys)) (rest-drop i ds) ∙ ap (λ z. after last next (drop (i + 1) ds) z) (rest-drop i es)
    ∙ pushed out digit (add_digits w t next (drop (i + 1) ds) (drop (i + 1) es)) more o) ∙ inv

-- the code made the gate for what is left
pub left_over-built : (s : List Lit) (i : ℕ) (g : Sides) (a b c d e x y z : List Lit) (on on2 on3 off off2 off3 : List (List Lit)) →
    a ≡ above s i → b ≡ above s 3 → x ≡ map negation a ++ b → on ≡ [] → on2 ≡ on ++ x ∷ [] → on3 ≡ on2 ++ not_above s (i + 4) →
    c ≡ above s i → y ≡ c → off ≡ [] → off2 ≡ off ++ y ∷ [] →
    d ≡ above s 3 → e ≡ above s (i + 4) → z ≡ map negation d ++ e → off3 ≡ off2 ++ z ∷ [] →
    g ≡ record { on = on3; off = off3 } → g ≡ left_over s i
unfolding left_over
left_over-built s i g a b c d e x y z on on2 on3 off off2 off3 a1 b1 x1 o1 o2 o3 c1 y1 p1 p2 d1 e1 z1 p3 q =
    q ∙ rw (o3, o2, o1, x1, a1, b1, p3, p2, p1, y1, c1, z1, d1, e1) refl

-- no term has no digit
pub tree-none : (p : Planned) (ts : List (ℕ × Lit)) (xs : List (List Lit)) → length ts < 1 → xs ≡ []
    → digits_on p (halved ts) ≡ record { plan = p; answer = xs }
tree-none p ts xs h e = rw (halved-none ts h, e) refl

-- one term has its weight's digits
pub tree-leaf : (p : Planned) (ts : List (ℕ × Lit)) (d : ℕ × Lit) (xs : List (List Lit)) → length ts < 2 → 1 ≤ length ts
    → xs ≡ weight_digits (digit_count (get_or ts 0 d).0) (get_or ts 0 d).0 (get_or ts 0 d).1
    → digits_on p (halved ts) ≡ record { plan = p; answer = xs }
tree-leaf p ts d xs h k e = rw (halved-leaf ts d h k, e) refl

-- two terms and more have the sum of their halves
pub tree-node : (p q r : Planned) (ts : List (ℕ × Lit)) (xs ys : List (List Lit)) (w : ℕ) (m : Made (List (List Lit))) → 2 ≤ length ts →
    digits_on p (halved (take (length ts / 2) ts)) ≡ record { plan = q; answer = xs }
    → digits_on q (halved (drop (length ts / 2) ts)) ≡ record { plan = r; answer = ys } →
    w ≡ digit_count (total ts) → add_digits w r [] xs ys ≡ m → digits_on p (halved ts) ≡ m
tree-node p q r ts xs ys w m h e f k o =
    let n = length ts / 2 in
    let t : tree_total (halved (take n ts)) + tree_total (halved (drop n ts)) ≡ total ts = ap tree_total (sym (halved-split ts h))
    ∙ halved-sum (λ (t : ℕ × Lit). t.0) ts in
    ap (digits_on p) (halved-split ts h) ∙ rw (e, f, t, ← k) o

-- the two bits of one more digit
pub bits-more : (p q : Planned) (d : List Lit) (ds : List (List Lit)) (low high : Option Lit) (out half more : List (Option Lit))
    (m : Made (List (Option Lit))) → with_front out (bits_on p (d ∷ ds)) ≡ m → low_bit_on p d ≡ record { plan = q; answer = low } →
    high ≡ high_bit d → half ≡ out ++ low ∷ [] → more ≡ half ++ high ∷ [] → with_front more (bits_on q ds) ≡ m
bits-more p q d ds low high out half more m inv e h a b =
    sym (rw (e, ← h) (pushed out low (record { plan = (bits_on q ds).plan; answer = high ∷ (bits_on q ds).answer }) half a)
    ∙ pushed half high (bits_on q ds) more b) ∙ inv

-- the code planned the definition's sum
pub bits-built : (p q r s : Planned) (ts : List (ℕ × Lit)) (xs ys : List (List Lit)) (bs cs ds : List (Option Lit)) (ls bits : List Lit) →
    digits_on p (halved ts) ≡ record { plan = q; answer = xs } → ys ≡ xs → bits_on q ys ≡ record { plan = r; answer = bs } →
    cs ≡ take (size (total ts)) bs → ds ≡ cs → spell_on r ds ≡ record { plan = s; answer = ls } → bits ≡ reverse ls
    → digit_bits_on p ts ≡ record { plan = s; answer = bits }
unfolding digit_bits_on
bits-built p q r s ts xs ys bs cs ds ls bits e f g h d k o = rw (e, ← f, g, ← h, ← d, k, o) refl
