-- What a sum by digits promises: as many bits as the sum of all weights has, which spell the sum of those of true literals.
use Rattle.std.proofs.Common.{◌≡◌, ℕ, zero, suc, ◌+◌, ◌*◌, ◌/◌, ◌^◌, ◌<◌, ◌≤◌, Bool, List, [], ◌∷◌, ◌++◌, length, map, take, reverse, Option, Some, None, refl, ap, ◌∙◌, arith}
use Rattle.std.proofs.lemmas.List.{length-reverse, length-take-le}
use Rattle.clause_store.specs.declared.Lit.{Lit}
use Rattle.clause_store.specs.Lits.{lit_true}
use Rattle.clause_store.specs.Clauses.{Clauses}
use Rattle.clause_circuits.specs.Gates.{Planned, next, with_gate, with_gates, IsSound}
use Rattle.clause_circuits.specs.Steps.{FollowsPlan, plan_at}
use Rattle.clause_circuits.specs.Shapes.{never}
use Rattle.clause_circuits.proofs.StepLaws.{Step-trans, sound_from, step-defines, step-follows, step-vars}
use Rattle.clause_circuits.specs.Cells.{bit, bit_true}
use Rattle.clause_circuits.specs.Trees.{Tree, none, leaf, node, tree_sum, halved, total, tree_total, weight_of, TermsBelow}
use Rattle.clause_circuits.specs.Binary.{value, size, spell_on, number_after, number, SumsTo, IsSum}
use Rattle.clause_circuits.proofs.TreeLaws.{weight-le, halved-sum, halved-below}
use Rattle.clause_circuits.proofs.BinaryLaws.{spell_on-is, map-reverse, reverse-cons, AllBelow-reverse, size-is}
use Rattle.criteria_totals.specs.Digits.{digits_on, bits_on, low_bit_on, digit_bits_on, add_digits, digit_count, weight_digits, rest_digits}
use Rattle.criteria_totals.proofs.SumLaws.{digits_on-is}
use Rattle.criteria_totals.proofs.BitLaws.{bits_on-is, take-value, take-fit}

number_after-push : (n : ℕ) (xs : List Bool) (b : Bool) → number_after n (xs ++ b ∷ []) ≡ 2 * number_after n xs + bit b
number_after-push n [] b = refl
number_after-push n (x ∷ xs) b = number_after-push (2 * n + bit x) xs b

number-reverse : (v : ℕ → Bool) (bs : List (Option Lit)) → number (reverse (map (bit_true v) bs)) ≡ value v bs
number-reverse v [] = refl
number-reverse v (b ∷ bs) = ap number (reverse-cons (bit_true v b) (map (bit_true v) bs))
    ∙ number_after-push 0 (reverse (map (bit_true v) bs)) (bit_true v b) ∙ omega (arith, number-reverse v bs)

-- the planned bits spell the sum of the weights of true literals
pub digit_bits_on-is : (p : Planned) (ts : List (ℕ × Lit)) → TermsBelow (next p) ts → total ts < 2 ^ 63 → SumsTo p (digit_bits_on p ts) ts
unfolding digit_bits_on
digit_bits_on-is p ts b h =
    let t = halved ts in
    let w = size (total ts) in
    let sum = digits_on p t in
    let all = halved-sum (λ (t : ℕ × Lit). t.0) ts in
    let x = digits_on-is p t (halved-below (next p) ts b) (omega arith) in
    let bits = bits_on sum.plan sum.answer in
    let y = bits_on-is sum.plan sum.answer x.below x.short x.sorted in
    let kept = take w bits.answer in
    let z = spell_on-is bits.plan kept (take-fit (next bits.plan) w bits.answer y.1) in
    let m = spell_on bits.plan kept in record {
      step = Step-trans p sum.plan m.plan x.step (Step-trans sum.plan bits.plan m.plan y.0 z.0);
      below = AllBelow-reverse (next m.plan) m.answer z.1;
      sums = λ v f.
          let g : FollowsPlan v bits.plan = z.0.follows v f in
          let least : tree_sum (weight_of v) t ≤ total ts = omega (arith, weight-le v t) in
          let e1 = x.counts v (y.0.follows v g) (omega arith) in
          let e2 : value v bits.answer ≡ tree_sum (weight_of v) t = y.2 v g ∙ e1 in
          let small : value v bits.answer < 2 ^ w = omega (arith, size-is (total ts) h) in
          ap number (map-reverse (lit_true v) m.answer ∙ ap reverse (z.2 v f)) ∙ number-reverse v kept
          ∙ take-value v w bits.answer small ∙ e2 ∙ halved-sum (weight_of v) ts;
    }

-- how many bits there are
add_digits-length : (w : ℕ) (p : Planned) (c : List Lit) (ds es : List (List Lit)) → length (add_digits w p c ds es).answer ≡ w
add_digits-length zero p c ds es = refl
add_digits-length (suc w) p c ds es = ap suc (add_digits-length w _ _ (rest_digits ds) (rest_digits es))

weight_digits-length : (k w : ℕ) (l : Lit) → length (weight_digits k w l) ≡ k
weight_digits-length zero w l = refl
weight_digits-length (suc k) w l = ap suc (weight_digits-length k (w / 4) l)

digits_on-length : (p : Planned) (t : Tree (ℕ × Lit)) → length (digits_on p t).answer ≡ digit_count (tree_total t)
unfolding size
digits_on-length p none = refl
digits_on-length p (leaf t) = weight_digits-length (digit_count t.0) t.0 t.1
digits_on-length p (node l r) = add_digits-length (digit_count (tree_total l + tree_total r)) _ [] (digits_on p l).answer _

bits_on-length : (p : Planned) (ds : List (List Lit)) → length (bits_on p ds).answer ≡ 2 * length ds
bits_on-length p [] = refl
bits_on-length p (d ∷ ds) = omega (arith, bits_on-length (low_bit_on p d).plan ds)

spell_on-length : (p : Planned) (bs : List (Option Lit)) → length (spell_on p bs).answer ≡ length bs
spell_on-length p [] = refl
spell_on-length p (None ∷ bs) = ap suc (spell_on-length (with_gate p never).plan bs)
spell_on-length p (Some l ∷ bs) = ap suc (spell_on-length p bs)

-- as many bits as a sum by binary adders has
pub digit_bits_on-length : (p : Planned) (ts : List (ℕ × Lit)) → length (digit_bits_on p ts).answer ≡ size (total ts)
unfolding digit_bits_on
digit_bits_on-length p ts =
    let t = halved ts in
    let sum = digits_on p t in
    let bits = bits_on sum.plan sum.answer in
    let e : length bits.answer ≡ 2 * digit_count (tree_total t) = bits_on-length sum.plan sum.answer
    ∙ ap (λ n. 2 * n) (digits_on-length p t) in
    let k : digit_count (tree_total t) ≡ digit_count (total ts) = ap digit_count (halved-sum (λ (t : ℕ × Lit). t.0) ts) in
    length-reverse _ ∙ spell_on-length bits.plan (take (size (total ts)) bits.answer)
    ∙ length-take-le (size (total ts)) bits.answer (omega arith)

-- what the code planned for a list of clauses
module _ (s : Clauses) (ts : List (ℕ × Lit)) (q : Planned) (bits : List Lit) (b : TermsBelow s.vars ts) (h : total ts < 2 ^ 63)
    (built : digit_bits_on (plan_at s) ts ≡ record { plan = q; answer = bits }) where
  planned : SumsTo (plan_at s) (record { plan = q; answer = bits }) ts
  planned = let e : s.vars + 0 ≡ s.vars = omega arith in rw (← built) (digit_bits_on-is (plan_at s) ts (rw e b) h)

  -- the plan begins at the list's next variable
  pub bits-first : q.first ≡ s.vars
  bits-first = planned.step.same

  -- it is sound
  pub bits-sound : IsSound q
  bits-sound = sound_from s.vars q planned.step

  -- its clauses make the bits spell the sum
  pub bits-sum : (new : Clauses) → new ≡ with_gates s q.gates → IsSum s new bits ts
  bits-sum new e = rw e (record {
    defines = step-defines s q planned.step;
    below = rw (step-vars s q planned.step) planned.below;
    sums = λ asked v m. planned.sums v (step-follows s q planned.step asked v m);
  })
