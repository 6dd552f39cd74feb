-- The bits of sums spell them.
use Rattle.std.proofs.Common.{◌≡◌, ℕ, zero, suc, ◌+◌, ◌^◌, ◌<◌, ◌≤◌, Bool, true, List, [], ◌∷◌, length, map, get_or, reverse, leb, Some, inl, inr, refl, sym, ap, ◌∙◌, arith}
use Rattle.std.proofs.lemmas.Bool.{cases_Bool, le-leb, lt-leb, and_from}
use Rattle.std.proofs.lemmas.List.{map-append, length-map}
use Rattle.clause_store.specs.declared.Lit.{Lit}
use Rattle.clause_store.specs.Lits.{lit_true, AllBelow}
use Rattle.clause_store.specs.Clauses.{Clauses}
use Rattle.clause_store.proofs.Range.{AllBelow-le}
use Rattle.clause_circuits.specs.Gates.{Planned, Made, next, with_gates, IsSound}
use Rattle.clause_circuits.specs.Steps.{Step, FollowsPlan, plan_at}
use Rattle.clause_circuits.proofs.StepLaws.{Step-refl, Step-trans, sound_from, step-defines, step-follows, step-vars}
use Rattle.clause_circuits.specs.Trees.{halved, weight_of, total, weight, TermsBelow}
use Rattle.clause_circuits.specs.Binary.{size}
use Rattle.criteria_totals.specs.Digits.{digit_bits_on}
use Rattle.criteria_totals.specs.Merges.{thresholds}
use Rattle.criteria_totals.specs.Unary.{unary_on, unary_bits_on}
use Rattle.clause_circuits.proofs.TreeLaws.{halved-sum, halved-below, weight-le}
use Rattle.criteria_totals.proofs.SpelledLaws.{digit_bits_on-is, digit_bits_on-length}
use Rattle.clause_circuits.proofs.BinaryLaws.{AllBelow-append, AllBelow-reverse, map-reverse}
use Rattle.criteria_totals.proofs.UnaryLaws.{unary_on-is}
use Rattle.criteria_totals.specs.Spellings.{unary, binary, spelling_of, spell_all, within, bits_for, AllSmall}
use Rattle.criteria_totals.specs.Totals.{number_on, totals_on, tops, sums, AllTermsBelow, values_at, IsTotals}
use Rattle.criteria_totals.proofs.SpellingLaws.{all-order, all-equal, binary-is, unary-is}

-- bits that a longer plan defines, and their values
record Spelled (p : Planned) (m : Made (List Lit)) (values : (ℕ → Bool) → List Bool) : Type 0 where
  step : Step p m.plan
  below : AllBelow (next m.plan) m.answer
  spells : (v : ℕ → Bool) → FollowsPlan v m.plan → values_at v m.answer ≡ values v

unary-spelled : (p : Planned) (ts : List (ℕ × Lit)) → TermsBelow (next p) ts
    → Spelled p (unary_bits_on p ts) (λ v. unary (total ts) (weight v ts))
unfolding unary_bits_on
unary-spelled p ts b =
    let x = unary_on-is p (halved ts) (halved-below (next p) ts b) in
    let m = unary_on p (halved ts) in record {
      step = x.step;
      below = AllBelow-reverse (next m.plan) m.answer x.below;
      spells = λ v f.
          let e : map (lit_true v) m.answer ≡ thresholds 1 (total ts) (weight v ts) =
          rw (← halved-sum (λ (t : ℕ × Lit). t.0) ts, ← halved-sum (weight_of v) ts, ← x.long) (x.spells v f).0 in
          map-reverse (lit_true v) m.answer ∙ ap reverse e ∙ unary-is (total ts) (weight v ts);
    }

binary-spelled : (p : Planned) (ts : List (ℕ × Lit)) → TermsBelow (next p) ts → total ts < 2 ^ 63
    → Spelled p (digit_bits_on p ts) (λ v. binary (size (total ts)) (weight v ts))
binary-spelled p ts b h =
    let x = digit_bits_on-is p ts b h in
    let m = digit_bits_on p ts in record {
      step = x.step;
      below = x.below;
      spells = λ v f. binary-is (size (total ts)) (weight v ts) (values_at v m.answer) (length-map m.answer (lit_true v)
          ∙ digit_bits_on-length p ts) (x.sums v f);
    }

number-spelled : (p : Planned) (ts : List (ℕ × Lit)) → TermsBelow (next p) ts → total ts < 2 ^ 63
    → Spelled p (number_on p ts) (λ v. spelling_of (total ts) (weight v ts))
unfolding number_on spelling_of
number-spelled p ts b h = elim (cases_Bool (leb (total ts) 64)) [
  | inl e ↦ rw e (unary-spelled p ts b)
  | inr e ↦
      rw e (binary-spelled p ts b h)
]

TermsBelow-more : (m n : ℕ) (ts : List (ℕ × Lit)) → m ≤ n → TermsBelow m ts → TermsBelow n ts
TermsBelow-more m n [] h b = tt
TermsBelow-more m n (t ∷ ts) h b = (omega (arith, b.0), TermsBelow-more m n ts h b.1)

AllTermsBelow-more : (m n : ℕ) (lists : List (List (ℕ × Lit))) → m ≤ n → AllTermsBelow m lists → AllTermsBelow n lists
AllTermsBelow-more m n [] h b = tt
AllTermsBelow-more m n (ts ∷ lists) h b = (TermsBelow-more m n ts h b.0, AllTermsBelow-more m n lists h b.1)

totals-spelled : (p : Planned) (lists : List (List (ℕ × Lit))) → AllTermsBelow (next p) lists → AllSmall (tops lists)
    → Spelled p (totals_on p lists) (λ v. spell_all (tops lists) (sums v lists))
totals-spelled p [] b h = record { step = Step-refl p; below = tt; spells = λ v f. refl }
totals-spelled p (ts ∷ lists) b h =
    let one = number_on p ts in
    let x = number-spelled p ts b.0 h.0 in
    let rest = totals_on one.plan lists in
    let y = totals-spelled one.plan lists (AllTermsBelow-more (next p) (next one.plan) lists x.step.more b.1) h.1 in record {
      step = Step-trans p one.plan rest.plan x.step y.step;
      below = AllBelow-append (next rest.plan) one.answer rest.answer
          (AllBelow-le (next one.plan) (next rest.plan) one.answer y.step.more x.below) y.below;
      spells = λ v f. map-append (lit_true v) one.answer rest.answer ∙ rw (x.spells v (y.step.follows v f), y.spells v f) refl;
    }

sums-within : (v : ℕ → Bool) (lists : List (List (ℕ × Lit))) → within (tops lists) (sums v lists) ≡ true
sums-within v [] = refl
sums-within v (ts ∷ lists) =
    let h : weight v ts ≤ total ts =
    omega (arith, weight-le v (halved ts), halved-sum (weight_of v) ts, halved-sum (λ (t : ℕ × Lit). t.0) ts) in
    and_from (leb (weight v ts) (total ts)) (within (tops lists) (sums v lists)) (le-leb (weight v ts) (total ts) h) (sums-within v lists)

bits_found : (ts ns : List ℕ) → within ts ns ≡ true → bits_for ts ns ≡ Some (spell_all ts ns)
unfolding bits_for
bits_found ts ns e = rw e refl

-- what the code planned for a list of clauses
module _ (s : Clauses) (lists : List (List (ℕ × Lit))) (q : Planned) (bits : List Lit) (range : AllTermsBelow s.vars lists)
    (small : AllSmall (tops lists)) (built : totals_on (plan_at s) lists ≡ record { plan = q; answer = bits }) where
  planned : Spelled (plan_at s) (record { plan = q; answer = bits }) (λ v. spell_all (tops lists) (sums v lists))
  planned = let e : s.vars + 0 ≡ s.vars = omega arith in rw (← built) (totals-spelled (plan_at s) lists (rw e range) small)

  -- the plan begins at the list's next variable
  pub totals-first : q.first ≡ s.vars
  totals-first = planned.step.same

  -- it is sound
  pub totals-sound : IsSound q
  totals-sound = sound_from s.vars q planned.step

  -- its clauses make the bits spell the sums
  pub totals-are : (new : Clauses) → new ≡ with_gates s q.gates → IsTotals s new bits lists
  totals-are new e =
      let follows = step-follows s q planned.step in rw e (record {
        defines = step-defines s q planned.step;
        below = rw (step-vars s q planned.step) planned.below;
        within_tops = λ v. sums-within v lists;
        spell_sums = λ asked v m. planned.spells v (follows asked v m);
        found = λ asked v m. rw (bits_found (tops lists) (sums v lists) (sums-within v lists))
            (ap Some (sym (planned.spells v (follows asked v m))));
        order = λ asked v w m n. rw (planned.spells v (follows asked v m), planned.spells w (follows asked w n))
            (all-order (tops lists) (sums v lists) (sums w lists) small (sums-within v lists) (sums-within w lists));
        equal = λ asked v w m n h. all-equal (tops lists) (sums v lists) (sums w lists) small (sums-within v lists) (sums-within w lists)
            (sym (planned.spells v (follows asked v m)) ∙ h ∙ planned.spells w (follows asked w n));
      })

-- a sum up to 64 goes in unary
pub number-low : (p : Planned) (ts : List (ℕ × Lit)) (top : ℕ) → top ≡ total ts → top ≤ 64 → number_on p ts ≡ unary_bits_on p ts
unfolding number_on
number-low p ts top e h = rw (← e, le-leb top 64 h) refl

-- a greater one by digits
pub number-high : (p : Planned) (ts : List (ℕ × Lit)) (top : ℕ) → top ≡ total ts → 64 < top → number_on p ts ≡ digit_bits_on p ts
unfolding number_on
number-high p ts top e h = rw (← e, lt-leb top 64 h) refl

-- each list's weights add up to less than 2 ^ 63
pub small-at : (lists : List (List (ℕ × Lit))) (i : ℕ) (d : List (ℕ × Lit)) → AllSmall (tops lists) → i < length lists
    → total (get_or lists i d) < 2 ^ 63
small-at [] i d f h = absurd (omega arith)
small-at (ts ∷ lists) zero d f h = f.0
small-at (ts ∷ lists) (suc i) d f h = small-at lists i d f.1 (omega arith)
