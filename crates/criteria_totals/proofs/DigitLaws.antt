-- Digits: what is left of a sorted list without four, and its carry.
use Rattle.std.proofs.Common.{◌≡◌, ℕ, zero, suc, ◌+◌, ◌-◌, ◌*◌, ◌<◌, ◌≤◌, Bool, true, false, not, ◌&&◌, ◌||◌, List, [], ◌∷◌, length, map, take, drop, leb, if◌then◌else◌, refl, sym, ap, ◌∙◌, inl, inr, arith}
use Rattle.std.proofs.lemmas.Bool.{cases_lt, le-leb, lt-leb}
use Rattle.std.proofs.Math.Bool.{or-false}
use Rattle.clause_circuits.proofs.ShapeLaws.{negations-below}
use Rattle.clause_store.specs.declared.Lit.{Lit}
use Rattle.clause_store.specs.Lits.{negation, lit_true, clause_true, AllBelow}
use Rattle.clause_store.proofs.Range.{AllBelow-le}
use Rattle.clause_circuits.specs.Gates.{Planned, Made, with_gate, next, rules_true, Agrees, AllClausesBelow}
use Rattle.clause_circuits.specs.Steps.{Step, FollowsPlan}
use Rattle.clause_circuits.proofs.StepLaws.{Step-refl, Step-trans, Step-gate}
use Rattle.clause_circuits.specs.Cells.{bit}
use Rattle.clause_circuits.proofs.BinaryLaws.{AllBelow-append}
use Rattle.criteria_totals.specs.Merges.{Spells, above}
use Rattle.criteria_totals.specs.Digits.{not_above, left_over, left_from, digit_on}
use Rattle.criteria_totals.proofs.MergeLaws.{clause_true-append, above-is, above-below, choice-below, upto-is, Merges}

-- what is left of a number below eight without four
abbrev pub left_of : ℕ → ℕ
left_of n = if leb 4 n then n - 4 else n

-- a number is what is left without four, and four where there are four
pub left_of-parts : (n : ℕ) → left_of n + 4 * bit (leb 4 n) ≡ n
left_of-parts n =
    elim (cases_lt n 4) [
      | inl lt ↦ rw (lt-leb 4 n lt) (omega arith)
      | inr ge ↦ rw (le-leb 4 n ge) (omega arith)
    ]

left_of-low : (n : ℕ) → n < 4 → left_of n ≡ n
left_of-low n h = rw (lt-leb 4 n h) refl

left_of-high : (n : ℕ) → 4 ≤ n → left_of n ≡ n - 4
left_of-high n h = rw (le-leb 4 n h) refl

left_of-small : (n : ℕ) → n ≤ 7 → left_of n ≤ 3
left_of-small n h =
    elim (cases_lt n 4) [
      | inl lt ↦ omega (arith, left_of-low n lt)
      | inr ge ↦ omega (arith, left_of-high n ge)
    ]

-- a list of at most one literal
single-spells : (v : ℕ → Bool) (ls : List Lit) (b : Bool) → length ls ≤ 1 → clause_true v ls ≡ b → Spells v ls (bit b)
single-spells v [] b h e = rw (← e) (refl, omega arith)
single-spells v (l ∷ []) b h e = let t : lit_true v l ≡ b = sym (or-false (lit_true v l)) ∙ e in rw t (table b)
  where
    table : (b : Bool) → (b ∷ [] ≡ leb 1 (bit b) ∷ []) × (bit b ≤ 1)
    table true = (refl, omega arith)
    table false = (refl, omega arith)
single-spells v (l ∷ k ∷ ls) b h e = absurd (omega arith)

take-one : (ls : List Lit) → length (take 1 ls) ≤ 1
take-one [] = omega arith
take-one (l ∷ ls) = omega arith

-- there is at most one literal for "more than i"
pub above-short : (ls : List Lit) (i : ℕ) → length (above ls i) ≤ 1
above-short ls i = take-one (drop i ls)

-- the carry of a sorted list of at most seven
pub carry-spells : (v : ℕ → Bool) (s : List Lit) (n : ℕ) → Spells v s n → Spells v (above s 3) (bit (leb 4 n))
carry-spells v s n h = single-spells v (above s 3) (leb 4 n) (above-short s 3) (above-is v s n 3 h)

below-at : (v : ℕ → Bool) (s : List Lit) (n i : ℕ) → Spells v s n → i < length s
    → clause_true v (map negation (above s i)) ≡ not (leb (suc i) n)
below-at v s n i h k = upto-is v s n (suc i) h (omega arith)

not_above-is : (v : ℕ → Bool) (s : List Lit) (n i : ℕ) → Spells v s n → rules_true v (not_above s i) ≡ not (leb (suc i) n)
not_above-is v s n i h =
    elim (cases_lt i (length s)) [
      | inl lt ↦ rw (le-leb (i + 1) (length s) (omega arith), below-at v s n i h lt) (and-true (not (leb (suc i) n)))
      | inr ge ↦ rw (lt-leb (i + 1) (length s) (omega arith), lt-leb (suc i) n (omega (arith, h.1))) refl
    ]
  where
    and-true : (b : Bool) → (b && true) ≡ b
    and-true true = refl
    and-true false = refl

module _ (v : ℕ → Bool) (s : List Lit) (n : ℕ) (h : Spells v s n) (small : n ≤ 7) (long : 4 ≤ length s) (i : ℕ) (k : i < 3) where
  on-is : rules_true v (left_over s i).on ≡ ((not (leb (suc i) n) || leb 4 n) && not (leb (suc (i + 4)) n))
  unfolding left_over
  on-is =
      rw (
        clause_true-append v (map negation (above s i)) (above s 3),
        below-at v s n i h (omega arith),
        above-is v s n 3 h,
        not_above-is v s n (i + 4) h,
      ) refl

  off-is : rules_true v (left_over s i).off ≡ (leb (suc i) n && ((not (leb 4 n) || leb (suc (i + 4)) n) && true))
  unfolding left_over
  off-is =
      rw (
        clause_true-append v (map negation (above s 3)) (above s (i + 4)),
        below-at v s n 3 h (omega arith),
        above-is v s n i h,
        above-is v s n (i + 4) h,
      ) refl

  -- the gate is one, and means what is left
  pub left_over-is : Agrees v (left_over s i) × (rules_true v (left_over s i).off ≡ leb (suc i) (left_of n))
  left_over-is =
      rw (on-is, off-is) (elim (cases_lt n 4) [
        | inl low ↦ elim (cases_lt i n) [
          | inl more ↦ rw (left_of-low n low, lt-leb 4 n low, lt-leb (suc (i + 4)) n (omega arith), le-leb (suc i) n (omega arith))
              (refl, refl)
          | inr less ↦ rw (left_of-low n low, lt-leb 4 n low, lt-leb (suc (i + 4)) n (omega arith), lt-leb (suc i) n (omega arith))
              (refl, refl)
        ]
        | inr high ↦ elim (cases_lt (i + 4) n) [
          | inl more ↦ rw (
            left_of-high n high,
            le-leb 4 n high,
            le-leb (suc (i + 4)) n (omega arith),
            le-leb (suc i) n (omega arith),
            le-leb (suc i) (n - 4) (omega arith),
          ) (refl, refl)
          | inr less ↦ rw (
            left_of-high n high,
            le-leb 4 n high,
            lt-leb (suc (i + 4)) n (omega arith),
            le-leb (suc i) n (omega arith),
            lt-leb (suc i) (n - 4) (omega arith),
          ) (refl, refl)
        ]
      ])

not_above-below : (n : ℕ) (s : List Lit) (i : ℕ) → AllBelow n s → AllClausesBelow n (not_above s i)
not_above-below n s i b = choice-below n _ _ (negations-below n _ (above-below n i s b))

left_over-below : (n : ℕ) (s : List Lit) (i : ℕ) → AllBelow n s → AllClausesBelow n (left_over s i).on
    × AllClausesBelow n (left_over s i).off
unfolding left_over
left_over-below n s i b = (
  (AllBelow-append n _ _ (negations-below n _ (above-below n i s b)) (above-below n 3 s b), not_above-below n s (i + 4) b),
  (above-below n i s b, (AllBelow-append n _ _ (negations-below n _ (above-below n 3 s b)) (above-below n (i + 4) s b), tt)),
)

left_from-is : (i more : ℕ) (p : Planned) (s : List Lit) (n : (ℕ → Bool) → ℕ) → i + more ≤ 3 → AllBelow (next p) s → 4 ≤ length s
    → length s ≤ 7 → ((v : ℕ → Bool) → FollowsPlan v p → Spells v s (n v))
    → Merges p (left_from i more p s) (suc i) more (λ v. left_of (n v))
left_from-is i zero p s n h b long short d = record { step = Step-refl p; below = tt; long = refl; spells = λ v f. refl }
left_from-is i (suc more) p s n h b long short d =
    let g = left_over s i in
    let lit = with_gate p g in
    let range = left_over-below (next p) s i b in
    let is : (v : ℕ → Bool) → FollowsPlan v p → Agrees v g × (rules_true v g.off ≡ leb (suc i) (left_of (n v))) =
    λ v f. left_over-is v s (n v) (d v f) (omega (arith, (d v f).1)) long i (omega arith) in
    let one : Step p lit.plan = Step-gate p g range.0 range.1 (λ v f. (is v f).0) in
    let r = left_from-is (suc i) more lit.plan s n (omega arith) (AllBelow-le (next p) (next lit.plan) s one.more b) long short
    (λ v f. d v (one.follows v f)) in
    let last = (left_from (suc i) more lit.plan s).plan in record {
      step = Step-trans p lit.plan last one r.step;
      below = (omega (arith, r.step.more), r.below);
      long = ap suc r.long;
      spells = λ v f. let g = r.step.follows v f in rw (g.0 ∙ (is v g.1).1, r.spells v f) refl;
    }

-- a digit of a sorted list
pub record LeavesDigit (p : Planned) (m : Made (List Lit)) (n : (ℕ → Bool) → ℕ) : Type 0 where
  pub step : Step p m.plan
  pub below : AllBelow (next m.plan) m.answer
  pub short : length m.answer ≤ 3
  pub spells : (v : ℕ → Bool) → FollowsPlan v m.plan → Spells v m.answer (left_of (n v))

-- the digit and the carry spell what the sorted list did
pub digit_on-is : (p : Planned) (s : List Lit) (n : (ℕ → Bool) → ℕ) → AllBelow (next p) s → length s ≤ 7
    → ((v : ℕ → Bool) → FollowsPlan v p → Spells v s (n v)) → LeavesDigit p (digit_on p s) n
digit_on-is p s n b short d =
    elim (cases_lt 3 (length s)) [
      | inl lt ↦
          let z = left_from-is 0 3 p s n (omega arith) b (omega arith) short d in
          rw (lt-leb (length s) 3 lt) (record {
            step = z.step;
            below = z.below;
            short = omega (arith, z.long);
            spells = λ v f.
                let g = d v (z.step.follows v f) in
                (z.spells v f ∙ rw z.long refl, omega (arith, z.long, left_of-small (n v) (omega (arith, g.1))));
          })
      | inr ge ↦ rw (le-leb (length s) 3 ge) (record {
        step = Step-refl p;
        below = b;
        short = ge;
        spells = λ v f. let e : left_of (n v) ≡ n v = left_of-low (n v) (omega (arith, (d v f).1)) in rw e (d v f);
      })
    ]
