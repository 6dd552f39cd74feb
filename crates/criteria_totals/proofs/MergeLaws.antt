-- Merged lists spell sums in unary.
use Rattle.std.proofs.Common.{◌≡◌, ℕ, zero, suc, ◌+◌, ◌-◌, ◌*◌, ◌<◌, ◌≤◌, Bool, true, false, not, ◌&&◌, ◌||◌, List, [], ◌∷◌, ◌++◌, length, map, take, drop, replicate, leb, cond, min, max, refl, sym, ap, ◌∙◌, inl, inr, arith}
use Rattle.std.proofs.lemmas.Bool.{cases_Bool, cases_lt, le-leb, lt-leb, false≢true}
use Rattle.std.proofs.lemmas.List.{map-append, length-replicate}
use Rattle.std.proofs.Math.Bool.{or-false}
use Rattle.clause_circuits.proofs.ShapeLaws.{negations-below}
use Rattle.clause_store.specs.declared.Lit.{Lit}
use Rattle.clause_store.specs.Lits.{var_of, negation, lit_true, clause_true, AllBelow}
use Rattle.clause_store.proofs.Range.{AllBelow-le}
use Rattle.clause_circuits.specs.Gates.{Planned, Made, with_gate, next, rules_true, Agrees, AllClausesBelow}
use Rattle.clause_circuits.specs.Steps.{Step, FollowsPlan}
use Rattle.clause_store.proofs.Meaning.{lit_true-negation}
use Rattle.clause_circuits.proofs.KeptClauses.{AllClausesBelow-append}
use Rattle.clause_circuits.proofs.Plans.{rules_true-append}
use Rattle.clause_circuits.proofs.StepLaws.{Step-refl, Step-trans, Step-gate}
use Rattle.clause_circuits.specs.Cells.{bit}
use Rattle.criteria_totals.specs.Merges.{thresholds, Spells, above, upto, each, on_clause, off_clause, at_least, merge_from}
use Rattle.clause_circuits.proofs.BinaryLaws.{AllBelow-append}

pub head-same : {A : Type 0} (x y : A) (xs ys : List A) → x ∷ xs ≡ y ∷ ys → x ≡ y
head-same x y xs ys e = cc

pub tail-same : {A : Type 0} (x y : A) (xs ys : List A) → x ∷ xs ≡ y ∷ ys → xs ≡ ys
tail-same x y xs ys e = cc

pub clause_true-append : (v : ℕ → Bool) (ks ls : List Lit) → clause_true v (ks ++ ls) ≡ (clause_true v ks || clause_true v ls)
clause_true-append v [] ls = refl
clause_true-append v (k ∷ ks) ls = rw (clause_true-append v ks ls) (or-turn (lit_true v k) (clause_true v ks) (clause_true v ls))
  where
    or-turn : (a b c : Bool) → (a || (b || c)) ≡ ((a || b) || c)
    or-turn true b c = refl
    or-turn false b c = refl

-- a literal of a list that spells a number, and its negation
pub above-at : (v : ℕ → Bool) (k c : ℕ) (ls : List Lit) (i : ℕ) → map (lit_true v) ls ≡ thresholds k (length ls) c → i < length ls
    → (clause_true v (above ls i) ≡ leb (k + i) c) × (clause_true v (map negation (above ls i)) ≡ not (leb (k + i) c))
above-at v k c [] i e h = absurd (omega arith)
above-at v k c (l ∷ ls) zero e h =
    let x : lit_true v l ≡ leb (k + 0) c = head-same _ _ _ _ e ∙ ap (λ n. leb n c) (add-zero k) in
    (rw x (or-false (leb (k + 0) c)), rw (lit_true-negation v l, x) (or-false (not (leb (k + 0) c))))
  where
    add-zero : (n : ℕ) → n ≡ n + 0
    add-zero n = omega arith
above-at v k c (l ∷ ls) (suc i) e h =
    let n : suc k + i ≡ k + suc i = omega arith in
    let r = above-at v (suc k) c ls i (tail-same _ _ _ _ e) (omega arith) in
    (r.0 ∙ ap (λ m. leb m c) n, r.1 ∙ ap (λ m. not (leb m c)) n)

-- there is no literal beyond the last
pub above-past : (ls : List Lit) (i : ℕ) → length ls ≤ i → above ls i ≡ []
above-past [] zero h = refl
above-past [] (suc i) h = refl
above-past (l ∷ ls) zero h = absurd (omega arith)
above-past (l ∷ ls) (suc i) h = above-past ls i (omega arith)

-- "more than i" holds exactly where it should
pub above-is : (v : ℕ → Bool) (ls : List Lit) (c i : ℕ) → Spells v ls c → clause_true v (above ls i) ≡ leb (suc i) c
above-is v ls c i s =
    elim (cases_lt i (length ls)) [
      | inl lt ↦ let e : 1 + i ≡ suc i = omega arith in (above-at v 1 c ls i s.0 lt).0 ∙ ap (λ n. leb n c) e
      | inr ge ↦ rw (above-past ls i ge) (sym (lt-leb (suc i) c (omega (arith, s.1))))
    ]

-- "not at least i" too
pub upto-is : (v : ℕ → Bool) (ls : List Lit) (c i : ℕ) → Spells v ls c → i ≤ length ls
    → clause_true v (map negation (upto ls i)) ≡ not (leb i c)
upto-is v ls c zero s h = rw (le-leb 0 c (omega arith)) refl
upto-is v ls c (suc i) s h = let e : 1 + i ≡ suc i = omega arith in (above-at v 1 c ls i s.0 (omega arith)).1 ∙ ap (λ n. not (leb n c)) e

each-true : (v : ℕ → Bool) (f : ℕ → List (List Lit)) (n : ℕ) → ((i : ℕ) → i < n → rules_true v (f i) ≡ true)
    → rules_true v (each f n) ≡ true
each-true v f zero h = refl
each-true v f (suc n) h = rules_true-append v (each f n) (f n) ∙ rw (each-true v f n (λ i l. h i (omega arith)), h n (omega arith)) refl

true-each : (v : ℕ → Bool) (f : ℕ → List (List Lit)) (n i : ℕ) → rules_true v (each f n) ≡ true → i < n → rules_true v (f i) ≡ true
true-each v f zero i t h = absurd (omega arith)
true-each v f (suc n) i t h =
    let p = both-true (rules_true v (each f n)) (rules_true v (f n)) (sym (rules_true-append v (each f n) (f n)) ∙ t) in
    elim (cases_lt i n) [ inl lt ↦ true-each v f n i p.0 lt | inr ge ↦ let e : i ≡ n = omega arith in rw e p.1 ]
  where
    both-true : (a b : Bool) → (a && b) ≡ true → (a ≡ true) × (b ≡ true)
    both-true true b e = (refl, e)
    both-true false b e = absurd (false≢true e)

not-holds : (b : Bool) → (b ≡ true → ⊥) → b ≡ false
not-holds true h = absurd (h refl)
not-holds false h = refl

module _ (v : ℕ → Bool) (xs ys : List Lit) (c d : ℕ) (s : Spells v xs c) (t : Spells v ys d) where
  off-at : (k i : ℕ) → i ≤ length xs → k - 1 - i ≤ length ys
      → rules_true v (off_clause k xs ys i) ≡ ((leb (suc i) c || leb (suc (k - 1 - i)) d) && true)
  off-at k i h g =
      rw (
        le-leb i (length xs) h,
        le-leb (k - 1 - i) (length ys) g,
        clause_true-append v (above xs i) (above ys (k - 1 - i)),
        above-is v xs
            c i s,
        above-is v ys d (k - 1 - i) t,
      ) refl

  on-at : (k i : ℕ) → i ≤ length xs → k - i ≤ length ys
      → rules_true v (on_clause k xs ys i) ≡ ((not (leb i c) || not (leb (k - i) d)) && true)
  on-at k i h g =
      rw (
        le-leb i (length xs) h,
        le-leb (k - i) (length ys) g,
        map-append negation (upto xs i) (upto ys (k - i)),
        clause_true-append v
            (map negation (upto xs i)) (map negation (upto ys (k - i))),
        upto-is v xs c i s h,
        upto-is v ys d (k - i) t g,
      ) refl

  off-holds : (k i : ℕ) → i < k → k ≤ c + d → rules_true v (off_clause k xs ys i) ≡ true
  off-holds k i l h =
      elim (cases_lt (length xs) i) [
        | inl lt ↦ rw (lt-leb i (length xs) lt) refl
        | inr ge ↦ elim (cases_lt (length ys) (k - 1 - i)) [
          | inl lt ↦ rw (le-leb i (length xs) ge, lt-leb (k - 1 - i) (length ys) lt) refl
          | inr le ↦ off-at k i ge le ∙ elim (cases_lt i c) [
            | inl a ↦ rw (le-leb (suc i) c (omega arith)) refl
            | inr a ↦ rw (lt-leb (suc i) c (omega arith), le-leb (suc (k - 1 - i)) d (omega arith)) refl
          ]
        ]
      ]

  off-fails : (k : ℕ) → c + d < k → k ≤ length xs + length ys → rules_true v (each (off_clause k xs ys) k) ≡ false
  off-fails k h g =
      let i = max c (k - 1 - length ys) in
      not-holds _ (λ e.
      let one = true-each v (off_clause k xs ys) k i e (omega (arith, s.1)) in
      let two : rules_true v (off_clause k xs ys i) ≡ false = off-at k i (omega (arith, s.1)) (omega (arith, s.1))
      ∙ rw (lt-leb (suc i) c (omega arith), lt-leb (suc (k - 1 - i)) d (omega (arith, t.1))) refl in
      false≢true (sym two ∙ one))

  on-holds : (k i : ℕ) → i < k + 1 → c + d < k → rules_true v (on_clause k xs ys i) ≡ true
  on-holds k i l h =
      elim (cases_lt (length xs) i) [
        | inl lt ↦ rw (lt-leb i (length xs) lt) refl
        | inr ge ↦ elim (cases_lt (length ys) (k - i)) [
          | inl lt ↦ rw (le-leb i (length xs) ge, lt-leb (k - i) (length ys) lt) refl
          | inr le ↦ on-at k i ge le ∙ elim (cases_lt c i) [
            | inl a ↦ rw (lt-leb i c a) refl
            | inr a ↦ rw (le-leb i c a, lt-leb (k - i) d (omega arith)) refl
          ]
        ]
      ]

  on-fails : (k : ℕ) → k ≤ c + d → rules_true v (each (on_clause k xs ys) (k + 1)) ≡ false
  on-fails k h =
      let i = min c k in
      not-holds _ (λ e.
      let one = true-each v (on_clause k xs ys) (k + 1) i e (omega arith) in
      let two : rules_true v (on_clause k xs ys i) ≡ false = on-at k i (omega (arith, s.1)) (omega (arith, t.1))
      ∙ rw (le-leb i c (omega arith), le-leb (k - i) d (omega arith)) refl in
      false≢true (sym two ∙ one))

  -- the gate for "at least k" is one, and means it
  at_least-is : (k : ℕ) → k ≤ length xs + length ys → Agrees v (at_least k xs ys) × (rules_true v (at_least k xs ys).off ≡ leb k (c + d))
  unfolding at_least
  at_least-is k g =
      elim (cases_lt (c + d) k) [
        | inl lt ↦
            let off = off-fails k lt g in
            let on = each-true v (on_clause k xs ys) (k + 1) (λ i l. on-holds k i l lt) in
            (on ∙ rw off refl, off ∙ sym (lt-leb k (c + d) lt))
        | inr ge ↦
            let off = each-true v (off_clause k xs ys) k (λ i l. off-holds k i l ge) in
            let on = on-fails k ge in
            (on ∙ rw off refl, off ∙ sym (le-leb k (c + d) ge))
      ]

take-below : (n i : ℕ) (ls : List Lit) → AllBelow n ls → AllBelow n (take i ls)
take-below n zero ls b = tt
take-below n (suc i) [] b = tt
take-below n (suc i) (l ∷ ls) b = (b.0, take-below n i ls b.1)

drop-below : (n i : ℕ) (ls : List Lit) → AllBelow n ls → AllBelow n (drop i ls)
drop-below n zero ls b = b
drop-below n (suc i) [] b = tt
drop-below n (suc i) (l ∷ ls) b = drop-below n i ls b.1

pub above-below : (n i : ℕ) (ls : List Lit) → AllBelow n ls → AllBelow n (above ls i)
above-below n i ls b = take-below n 1 (drop i ls) (drop-below n i ls b)

upto-below : (n i : ℕ) (ls : List Lit) → AllBelow n ls → AllBelow n (upto ls i)
upto-below n zero ls b = tt
upto-below n (suc i) ls b = above-below n i ls b

pub choice-below : (n : ℕ) (b : Bool) (c : List Lit) → AllBelow n c → AllClausesBelow n (cond b (c ∷ []) [])
choice-below n true c h = (h, tt)
choice-below n false c h = tt

each-below : (n : ℕ) (f : ℕ → List (List Lit)) (k : ℕ) → ((i : ℕ) → AllClausesBelow n (f i)) → AllClausesBelow n (each f k)
each-below n f zero h = tt
each-below n f (suc k) h = AllClausesBelow-append n (each f k) (f k) (each-below n f k h) (h k)

at_least-below : (n k : ℕ) (xs ys : List Lit) → AllBelow n xs → AllBelow n ys → AllClausesBelow n (at_least k xs ys).on
    × AllClausesBelow n (at_least k xs ys).off
unfolding at_least
at_least-below n k xs ys a b = (
  each-below n (on_clause k xs ys) (k + 1) (λ i. choice-below n _ _
      (negations-below n _ (AllBelow-append n (upto xs i) (upto ys (k - i)) (upto-below n i xs a) (upto-below n (k - i) ys b)))),
  each-below n (off_clause k xs ys) k (λ i. choice-below n _ _
      (AllBelow-append n (above xs i) (above ys (k - 1 - i)) (above-below n i xs a) (above-below n (k - 1 - i) ys b))),
)

-- so many literals of a merge, from the k-th on
pub record Merges (p : Planned) (m : Made (List Lit)) (k more : ℕ) (n : (ℕ → Bool) → ℕ) : Type 0 where
  pub step : Step p m.plan
  pub below : AllBelow (next m.plan) m.answer
  pub long : length m.answer ≡ more
  pub spells : (v : ℕ → Bool) → FollowsPlan v m.plan → map (lit_true v) m.answer ≡ thresholds k more (n v)

-- the literals of a merge tell from k on how large the sum is
pub merge_from-is : (k more : ℕ) (p : Planned) (xs ys : List Lit) (c d : (ℕ → Bool) → ℕ) → k + more ≤ length xs + length ys + 1
    → AllBelow (next p) xs → AllBelow (next p) ys →
    ((v : ℕ → Bool) → FollowsPlan v p → Spells v xs (c v) × Spells v ys (d v))
    → Merges p (merge_from k more p xs ys) k more (λ v. c v + d v)
merge_from-is k zero p xs ys c d h a b s = record { step = Step-refl p; below = tt; long = refl; spells = λ v f. refl }
merge_from-is k (suc more) p xs ys c d h a b s =
    let g = at_least k xs ys in
    let lit = with_gate p g in
    let range = at_least-below (next p) k xs ys a b in
    let is : (v : ℕ → Bool) → FollowsPlan v p → Agrees v g × (rules_true v g.off ≡ leb k (c v + d v)) =
    λ v f. at_least-is v xs ys (c v) (d v) (s v f).0 (s v f).1 k (omega arith) in
    let one : Step p lit.plan = Step-gate p g range.0 range.1 (λ v f. (is v f).0) in
    let r = merge_from-is (suc k) more lit.plan xs ys c d (omega arith) (AllBelow-le (next p) (next lit.plan) xs one.more a)
    (AllBelow-le (next p) (next lit.plan) ys one.more b) (λ v f. s v (one.follows v f)) in
    let last = (merge_from (suc k) more lit.plan xs ys).plan in record {
      step = Step-trans p lit.plan last one r.step;
      below = (omega (arith, r.step.more), r.below);
      long = ap suc r.long;
      spells = λ v f. let g = r.step.follows v f in rw (g.0 ∙ (is v g.1).1, r.spells v f) refl;
    }

pub replicate-below : (n k : ℕ) (l : Lit) → var_of l < n → AllBelow n (replicate k l)
replicate-below n zero l h = tt
replicate-below n (suc k) l h = (h, replicate-below n k l h)

replicate-on : (v : ℕ → Bool) (k more n : ℕ) (l : Lit) → lit_true v l ≡ true → k + more ≤ n + 1
    → map (lit_true v) (replicate more l) ≡ thresholds k more n
replicate-on v k zero n l t h = refl
replicate-on v k (suc more) n l t h = rw (t, le-leb k n (omega arith), replicate-on v (suc k) more n l t (omega arith)) refl

replicate-off : (v : ℕ → Bool) (k more n : ℕ) (l : Lit) → lit_true v l ≡ false → n < k
    → map (lit_true v) (replicate more l) ≡ thresholds k more n
replicate-off v k zero n l t h = refl
replicate-off v k (suc more) n l t h = rw (t, lt-leb k n h, replicate-off v (suc k) more n l t (omega arith)) refl

-- a literal so many times spells its weight
pub replicate-is : (v : ℕ → Bool) (w : ℕ) (l : Lit) → Spells v (replicate w l) (w * bit (lit_true v l))
replicate-is v w l =
    elim (cases_Bool (lit_true v l)) [
      | inl t ↦ let n : w * 1 ≡ w = omega arith in rw (t, length-replicate w l, n) (replicate-on v 1 w w l t (omega arith), omega arith)
      | inr t ↦ let n : w * 0 ≡ 0 = omega arith in rw (t, length-replicate w l, n) (replicate-off v 1 w 0 l t (omega arith), omega arith)
    ]
