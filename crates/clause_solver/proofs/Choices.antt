-- The assumed literal on the trail.
use Rattle.std.proofs.Common.{◌≡◌, ℕ, ◌<◌, ◌≤◌, Bool, true, false, not, List, [], ◌∷◌, ◌++◌, length, Option, Some, None, inl, inr, refl, sym, ap, ◌∙◌, subst, arith}
use Rattle.std.specs.Prelude.{slice_get, option_and_then, is_some}
use Rattle.std.specs.Bool.{beq}
use Rattle.std.proofs.lemmas.Bool.{cases_lt, or_left, false≢true}
use Rattle.std.proofs.lemmas.Option.{same_Some}
use Rattle.clause_store.specs.declared.Lit.{Lit}
use Rattle.clause_store.specs.Lits.{var_of, negation, has, lit_eq}
use Rattle.proof_log.specs.Known.{has_var}
use Rattle.clause_store.proofs.Sets.{lit_eq-refl, negation-twice}
use Rattle.proof_log.proofs.Useful.{has-var}
use Rattle.clause_watch.specs.declared.trail.Placed.{Placed}
use Rattle.clause_watch.specs.Trails.{lits_of, own, decisions, upto, next, placed_of, value_in, HasLevels, IsOrderly}
use Rattle.clause_watch.proofs.Meaning.{value-has, value-free}
use Rattle.clause_solver.specs.Searches.{IsAssumed, OnlyLeaves}
use Rattle.clause_watch.proofs.Places.{place-has, has-place, upto-place, place-upto, level-least, level-most, levels-rise, get-front, get-last}
use Rattle.clause_solver.proofs.LearntLaws.{placed_of-upto}
use Rattle.clause_watch.proofs.Undone.{upto-whole}

module _ (ps : List Placed) (a : ℕ × Lit) where
  -- where the assumed literal is on the trail, at level 1 at most
  low-place : HasLevels 0 ps → IsAssumed ps (Some a) → has (lits_of ps) (negation a.1) ≡ true → (k : ℕ) × (p : Placed)
      × (slice_get ps k ≡ Some p) × (p.lit ≡ negation a.1) × (p.level ≤ 1)
  low-place levels assumed h =
      elim (cases_lt 0 (decisions ps)) [
        | inl above ↦ upto-place 1 ps (negation a.1) (assumed above)
        | inr zero_here ↦
            let q = has-place ps (negation a.1) h in
            let m = level-most 0 ps q.0 q.1 levels q.2 in
            (q.0, q.1, q.2, q.3, omega (arith, m, zero_here))
      ]

  -- where the assumed literal has no value, nothing was decided
  pub assumed-free : IsAssumed ps (Some a) → has_var (lits_of ps) (var_of a.1) ≡ false → decisions ps ≡ 0
  assumed-free assumed free =
      elim (cases_lt 0 (decisions ps)) [
        | inr none ↦ omega arith
        | inl above ↦
            let q = upto-place 1 ps (negation a.1) (assumed above) in
            absurd (false≢true (sym free ∙ subst (λ n. has_var (lits_of ps) n ≡ true) (ap var_of q.3)
            (has-var (lits_of ps) q.1.lit (place-has ps q.0 q.1 q.2))))
      ]

  -- the negation of the assumed literal is decided first
  pub decide-assumed : decisions ps ≡ 0 → (l : Lit) → l ≡ negation a.1 → IsAssumed (ps ++ next ps l None ∷ []) (Some a)
  decide-assumed none l e above =
      let p = next ps l None in
      let le : p.level ≤ 1 = omega (arith, none) in
      ap (has (lits_of (upto 1 (ps ++ p ∷ [])))) (sym e) ∙ place-upto 1 (ps ++ p ∷ []) (length ps) p (get-last ps p) le

  -- what is placed behind the assumed literal leaves it assumed
  pub keep-assumed : HasLevels 0 ps → IsAssumed ps (Some a) → has (lits_of ps) (negation a.1) ≡ true → (qs : List Placed)
      → IsAssumed (ps ++ qs) (Some a)
  keep-assumed levels assumed h qs above =
      let q = low-place levels assumed h in
      rw (← q.3) (place-upto 1 (ps ++ qs) q.0 q.1 (get-front ps qs q.0 q.1 q.2) q.4)

-- at level 0 no literal was decided
pub closing-none : (ps : List Placed) (c : List Lit) → HasLevels 0 ps → decisions ps ≡ 0 → OnlyLeaves ps c
closing-none ps c levels none k p e r =
    let a = level-least 0 ps k p levels e in
    let b = level-most 0 ps k p levels e in
    let o : own p.reason ≡ 1 = ap own r in
    absurd (omega (arith, a, b, o, none))

closing-here : (ps : List Placed) (a : ℕ × Lit) (j : ℕ) (q : Placed) → HasLevels 0 ps → decisions ps ≡ 1 → slice_get ps j ≡ Some q
    → q.lit ≡ negation a.1 → q.reason ≡ None → OnlyLeaves ps (a.1 ∷ [])
closing-here ps a j q levels one f l s k p e r =
    let o : own p.reason ≡ 1 = ap own r in
    let u : own q.reason ≡ 1 = ap own s in
    let pl = level-least 0 ps k p levels e in
    let ql = level-least 0 ps j q levels f in
    let pm = level-most 0 ps k p levels e in
    let qm = level-most 0 ps j q levels f in
    elim (cases_lt j k) [
      | inl lt ↦ let x = levels-rise 0 ps j k q p levels lt f e in absurd (omega (arith, x, o, ql, u, pm, one))
      | inr ge ↦ elim (cases_lt k j) [
        | inl lt ↦ let x = levels-rise 0 ps k j p q levels lt e f in absurd (omega (arith, x, u, pl, o, qm, one))
        | inr le ↦
            let y : j ≡ k = omega arith in
            let z : p ≡ q = same_Some p q (sym e ∙ ap (slice_get ps) (sym y) ∙ f) in
            let n : negation p.lit ≡ a.1 = ap (λ (x : Placed). negation x.lit) z ∙ ap negation l ∙ negation-twice a.1 in
            or_left (lit_eq a.1 (negation p.lit)) false (ap (lit_eq a.1) n ∙ lit_eq-refl a.1)
      ]
    ]

-- at level 1 the assumed literal alone was decided, if it has no reason
pub closing-one : (n : ℕ) (ps : List Placed) (a : ℕ × Lit) → IsOrderly n ps → decisions ps ≡ 1 → IsAssumed ps (Some a)
    → option_and_then (λ (p : Placed). p.reason) (placed_of ps (var_of a.1)) ≡ None → OnlyLeaves ps (a.1 ∷ [])
closing-one n ps a o one assumed r =
    let q = upto-place 1 ps (negation a.1) (assumed (omega arith)) in
    let m = level-most 0 ps q.0 q.1 o.levels q.2 in
    let here : placed_of ps (var_of q.1.lit) ≡ Some q.1 =
    subst (λ xs. placed_of xs (var_of q.1.lit) ≡ Some q.1) (upto-whole 0 1 ps o.levels (omega arith))
    (placed_of-upto 1 ps q.0 q.1 o.apart q.2 q.4) in
    let v : var_of q.1.lit ≡ var_of a.1 = ap var_of q.3 in
    let s : q.1.reason ≡ None = ap (option_and_then (λ (p : Placed). p.reason)) (sym here ∙ ap (placed_of ps) v) ∙ r in
    closing-here ps a q.0 q.1 o.levels one q.2 q.3 s

-- values of literals
pub true-on : (ps : List Placed) (l : Lit) (b : Bool) → Some b ≡ value_in ps (var_of l) → beq b l.positive ≡ true
    → has (lits_of ps) l ≡ true
true-on ps l b e f = value-has ps l (sym e ∙ ap Some (same b l.positive f))
  where
    same : (x y : Bool) → beq x y ≡ true → x ≡ y
    same true true g = refl
    same true false g = sym g
    same false true g = g
    same false false g = refl

-- a literal whose variable has the other value is false on the trail
pub false-on : (ps : List Placed) (l : Lit) (b : Bool) → Some b ≡ value_in ps (var_of l) → beq b l.positive ≡ false
    → has (lits_of ps) (negation l) ≡ true
false-on ps l b e f = value-has ps (negation l) (sym e ∙ ap Some (other b l.positive f))
  where
    other : (x y : Bool) → beq x y ≡ false → x ≡ not y
    other true true g = g
    other true false g = refl
    other false true g = refl
    other false false g = sym g

-- the negation of a literal without value
pub negated-free : (n : ℕ) (ps : List Placed) (a : ℕ × Lit) (l : Lit) → l ≡ negation a.1 → var_of a.1 < n → None ≡ value_in ps (var_of a.1)
    → IsAssumed ps (Some a) →
    (var_of l < n) × (has_var (lits_of ps) (var_of l) ≡ false) × IsAssumed (ps ++ next ps l None ∷ []) (Some a)
negated-free n ps a l e h v assumed =
    let free = value-free ps (var_of a.1) (sym v) in
    let q : var_of l ≡ var_of a.1 = ap var_of e in
    (rw q h, rw q free, decide-assumed ps a (assumed-free ps a assumed free) l e)

-- what is tested to be none is none
pub is_none-none : {A : Type 0} → (o : Option A) (b : Bool) → is_some o ≡ not b → b ≡ true → o ≡ None
is_none-none None b e f = refl
is_none-none (Some x) b e f = absurd (false≢true (sym (e ∙ ap not f)))
