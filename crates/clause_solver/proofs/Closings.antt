-- What a refutation derives.
use Rattle.std.proofs.Common.{◌≡◌, ◌≢◌, ℕ, zero, suc, ◌+◌, ◌<◌, ◌≤◌, Bool, true, false, ◌||◌, List, [], ◌∷◌, ◌++◌, length, take, Option, Some, None, ◌⊎◌, inl, inr, refl, sym, ap, ◌∙◌, subst, arith}
use Rattle.std.specs.Prelude.{slice_get, option_and_then}
use Rattle.std.proofs.lemmas.Bool.{cases_Bool, cases_lt, or_left, false≢true}
use Rattle.std.proofs.lemmas.Option.{none-some, same_Some}
use Rattle.clause_store.specs.declared.Lit.{Lit}
use Rattle.clause_store.specs.Lits.{var_of, negation, has, lit_eq}
use Rattle.proof_log.specs.Known.{has_var}
use Rattle.proof_log.specs.Usefulness.{IsConsistent}
use Rattle.clause_store.proofs.Sets.{same_lit, lit_eq-refl, negation-twice, not-opposite}
use Rattle.proof_log.proofs.Useful.{has-var}
use Rattle.clause_watch.specs.declared.trail.Placed.{Placed}
use Rattle.clause_watch.specs.Trails.{lits_of, own, decisions, placed_of}
use Rattle.clause_watch.specs.Reasons.{NamesFalse}
use Rattle.clause_watch.specs.Watches.{WatchValue, IsWatch}
use Rattle.clause_watch.proofs.Undone.{upto-whole}
use Rattle.clause_solver.specs.Learning.{IsKnown}
use Rattle.clause_solver.specs.Searches.{IsAssumed, OnlyLeaves, Rests, IsPlaceOf, stated}
use Rattle.clause_watch.proofs.Places.{place-has, has-place, place-within, upto-place, level-least, level-most, places-apart, places-same, consistent-from, has-front, has_var-lit}
use Rattle.clause_solver.proofs.Steps.{cause, reason-known}
use Rattle.clause_solver.proofs.LearntLaws.{placed_of-upto}

-- a loop that looked at every place
pub passed-more : (ps : List Placed) (x at : ℕ) (p : Placed)
    → ((k : ℕ) (q : Placed) → k < at → slice_get ps k ≡ Some q → var_of q.lit ≡ x → ⊥) → slice_get ps at ≡ Some p → var_of p.lit ≢ x
    → (k : ℕ) (q : Placed) → k < at + 1 → slice_get ps k ≡ Some q → var_of q.lit ≡ x → ⊥
passed-more ps x at p h e ne k q lt f v =
    elim (cases_lt k at) [
      | inl below ↦ h k q below f v
      | inr ge ↦ let s : at ≡ k = omega arith in
          ne (ap (λ (r : Placed). var_of r.lit) (same_Some p q (sym e ∙ ap (slice_get ps) s ∙ f)) ∙ v)
    ]

-- a variable that no place has is not on the trail
pub passed-all : (ps : List Placed) (x end : ℕ) → ((k : ℕ) (q : Placed) → k < end → slice_get ps k ≡ Some q → var_of q.lit ≡ x → ⊥)
    → length ps ≤ end → has_var (lits_of ps) x ≡ true → ⊥
passed-all ps x end h le t =
    let l = has_var-lit (lits_of ps) x t in
    let q = has-place ps l.0 l.1 in
    h q.0 q.1 (let w = place-within ps q.0 q.1 q.2 in omega (arith, w, le)) q.2 (ap var_of q.3 ∙ l.2)

-- a conflict that leaves no decided literal but the assumed one
pub rests-closing : (w : WatchValue) (a : Option (ℕ × Lit)) (id end : ℕ) → IsWatch w.vars w.clauses w.placed
    → NamesFalse w.placed w.clauses id → end ≡ length w.placed → OnlyLeaves w.placed (stated a) → Rests w id end a
rests-closing w a id end right f e only chain r =
    r w.placed refl (consistent-from w.placed right.orderly.apart) f (stated a)
    (λ k p h g. only k p h (g (let q = place-within w.placed k p h in omega (arith, q, e))))

-- the front of a trail with one more literal
front-again : (n : ℕ) (xs ys : List Placed) → n ≤ length xs → take n (take n xs ++ ys) ≡ take n xs
front-again zero xs ys h = refl
front-again (suc n) [] ys h = absurd (omega arith)
front-again (suc n) (x ∷ xs) ys h = ap (λ zs. x ∷ zs) (front-again n xs ys (omega arith))

place-of-more : (n : ℕ) (xs : List Placed) (q : Placed) (j : ℕ) (s : Placed) → slice_get (take n xs ++ q ∷ []) j ≡ Some s
    → ((j < n) × (slice_get xs j ≡ Some s)) ⊎ (s ≡ q)
place-of-more zero xs q zero s e = inr (sym (same_Some q s e))
place-of-more zero xs q (suc j) s e = absurd (none-some s e)
place-of-more (suc n) [] q zero s e = inr (sym (same_Some q s e))
place-of-more (suc n) [] q (suc j) s e = absurd (none-some s e)
place-of-more (suc n) (x ∷ xs) q zero s e = inl (omega arith, e)
place-of-more (suc n) (x ∷ xs) q (suc j) s e =
    elim (place-of-more n xs q j s e) [ inl h ↦ inl (let a = h.0 in omega (arith, a), h.1) | inr h ↦ inr h ]

more-left : (n : ℕ) (xs : List Placed) (q : Placed) (j : ℕ) (s : Placed) → j < n → slice_get xs j ≡ Some s
    → slice_get (take n xs ++ q ∷ []) j ≡ Some s
more-left zero xs q j s lt e = absurd (omega arith)
more-left (suc n) [] q j s lt e = absurd (none-some s e)
more-left (suc n) (x ∷ xs) q zero s lt e = e
more-left (suc n) (x ∷ xs) q (suc j) s lt e = more-left n xs q j s (omega arith) e

more-last : (xs : List Placed) (q : Placed) → has (lits_of (xs ++ q ∷ [])) q.lit ≡ true
more-last [] q = or_left (lit_eq q.lit q.lit) false (lit_eq-refl q.lit)
more-last (x ∷ xs) q = by-bools (lit_eq x.lit q.lit) (has (lits_of (xs ++ q ∷ [])) q.lit) (more-last xs q)
  where
    by-bools : (a b : Bool) → b ≡ true → (a || b) ≡ true
    by-bools true b h = refl
    by-bools false b h = h

-- the assumed literal is true, and nothing was decided
module _ (w : WatchValue) (right : IsWatch w.vars w.clauses w.placed) (a : ℕ × Lit) (assumed : IsAssumed w.placed (Some a))
    (holds : has (lits_of w.placed) a.1 ≡ true) where
  consistent : IsConsistent (lits_of w.placed)
  consistent = consistent-from w.placed right.orderly.apart

  none-decided : decisions w.placed ≡ 0
  none-decided =
      elim (cases_lt 0 (decisions w.placed)) [
        | inr none ↦ omega arith
        | inl above ↦
            let q = upto-place 1 w.placed (negation a.1) (assumed above) in
            absurd (consistent a.1 holds (rw (← q.3) (place-has w.placed q.0 q.1 q.2)))
      ]

  k : ℕ
  k = (has-place w.placed a.1 holds).0

  abbrev p : Placed
  p = (has-place w.placed a.1 holds).1

  here : slice_get w.placed k ≡ Some p
  unfolding k
  here = (has-place w.placed a.1 holds).2

  lit-is : p.lit ≡ a.1
  lit-is = (has-place w.placed a.1 holds).3

  all-reasons : (j : ℕ) (q : Placed) → slice_get w.placed j ≡ Some q → q.reason ≡ None → ⊥
  all-reasons j q e r =
      let x = level-least 0 w.placed j q right.orderly.levels e in
      let y = level-most 0 w.placed j q right.orderly.levels e in
      let o : own q.reason ≡ 1 = ap own r in
      omega (arith, x, y, o, none-decided)

  found : placed_of w.placed (var_of a.1) ≡ Some p
  found =
      let m = level-most 0 w.placed k p right.orderly.levels here in
      subst (λ n. placed_of w.placed n ≡ Some p) (ap var_of lit-is)
      (subst (λ xs. placed_of xs (var_of p.lit) ≡ Some p) (upto-whole 0 (decisions w.placed) w.placed right.orderly.levels (omega arith))
      (placed_of-upto (decisions w.placed) w.placed k p right.orderly.apart here (omega (arith, m))))

  -- the code's reason is none where the place has none
  pub code-none : None ≡ option_and_then (λ (q : Placed). q.reason) (placed_of w.placed (var_of a.1)) → ⊥
  code-none e = all-reasons k p here (ap (option_and_then (λ (q : Placed). q.reason)) (sym found) ∙ sym e)

  -- the assumed literal's variable has a value
  pub var-here : has_var (lits_of w.placed) (var_of a.1) ≡ true
  var-here = has-var (lits_of w.placed) a.1 holds

  module _ (id : ℕ) (e : Some id ≡ option_and_then (λ (q : Placed). q.reason) (placed_of w.placed (var_of a.1))) where
    reason-is : p.reason ≡ Some id
    reason-is = ap (option_and_then (λ (q : Placed). q.reason)) (sym found) ∙ sym e

    pub code-known : IsKnown w.clauses id
    code-known = reason-known w right k p here id reason-is

    module _ (end : ℕ) (at : IsPlaceOf w.placed (var_of a.1) end) where
      same-end : k ≡ end
      same-end = (places-same w.placed k end p at.0 right.orderly.apart here at.1 (ap var_of lit-is ∙ sym at.2)).0

      within : end < length w.placed
      within = place-within w.placed end at.0 at.1

      abbrev q : Placed
      q = record { lit = negation a.1; level = 0; reason = None }

      abbrev ps : List Placed
      ps = take end w.placed ++ q ∷ []

      -- each literal stands before the place, or is the new one
      where-it-is : (l : Lit) → has (lits_of ps) l ≡ true
          → ((j : ℕ) × (s : Placed) × (j < end) × (slice_get w.placed j ≡ Some s) × (s.lit ≡ l)) ⊎ (l ≡ negation a.1)
      where-it-is l h =
          let x = has-place ps l h in
          elim (place-of-more end w.placed q x.0 x.1 x.2) [
            | inl y ↦ inl (x.0, x.1, y.0, y.1, x.3)
            | inr y ↦ inr (sym x.3 ∙ ap (λ (s : Placed). s.lit) y)
          ]

      -- the assumed literal itself does not stand before its place
      not-before : (j : ℕ) (s : Placed) → j < end → slice_get w.placed j ≡ Some s → s.lit ≡ a.1 → ⊥
      not-before j s lt f v = places-apart w.placed j end s at.0 right.orderly.apart lt f at.1 (ap var_of v ∙ sym at.2)

      consistent-there : IsConsistent (lits_of ps)
      consistent-there l h g =
          elim (where-it-is l h) [
            | inl x ↦ elim (where-it-is (negation l) g) [
              | inl y ↦ consistent l (rw (← x.4) (place-has w.placed x.0 x.1 x.3)) (rw (← y.4) (place-has w.placed y.0 y.1 y.3))
              | inr y ↦ not-before x.0 x.1 x.2 x.3 (x.4 ∙ sym (negation-twice l) ∙ ap negation y ∙ negation-twice a.1)
            ]
            | inr x ↦ elim (where-it-is (negation l) g) [
              | inl y ↦ not-before y.0 y.1 y.2 y.3 (y.4 ∙ ap negation x ∙ negation-twice a.1)
              | inr y ↦ not-opposite l (x ∙ sym y)
            ]
          ]

      false-there : NamesFalse ps w.clauses id
      false-there =
          let r = cause w right k p here id reason-is in (
            r.0,
            r.1,
            λ l h. elim (cases_Bool (lit_eq l a.1)) [
              | inl y ↦ subst (λ x. has (lits_of ps) (negation x) ≡ true) (sym (same_lit l a.1 y)) (more-last (take end w.placed) q)
              | inr n ↦
                  let ne : l ≢ p.lit = λ v. false≢true (sym n ∙ ap (λ x. lit_eq x a.1) (v ∙ lit-is) ∙ lit_eq-refl a.1) in
                  let f = has-front k w.placed (negation l) (r.2.others l h ne) in
                  let lt : f.0 < end = let u = f.2 in omega (arith, u, same-end) in
                  rw (← f.4) (place-has ps f.0 f.1 (more-left end w.placed q f.0 f.1 lt f.3))
            ],
          )

      pub code-rests : Rests w id end (Some a)
      code-rests chain r =
          r ps (front-again end w.placed (q ∷ []) (omega (arith, within))) consistent-there false-there (a.1 ∷ []) (λ j s f g.
          elim (place-of-more end w.placed q j s f) [
            | inl x ↦ absurd (all-reasons j s x.1 (g x.0))
            | inr x ↦
                let n : negation s.lit ≡ a.1 = ap (λ (t : Placed). negation t.lit) x ∙ negation-twice a.1 in
                or_left (lit_eq a.1 (negation s.lit)) false (ap (lit_eq a.1) n ∙ lit_eq-refl a.1)
          ])
