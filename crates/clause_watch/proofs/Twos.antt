-- Clauses of two literals: what follows once one of them became false.
use Rattle.std.proofs.Common.{◌≡◌, ◌≢◌, ℕ, ◌+◌, ◌<◌, true, false, List, [], ◌∷◌, length, Some, ◌⊎◌, inl, inr, refl, sym, ap, ◌∙◌, subst, arith}
use Rattle.std.specs.Prelude.{slice_get}
use Rattle.std.proofs.lemmas.Bool.{or_cases, false≢true}
use Rattle.std.proofs.lemmas.Option.{same_Some}
use Rattle.clause_store.specs.declared.Lit.{Lit}
use Rattle.clause_store.specs.Lits.{var_of, negation, has, lit_eq}
use Rattle.clause_store.proofs.Sets.{same_lit}
use Rattle.clause_watch.specs.declared.lists.Entry.{Entry}
use Rattle.clause_watch.specs.Trails.{TrailValue, lits_of}
use Rattle.clause_watch.specs.Reasons.{NamesFalse, Grown}
use Rattle.clause_watch.specs.Watches.{IsWatch}
use Rattle.clause_watch.specs.Lists.{row_of, HasAt, HasTwo, HasNone, IsOfClause}
use Rattle.clause_watch.specs.Picks.{Follows}
use Rattle.clause_watch.specs.Watching.{IsKept, IsListVisit, IsNext}
use Rattle.clause_watch.proofs.Propagated.{clause-in, has-below, grown-next, Grown-refl}
use Rattle.clause_watch.proofs.Kept.{IsWatch-grown}
use Rattle.clause_watch.proofs.RowPlaces.{at-within}
use Rattle.clause_watch.proofs.ArrivedClauses.{follows-true}
use Rattle.clause_watch.proofs.WatchingLaws.{watching-grown}
use Rattle.clause_watch.proofs.ListVisits.{cases-same, visit_list-skip, visit_list-grown}
use Rattle.clause_watch.proofs.EntryVisits.{id-at, lit-false}

-- a clause of two literals has no third
one-of : (x y l : Lit) → has (x ∷ y ∷ []) l ≡ true → (l ≡ x) ⊎ (l ≡ y)
one-of x y l h = elim (or_cases (lit_eq x l) (has (y ∷ []) l) h) [
  | inl e ↦ inl (sym (same_lit x l e))
  | inr t ↦ elim (or_cases (lit_eq y l) false t) [ inl e ↦ inr (sym (same_lit y l e)) | inr f ↦ absurd (false≢true f) ]
]

two-none : (c : List Lit) (a b l : Lit) → length c ≡ 2 → has c a ≡ true → has c b ≡ true → var_of a ≢ var_of b → has c l ≡ true
    → (l ≡ a) ⊎ (l ≡ b)
two-none [] a b l n ha hb ne h = absurd (omega (arith, n))
two-none (x ∷ []) a b l n ha hb ne h = absurd (omega (arith, n))
two-none (x ∷ y ∷ []) a b l n ha hb ne h = elim (one-of x y a ha) [
  | inl p ↦ elim (one-of x y b hb) [
    | inl q ↦ absurd (ne (ap var_of (p ∙ sym q)))
    | inr q ↦ elim (one-of x y l h) [ inl r ↦ inl (r ∙ sym p) | inr r ↦ inr (r ∙ sym q) ]
  ]
  | inr p ↦ elim (one-of x y b hb) [
    | inl q ↦ elim (one-of x y l h) [ inl r ↦ inr (r ∙ sym q) | inr r ↦ inl (r ∙ sym p) ]
    | inr q ↦ absurd (ne (ap var_of (p ∙ sym q)))
  ]
]
two-none (x ∷ y ∷ z ∷ c) a b l n ha hb ne h = absurd (omega (arith, n))

-- a clause of two literals has no others
pub none-at : (cs : List (List Lit)) (place : ℕ) (a b : Lit) → HasAt cs place a → HasAt cs place b → var_of a ≢ var_of b → HasTwo cs place
    → HasNone cs place a b
none-at cs place a b x y ne two c e l h =
    let p = same_Some x.0 c (sym x.1 ∙ e) in
    let q = same_Some y.0 c (sym y.1 ∙ e) in
    two-none c a b l (two c e) (subst (λ z. has z a ≡ true) p x.2) (subst (λ z. has z b ≡ true) q y.2) ne h

module _ (t : TrailValue) (cs : List (List Lit)) (table : List (List Entry)) (watched_lits : List (List Lit)) (head : ℕ)
    (lit : Lit) (at : ℕ)
    (d : Entry) (right : IsWatch t.vars cs t.placed) (k : IsKept t.vars cs t.placed table watched_lits head)
    (w : IsListVisit cs t.placed table watched_lits head lit at) (here : slice_get (row_of table lit) at ≡ Some d)
    (two : d.two ≡ true) where
  sound : IsOfClause cs lit d
  sound = k.entries lit at d here

  abbrev c : List Lit
  c = sound.0.0

  others-false : (l : Lit) → has c l ≡ true → l ≢ d.other → has (lits_of t.placed) (negation l) ≡ true
  others-false l h ne = elim (sound.1 two c sound.0.1 l h) [
    | inl e ↦ subst (λ x. has (lits_of t.placed) (negation x) ≡ true) (sym e)
        (lit-false t.vars cs t.placed table watched_lits head lit at d k w here)
    | inr e ↦ absurd (ne e)
  ]

  pub two-below : var_of d.other < t.vars
  two-below = has-below t.vars c d.other (clause-in t.vars cs d.place c right.in_order right.in_range sound.0.1).1 sound.0.2

  -- it is false where both are
  pub two-false : has (lits_of t.placed) (negation d.other) ≡ true → NamesFalse t.placed cs (d.place + 1)
  two-false n = (
    c,
    id-at cs d.place c sound.0.1,
    λ l h. elim (cases-same l d.other) [
      | inl e ↦ subst (λ x. has (lits_of t.placed) (negation x) ≡ true) (sym e) n
      | inr ne ↦ others-false l h ne
    ],
  )

  -- the other literal follows
  pub two-grown : (u : TrailValue) → Follows t u d.other (d.place + 1) → Grown cs t u
  two-grown u (inl s) = subst (Grown cs t) (sym s.0) (Grown-refl cs t)
  two-grown u (inr s) = grown-next cs t t u (d.place + 1) c d.other (id-at cs d.place c sound.0.1) sound.0.2 two-below s.1 others-false
      (Grown-refl cs t) s.0

  -- the queue stays right
  pub two-kept : (u : TrailValue) → Follows t u d.other (d.place + 1) → IsKept u.vars cs u.placed table watched_lits head
  two-kept u f = watching-grown cs t u table watched_lits head (two-grown u f) k

  -- the visit goes on behind the entry
  pub two-next : (u : TrailValue) → Follows t u d.other (d.place + 1) → IsNext cs u.placed table table watched_lits head lit at (at + 1)
  two-next u f =
      let n = at-within (row_of table lit) at d here in record {
        visit_list = visit_list-skip u.vars cs u.placed table watched_lits head lit at d
            (IsWatch-grown cs cs t u refl right (two-grown u f)).orderly.levels
            (two-kept u f) here (follows-true t u d.other (d.place + 1) f)
            (visit_list-grown cs t u table watched_lits head lit at (two-grown u f) w);
        within = omega (arith, n);
        less = omega arith;
      }
