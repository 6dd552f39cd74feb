-- Steps back along a trail as the code has them, and what refute has in the end.
use Rattle.std.proofs.Common.{◌≡◌, ◌≢◌, ℕ, ◌-◌, ◌+◌, Bool, true, false, ◌||◌, List, [], ◌∷◌, ◌++◌, length, take, Some, None, inl, inr, sym, ap, ◌∙◌, subst, arith}
use Rattle.std.specs.Prelude.{slice_get}
use Rattle.std.proofs.lemmas.Bool.{cases_lt, false≢true}
use Rattle.std.proofs.lemmas.Option.{same_Some}
use Rattle.clause_store.specs.declared.Lit.{Lit}
use Rattle.clause_store.specs.Lits.{var_of, negation, has, AllBelow}
use Rattle.clause_store.specs.Clauses.{at_id}
use Rattle.proof_log.specs.Known.{AllClauses, has_var, AllOver}
use Rattle.proof_log.specs.Derivations.{IsDerived}
use Rattle.proof_log.proofs.Ids.{at_id-get}
use Rattle.clause_store.proofs.Sets.{negation-twice}
use Rattle.clause_watch.proofs.Propagated.{clause-in}
use Rattle.clause_watch.specs.declared.trail.Placed.{Placed}
use Rattle.clause_watch.specs.Trails.{own}
use Rattle.clause_watch.specs.Reasons.{IsFalse}
use Rattle.clause_watch.specs.Watches.{WatchValue, IsWatch}
use Rattle.clause_solver.specs.Seen.{seen_at, AreSeen, AreClear, NoneSeen, IsLastSeen, falsified}
use Rattle.clause_solver.specs.Learning.{Resolves, ResolvesDown, ReachesUip, IsResolving, DerivesRest}
use Rattle.clause_watch.proofs.Places.{has-place, take-place, place-take}
use Rattle.clause_solver.proofs.Resolving.{seen-derive, falsified-parts}
use Rattle.clause_solver.proofs.Steps.{alone-from, has-reason, some-left, step-back, pass-decided, pass-resolved}

-- the same, as the code of `resolve_to_first_uip` has it
module _ (w : WatchValue) (right : IsWatch w.vars w.clauses w.placed) (old m1 : List Bool) (chain longer : List ℕ) (at : ℕ)
    (g : ResolvesDown w old m1 chain longer at)
    (before : ℕ) (b p : Placed) (last : IsLastSeen (seen_at m1) w.placed at (Some before)) (f : slice_get w.placed before ≡ Some b)
    (here : slice_get w.placed at ≡ Some p) where
  same-top : g.top.place ≡ p
  same-top = same_Some g.top.place p (sym g.top.here ∙ here)

  see-b : seen_at m1 (var_of b.lit) ≡ true
  see-b = subst (λ (x : Placed). seen_at m1 (var_of x.lit) ≡ true) (same_Some last.0 b (sym last.1 ∙ f)) last.3

  -- the place before is of a lower level, so this one is a unique implication point
  pub code-alone : (b.level ≡ p.level → ⊥) → ReachesUip w old m1 chain longer at
  code-alone ne = alone-from w right old m1 chain longer at g before b last.2 f see-b last.4
      (λ e. ne (e ∙ ap (λ (x : Placed). x.level) same-top))

  -- a literal with another of its level before it was not decided
  pub code-reason : b.level ≡ p.level → p.reason ≡ None → ⊥
  code-reason e n = has-reason w right old m1 chain longer at g before b last.2 f see-b last.4 (e
      ∙ ap (λ (x : Placed). x.level) (sym same-top)) (ap (λ (x : Placed). x.reason) same-top ∙ n)

  module _ (e : b.level ≡ p.level) (id : ℕ) (r : p.reason ≡ Some id) (m2 : List Bool) (after : Resolves w.clauses m1 m2 p.lit id) where
    after-top : Resolves w.clauses m1 m2 g.top.place.lit id
    after-top = subst (λ (x : Placed). Resolves w.clauses m1 m2 x.lit id) (sym same-top) after

    pub code-left : NoneSeen (seen_at m2) w.placed 0 at → ⊥
    code-left = some-left w right old m1 chain longer at g before b last.2 f see-b last.4 (e ∙ ap (λ (x : Placed). x.level) (sym same-top))
        id (ap (λ (x : Placed). x.reason) same-top ∙ r) m2 after-top

    pub code-back : (more : List ℕ) (next : ℕ) → more ≡ longer ++ id ∷ [] → length m2 ≡ length m1
        → IsLastSeen (seen_at m2) w.placed at (Some next) → ResolvesDown w old m2 chain more next
    code-back = step-back w right old m1 chain longer at g before b last.2 f see-b last.4 (e ∙ ap (λ (x : Placed). x.level) (sym same-top))
        id (ap (λ (x : Placed). x.reason) same-top ∙ r) m2 after-top

-- the same, as the code of `refute` has it
module _ (w : WatchValue) (right : IsWatch w.vars w.clauses w.placed) (old m1 : List Bool) (chain longer : List ℕ) (end at : ℕ)
    (g : IsResolving w old m1 chain longer end at) (before : ℕ) (p : Placed) (last : IsLastSeen (seen_at m1) w.placed at (Some before))
    (f : slice_get w.placed before ≡ Some p) where
  same-last : last.0 ≡ p
  same-last = same_Some last.0 p (sym last.1 ∙ f)

  -- the code passes over a decided literal
  pub code-decided : p.reason ≡ None → IsResolving w old m1 chain longer end before
  code-decided n = pass-decided w right old m1 chain longer end at g before last (ap (λ (x : Placed). x.reason) same-last ∙ n)

  -- the code resolves a literal away
  pub code-resolved : (id : ℕ) (m2 : List Bool) (more : List ℕ) → p.reason ≡ Some id → Resolves w.clauses m1 m2 p.lit id
      → more ≡ longer ++ id ∷ [] → length m2 ≡ length m1 → IsResolving w old m2 chain more end before
  code-resolved id m2 more r after = pass-resolved w right old m1 chain longer end at g before last id m2 more
      (ap (λ (x : Placed). x.reason) same-last ∙ r) (subst (λ (x : Placed). Resolves w.clauses m1 m2 x.lit id) (sym same-last) after)

pub known-below : (n id : ℕ) (cs : List (List Lit)) (c : List Lit) → AllClauses cs → AllOver n cs → at_id cs id ≡ Some c → AllBelow n c
known-below n id cs c i b e = (clause-in n cs (id - 1) c i b (at_id-get cs id c e).1).1

-- what `refute` has in the end
pub refuted : (w : WatchValue) (clear old new : List Bool) (id end at : ℕ) (longer : List ℕ) (c : List Lit) → at_id w.clauses id ≡ Some c
    → AreClear clear → AreSeen clear old c → IsResolving w old new (id ∷ []) longer end at → NoneSeen (seen_at new) w.placed 0 at
    → DerivesRest w id end longer
refuted w clear old new id end at longer c known unseen is_seen g none ps agree consistent false-here stated leaves =
    let f : IsFalse ps c = subst (IsFalse ps) (same_Some false-here.0 c (sym false-here.1 ∙ known)) false-here.2 in
    subst (λ xs. IsDerived w.clauses xs stated) (sym g.grown)
    (seen-derive w.clauses ps (seen_at old) (seen_at new) id c stated g.ids known consistent f
    (λ x. is_seen x ∙ ap (λ b. b || has_var c x) (unseen x))
    (g.leads ps agree consistent)
    (λ l h.
    let a = falsified-parts (seen_at new) ps l h in
    let q = has-place ps (negation l) a.1 in
    let v : var_of q.1.lit ≡ var_of l = ap var_of q.3 in
    let s : has stated (negation q.1.lit) ≡ true = leaves q.0 q.1 q.2 (λ lt.
    let there = (take-place end w.placed q.0 q.1 (ap (λ xs. slice_get xs q.0) (sym agree) ∙ place-take end ps q.0 q.1 lt q.2)).1 in
    let t : seen_at new (var_of q.1.lit) ≡ true = ap (seen_at new) v ∙ a.0 in
    elim (cases_lt q.0 at) [
      | inl low ↦ absurd (false≢true (sym (none q.0 q.1 (omega arith) low there) ∙ t))
      | inr ge ↦ g.left q.0 q.1 ge lt there t
    ]) in
    ap (has stated) (sym (ap negation q.3 ∙ negation-twice l)) ∙ s))
