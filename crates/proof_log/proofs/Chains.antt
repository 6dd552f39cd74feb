-- The computing check of a chain says exactly whether the stated clause is derived.
use Rattle.std.proofs.Common.{◌≡◌, ◌↔◌, ℕ, zero, suc, ◌-◌, ◌<◌, ◌≤◌, Bool, true, false, List, [], ◌∷◌, Some, None, inl, inr, length, refl, sym, ◌∙◌, subst, arith}
use Rattle.std.specs.Prelude.{slice_get, unwrap_or}
use Rattle.std.proofs.lemmas.Option.{none-some, same_Some}
use Rattle.std.proofs.lemmas.Bool.{cases_Bool, and_parts, and_from, or_cases, or_left, or_right, false≢true}
use Rattle.clause_store.specs.declared.Lit.{Lit}
use Rattle.clause_store.specs.Lits.{var_of, has, contained, lit_eq, IsClause, SameLits}
use Rattle.proof_log.proofs.Ids.{get-at_id}
use Rattle.clause_store.specs.Clauses.{at_id}
use Rattle.proof_log.specs.Known.{AllClauses}
use Rattle.proof_log.specs.Derivations.{IsResolvent, DerivesFrom, IsDerived}
use Rattle.proof_log.specs.Resolution.{resolved, Resolved, result, no_pivot, two_pivots, NoPivot, TwoPivots, NotContained, clause_at, after_step, fault_from, chain_fault, IdsIn}
use Rattle.clause_store.proofs.Sets.{OneSign, one_sign, lit_eq-refl, same_lit}
use Rattle.proof_log.proofs.Resolvents.{resolved-result, resolved-no_pivot, resolved-two_pivots}

-- a derivation depends on the clause as a set
pub IsResolvent-same : (a c b r : List Lit) (p : Lit) → SameLits a c → IsResolvent a b r p → IsResolvent c b r p
IsResolvent-same a c b r p s d = record {
  clash = (sym (s p) ∙ d.clash.0, d.clash.1);
  only = λ l h. d.only l (s l ∙ h.0, h.1);
  union = λ l. (
    (λ h. let q = (d.union l).0 h in (elim q.0 [ inl t ↦ inl (sym (s l) ∙ t) | inr t ↦ inr t ], q.1)),
    (λ h. (d.union l).1 (elim h.0 [ inl t ↦ inl (s l ∙ t) | inr t ↦ inr t ], h.1)),
  );
}

DerivesFrom-same : (known : List (List Lit)) (a c : List Lit) (ids : List ℕ) (stated : List Lit) → SameLits a c
    → DerivesFrom known a ids stated → DerivesFrom known c ids stated
DerivesFrom-same known a c [] stated s d = λ l h. d l (s l ∙ h)
DerivesFrom-same known a c (id ∷ ids) stated s d = (d.0, d.1, d.2, d.3, IsResolvent-same a c d.0 d.1 d.2 s d.4, d.5)

-- two resolvents of the same clauses are one set
resolvents-same : (a b r q : List Lit) (p o : Lit) → IsResolvent a b r p → IsResolvent a b q o → SameLits r q
resolvents-same a b r q p o d e l = iff-same (has r l) (has q l)
    (λ h. (e.union l).1 (let k = (d.union l).0 h in (k.0, λ x. k.1 (x ∙ sym same))))
    (λ h. (d.union l).1 (let k = (e.union l).0 h in (k.0, λ x. k.1 (x ∙ same))))
  where
    same : var_of p ≡ var_of o
    same = e.only p d.clash

    iff-same : (x y : Bool) → (x ≡ true → y ≡ true) → (y ≡ true → x ≡ true) → x ≡ y
    iff-same true y f g = sym (f refl)
    iff-same false true f g = g refl
    iff-same false false f g = refl

-- each literal of a list that is contained is in the other
pub contained-has : (a b : List Lit) → contained a b ≡ true → (l : Lit) → has a l ≡ true → has b l ≡ true
contained-has [] b e l h = absurd (false≢true h)
contained-has (k ∷ a) b e l h =
    let p = and_parts (has b k) (contained a b) e in
    elim (or_cases (lit_eq k l) (has a l) h) [ inl q ↦ rw (← same_lit k l q) p.0 | inr q ↦ contained-has a b p.1 l q ]

pub has-contained : (a b : List Lit) → ((l : Lit) → has a l ≡ true → has b l ≡ true) → contained a b ≡ true
has-contained [] b f = refl
has-contained (k ∷ a) b f = and_from (has b k) (contained a b) (f k (or_left (lit_eq k k) (has a k) (lit_eq-refl k)))
    (has-contained a b (λ l h. f l (or_right (lit_eq k l) (has a l) h)))

clause-at : (known : List (List Lit)) (k : ℕ) → k < length known → AllClauses known
    → (slice_get known k ≡ Some (unwrap_or (slice_get known k) [])) × IsClause (unwrap_or (slice_get known k) [])
clause-at [] k h i = absurd (omega arith)
clause-at (c ∷ cs) zero h i = (refl, i.0)
clause-at (c ∷ cs) (suc k) h i = clause-at cs k (omega arith) i.1

clause_at-is : (known : List (List Lit)) (id : ℕ) → 0 < id → id ≤ length known → AllClauses known
    → (at_id known id ≡ Some (clause_at known id)) × IsClause (clause_at known id)
clause_at-is known id h k i = let r = clause-at known (id - 1) (omega arith) i in (get-at_id known id (clause_at known id) h r.0, r.1)

clause-one_sign : (c : List Lit) → IsClause c → OneSign c
clause-one_sign c i l m h k e = one_sign c l m i h k e

fault_from-none : (known : List (List Lit)) (ids : List ℕ) (stated a : List Lit) → AllClauses known → IdsIn (length known) ids → IsClause a
    → fault_from known ids stated a ≡ None → DerivesFrom known a ids stated
fault_from-none known [] stated a i n j e =
    elim (cases_Bool (contained a stated)) [
      | inl t ↦ contained-has a stated t
      | inr f ↦ absurd (none-some NotContained (sym (rw f at e)))
    ]
fault_from-none known (id ∷ ids) stated a i n j e =
    by-resolved (resolved a (clause_at known id)) refl e (λ r k f. fault_from-none known ids stated r i n.2 k f)
  where
    b : List Lit
    b = clause_at known id

    by-resolved : (r : Resolved) → resolved a b ≡ r → after_step (fault_from known ids stated) r ≡ None
        → ((r : List Lit) → IsClause r → fault_from known ids stated r ≡ None → DerivesFrom known r ids stated)
        → DerivesFrom known a (id ∷ ids) stated
    by-resolved no_pivot q f ih = absurd (none-some NoPivot (sym f))
    by-resolved two_pivots q f ih = absurd (none-some TwoPivots (sym f))
    by-resolved (result r) q f ih =
        let k = clause_at-is known id n.0 n.1 i in
        let d = resolved-result a b r j k.1 q in
        (b, r, d.0, k.0, d.1, ih r d.2 f)

none-fault_from : (known : List (List Lit)) (ids : List ℕ) (stated a : List Lit) → AllClauses known → IdsIn (length known) ids → IsClause a
    → DerivesFrom known a ids stated → fault_from known ids stated a ≡ None
none-fault_from known [] stated a i n j d = rw (has-contained a stated d) refl
none-fault_from known (id ∷ ids) stated a i n j d = by-resolved (resolved a b) refl (λ r k f. none-fault_from known ids stated r i n.2 k f)
  where
    b : List Lit
    b = clause_at known id

    k : (at_id known id ≡ Some b) × IsClause b
    k = clause_at-is known id n.0 n.1 i

    same : d.0 ≡ b
    same = same_Some d.0 b (sym d.3 ∙ k.0)

    resolvent : IsResolvent a b d.1 d.2
    resolvent = let P : List Lit → Type 0 = λ c. IsResolvent a c d.1 d.2 in subst P same d.4

    by-resolved : (r : Resolved) → resolved a b ≡ r → ((r : List Lit) → IsClause r → DerivesFrom known r ids stated
        → fault_from known ids stated r ≡ None) → after_step (fault_from known ids stated) r ≡ None
    by-resolved no_pivot q ih = absurd (resolved-no_pivot a b q d.2 resolvent.clash)
    by-resolved two_pivots q ih =
        let t = resolved-two_pivots a b (clause-one_sign b k.1) q in
        absurd (t.4 (resolvent.only t.0 t.2 ∙ sym (resolvent.only t.1 t.3)))
    by-resolved (result r) q ih =
        let e = resolved-result a b r j k.1 q in
        ih r e.2 (DerivesFrom-same known d.1 r ids stated (resolvents-same a b d.1 r d.2 e.0 resolvent e.1) d.5)

-- the check finds no fault exactly where the chain derives the stated clause
pub chain_fault-is : (known : List (List Lit)) (chain : List ℕ) (stated : List Lit) → AllClauses known → IdsIn (length known) chain
    → (chain_fault known chain stated ≡ None) ↔ IsDerived known chain stated
chain_fault-is known [] stated i n = ((λ e. absurd (none-some NotContained (sym e))), (λ d. absurd d))
chain_fault-is known (id ∷ ids) stated i n =
    let k = clause_at-is known id n.0 n.1 i in (
      (λ e. (clause_at known id, k.0, fault_from-none known ids stated (clause_at known id) i n.2 k.1 e)),
      (λ d. none-fault_from known ids stated (clause_at known id) i n.2 k.1 (let P : List Lit → Type 0 =
          λ c. DerivesFrom known c ids stated in subst P (same_Some d.0 (clause_at known id) (sym d.1 ∙ k.0)) d.2)),
    )
