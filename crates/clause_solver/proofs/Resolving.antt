-- Resolution by what is seen. The order of the trail plays no part in it.
use Rattle.std.proofs.Common.{◌≡◌, ◌≢◌, ℕ, Bool, true, false, not, ◌&&◌, ◌||◌, eqb, List, [], ◌∷◌, ◌++◌, Some, ◌⊎◌, inl, inr, refl, sym, ap, ◌∙◌}
use Rattle.std.specs.Prelude.{if◌then◌else◌}
use Rattle.std.specs.Bool.{beq}
use Rattle.std.proofs.lemmas.Bool.{cases_Bool, or_cases, or_left, or_right, and_from, and_parts, false≢true, eq-eqb, ne_eqb}
use Rattle.clause_store.specs.declared.Lit.{Lit}
use Rattle.clause_store.specs.Lits.{var_of, negation, has, lit_eq, SameLits}
use Rattle.clause_store.specs.Clauses.{at_id}
use Rattle.proof_log.specs.Known.{has_var}
use Rattle.proof_log.specs.Derivations.{Clashes, IsResolvent, DerivesFrom, IsDerived}
use Rattle.proof_log.specs.Usefulness.{IsConsistent}
use Rattle.clause_store.proofs.Sets.{same_lit, lit_eq-refl, negation-twice, same_or_opposite}
use Rattle.proof_log.proofs.Chains.{IsResolvent-same}
use Rattle.proof_log.proofs.Useful.{has-var}
use Rattle.clause_watch.specs.declared.trail.Placed.{Placed}
use Rattle.clause_watch.specs.Trails.{lits_of}
use Rattle.clause_watch.specs.Reasons.{IsFalse}
use Rattle.clause_watch.proofs.Places.{has_var-lit}
use Rattle.clause_solver.specs.Seen.{falsified, seen_after, Leads}

flipped-eq : (k l : Lit) → lit_eq (negation k) l ≡ lit_eq k (negation l)
flipped-eq k l = ap (λ b. eqb (var_of k) (var_of l) && b) (signs k.positive l.positive)
  where
    signs : (a b : Bool) → beq (not a) b ≡ beq a (not b)
    signs true true = refl
    signs true false = refl
    signs false true = refl
    signs false false = refl

pub has-falsified : (m : ℕ → Bool) (ps : List Placed) (l : Lit) → has (falsified m ps) l ≡ (m (var_of l) && has (lits_of ps) (negation l))
has-falsified m [] l = and-false (m (var_of l))
  where
    and-false : (b : Bool) → false ≡ (b && false)
    and-false true = refl
    and-false false = refl
has-falsified m (p ∷ ps) l = by-bool (m (var_of p.lit)) refl (has-falsified m ps l)
  where
    is_seen : (e h : Bool) (x : Bool) → (e ≡ true → x ≡ true) → (e || (x && h)) ≡ (x && (e || h))
    is_seen true h true f = refl
    is_seen true h false f = sym (f refl)
    is_seen false h x f = refl

    unseen : (e h : Bool) (x : Bool) → (e ≡ true → x ≡ false) → (x && h) ≡ (x && (e || h))
    unseen true h true f = absurd (false≢true (sym (f refl)))
    unseen true h false f = refl
    unseen false h x f = refl

    by-bool : (b : Bool) → m (var_of p.lit) ≡ b → has (falsified m ps) l ≡ (m (var_of l) && has (lits_of ps) (negation l))
        → has (if b then negation p.lit ∷ falsified m ps else falsified m ps) l
        ≡ (m (var_of l) && (lit_eq p.lit (negation l) || has (lits_of ps) (negation l)))
    by-bool true q ih = rw (flipped-eq p.lit l, ih)
        (is_seen (lit_eq p.lit (negation l)) (has (lits_of ps) (negation l)) (m (var_of l))
        (λ e. ap m (sym (ap var_of (same_lit p.lit (negation l) e))) ∙ q))
    by-bool false q ih =
        rw ih (unseen (lit_eq p.lit (negation l)) (has (lits_of ps) (negation l)) (m (var_of l))
        (λ e. ap m (sym (ap var_of (same_lit p.lit (negation l) e))) ∙ q))

-- a literal of the seen clause is seen, and false
pub falsified-parts : (m : ℕ → Bool) (ps : List Placed) (l : Lit) → has (falsified m ps) l ≡ true → (m (var_of l) ≡ true)
    × (has (lits_of ps) (negation l) ≡ true)
falsified-parts m ps l h = and_parts (m (var_of l)) (has (lits_of ps) (negation l)) (sym (has-falsified m ps l) ∙ h)

-- a seen false literal is in the seen clause
pub falsified-from : (m : ℕ → Bool) (ps : List Placed) (l : Lit) → m (var_of l) ≡ true → has (lits_of ps) (negation l) ≡ true
    → has (falsified m ps) l ≡ true
falsified-from m ps l a b = has-falsified m ps l ∙ and_from (m (var_of l)) (has (lits_of ps) (negation l)) a b

-- the seen clause rests on what is seen alone
pub falsified-agree : (m n : ℕ → Bool) (ps : List Placed) → ((x : ℕ) → m x ≡ n x) → falsified m ps ≡ falsified n ps
falsified-agree m n [] h = refl
falsified-agree m n (p ∷ ps) h = rw (h (var_of p.lit), falsified-agree m n ps h) refl

-- what is seen after a resolution was seen before, or is in the reason
pub seen_after-parts : (m : ℕ → Bool) (l : Lit) (c : List Lit) (x : ℕ) → seen_after m l c x ≡ true → (x ≢ var_of l)
    × ((m x ≡ true) ⊎ (has_var c x ≡ true))
seen_after-parts m l c x h =
    let a = and_parts (not (eqb x (var_of l))) (m x || has_var c x) h in
    ((λ e. false≢true (sym (ap not (eq-eqb x (var_of l) e)) ∙ a.0)), or_cases (m x) (has_var c x) a.1)

-- and the other way round
pub seen_after-from : (m : ℕ → Bool) (l : Lit) (c : List Lit) (x : ℕ) → x ≢ var_of l → (m x ≡ true) ⊎ (has_var c x ≡ true)
    → seen_after m l c x ≡ true
seen_after-from m l c x ne h = and_from (not (eqb x (var_of l))) (m x || has_var c x) (ap not (ne_eqb x (var_of l) ne))
    (elim h [ inl t ↦ or_left (m x) (has_var c x) t | inr t ↦ or_right (m x) (has_var c x) t ])

-- the literal is true and seen, and its reason's other literals are false
module _ (m : ℕ → Bool) (ps : List Placed) (p : Lit) (c : List Lit) (consistent : IsConsistent (lits_of ps))
    (on : has (lits_of ps) p ≡ true) (is_seen : m (var_of p) ≡ true)
    (stands : has c p ≡ true) (others : (l : Lit) → has c l ≡ true → l ≢ p → has (lits_of ps) (negation l) ≡ true) where
  -- a false literal whose variable stands in the reason stands there itself
  in_reason : (l : Lit) → has_var c (var_of l) ≡ true → has (lits_of ps) (negation l) ≡ true → var_of l ≢ var_of p → has c l ≡ true
  in_reason l h f ne =
      let k = has_var-lit c (var_of l) h in
      elim (same_or_opposite l k.0 (sym k.2)) [
        | inl e ↦ rw e k.1
        | inr e ↦ absurd (consistent (negation l) f (ap (λ x. has (lits_of ps) (negation x)) (sym e)
            ∙ others k.0 k.1 (λ q. ne (sym k.2 ∙ ap var_of q))))
      ]

  only : (l : Lit) → Clashes (falsified m ps) c l → var_of l ≡ var_of p
  only l h =
      elim (cases_Bool (lit_eq (negation l) p)) [
        | inl t ↦ ap var_of (same_lit (negation l) p t)
        | inr f ↦ absurd (consistent l
            (ap (has (lits_of ps)) (sym (negation-twice l))
            ∙ others (negation l) h.1 (λ e. false≢true (sym f ∙ ap (λ x. lit_eq (negation l) x) (sym e) ∙ lit_eq-refl (negation l))))
            (falsified-parts m ps l h.0).1)
      ]

  -- the seen clauses before and after resolve with the reason
  pub seen-resolve : IsResolvent (falsified m ps) c (falsified (seen_after m p c) ps) (negation p)
  seen-resolve = record {
    clash = (
      falsified-from m ps (negation p) is_seen (ap (has (lits_of ps)) (negation-twice p) ∙ on),
      ap (has c) (negation-twice p)
          ∙ stands,
    );
    only = only;
    union = λ l. (
      (λ h.
          let a = falsified-parts (seen_after m p c) ps l h in
          let b = seen_after-parts m p c (var_of l) a.0 in
          (elim b.1 [ inl t ↦ inl (falsified-from m ps l t a.1) | inr t ↦ inr (in_reason l t a.1 b.0) ], b.0)),
      (λ h. elim h.0 [
        | inl t ↦ let a = falsified-parts m ps l t in
            falsified-from (seen_after m p c) ps l (seen_after-from m p c (var_of l) h.1 (inl a.0)) a.1
        | inr t ↦ falsified-from (seen_after m p c) ps l (seen_after-from m p c (var_of l) h.1 (inr (has-var c l t)))
            (others l t (λ e. h.1 (ap var_of e)))
      ]),
    );
  }

-- chains
pub Leads-push : (known : List (List Lit)) (a r b q : List Lit) (ids : List ℕ) (id : ℕ) (p : Lit) → Leads known a ids r
    → at_id known id ≡ Some b → IsResolvent r b q p → Leads known a (ids ++ id ∷ []) q
Leads-push known a r b q [] id p s e d = (b, q, p, e, IsResolvent-same r a b q p (λ l. sym (s l)) d, λ l. refl)
Leads-push known a r b q (i ∷ ids) id p s e d = (s.0, s.1, s.2, s.3, s.4, Leads-push known s.1 r b q ids id p s.5 e d)

Leads-derives : (known : List (List Lit)) (a r stated : List Lit) (ids : List ℕ) → Leads known a ids r
    → ((l : Lit) → has r l ≡ true → has stated l ≡ true) → DerivesFrom known a ids stated
Leads-derives known a r stated [] s f = λ l h. f l (sym (s l) ∙ h)
Leads-derives known a r stated (i ∷ ids) s f = (s.0, s.1, s.2, s.3, s.4, Leads-derives known s.1 r stated ids s.5 f)

Leads-start : (known : List (List Lit)) (a b r : List Lit) (ids : List ℕ) → SameLits a b → Leads known b ids r → Leads known a ids r
Leads-start known a b r [] s h = λ l. s l ∙ h l
Leads-start known a b r (i ∷ ids) s h = (h.0, h.1, h.2, h.3, IsResolvent-same b a h.0 h.1 h.2 (λ l. sym (s l)) h.4, h.5)

-- false literals that are seen are the seen clause, if each seen variable with a value stands among them
pub falsified-same : (m : ℕ → Bool) (ps : List Placed) (c : List Lit) → IsConsistent (lits_of ps)
    → ((l : Lit) → has c l ≡ true → (m (var_of l) ≡ true) × (has (lits_of ps) (negation l) ≡ true)) →
    ((x : ℕ) → m x ≡ true → has_var (lits_of ps) x ≡ true → has_var c x ≡ true) → SameLits c (falsified m ps)
falsified-same m ps c consistent sound full l = iff-same (has c l) (has (falsified m ps) l)
    (λ h. let a = sound l h in falsified-from m ps l a.0 a.1)
    (λ h.
    let a = falsified-parts m ps l h in
    let k = has_var-lit c (var_of l) (full (var_of l) a.0 (has-var (lits_of ps) (negation l) a.1)) in
    elim (same_or_opposite l k.0 (sym k.2)) [
      | inl q ↦ rw q k.1
      | inr q ↦ absurd (consistent (negation l) a.1 (ap (λ x. has (lits_of ps) (negation x)) (sym q) ∙ (sound k.0 k.1).1))
    ])
  where
    iff-same : (x y : Bool) → (x ≡ true → y ≡ true) → (y ≡ true → x ≡ true) → x ≡ y
    iff-same true y f g = sym (f refl)
    iff-same false true f g = g refl
    iff-same false false f g = refl

-- so a false clause is the clause of its seen variables
seen-of : (m : ℕ → Bool) (ps : List Placed) (c : List Lit) → IsConsistent (lits_of ps) → IsFalse ps c → ((x : ℕ) → m x ≡ has_var c x)
    → SameLits c (falsified m ps)
seen-of m ps c consistent f e = falsified-same m ps c consistent (λ l h. (e (var_of l) ∙ has-var c l h, f l h)) (λ x t o. sym (e x) ∙ t)

-- so the seen clause that is left is derived by the false clause's id and the ids of the reasons
pub seen-derive : (known : List (List Lit)) (ps : List Placed) (old new : ℕ → Bool) (id : ℕ) (c stated : List Lit) (ids : List ℕ)
    → at_id known id ≡ Some c → IsConsistent (lits_of ps) → IsFalse ps c → ((x : ℕ) → old x ≡ has_var c x) →
    Leads known (falsified old ps) ids (falsified new ps) → ((l : Lit) → has (falsified new ps) l ≡ true → has stated l ≡ true)
    → IsDerived known (id ∷ ids) stated
seen-derive known ps old new id c stated ids k consistent f e leads within = (
  c,
  k,
  Leads-derives known c (falsified new ps) stated ids
      (Leads-start known c (falsified old ps) (falsified new ps) ids (seen-of old ps c consistent f e) leads) within,
)
