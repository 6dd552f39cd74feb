-- A clause without a variable, and why two clauses have no union.
use Rattle.std.proofs.Common.{◌≡◌, ℕ, Bool, true, false, not, ◌&&◌, ◌||◌, eqb, List, [], ◌∷◌, None, inl, inr, refl, sym, ap, ◌∙◌}
use Rattle.std.proofs.lemmas.Bool.{cases_eq, cases_Bool, or_cases, eq-eqb, ne_eqb}
use Rattle.clause_store.specs.declared.Lit.{Lit}
use Rattle.clause_store.specs.Lits.{var_of, negation, lit_eq, has, with_lits, IsClause, AllAbove}
use Rattle.clause_store.proofs.Sets.{same_lit, OneSign, not-opposite, with_lits-None}
use Rattle.proof_log.specs.Resolution.{without}

-- a clause without a variable, as a set
without-met : (x : ℕ) (k l : Lit) (h : Bool) → var_of k ≡ x → (h && not (eqb (var_of l) x)) ≡ ((lit_eq k l || h) && not (eqb (var_of l) x))
without-met x k l h e =
    elim (cases_Bool (lit_eq k l)) [
      | inl t ↦ rw (eq-eqb (var_of l) x (ap var_of (sym (same_lit k l t)) ∙ e)) (and-false h ∙ sym (and-false (lit_eq k l || h)))
      | inr f ↦ rw f refl
    ]
  where
    and-false : (b : Bool) → (b && not true) ≡ false
    and-false true = refl
    and-false false = refl

without-kept : (x : ℕ) (k l : Lit) (h : Bool) → (var_of k ≡ x → ⊥)
    → (lit_eq k l || (h && not (eqb (var_of l) x))) ≡ ((lit_eq k l || h) && not (eqb (var_of l) x))
without-kept x k l h ne =
    elim (cases_Bool (lit_eq k l)) [
      | inl t ↦ rw (t, ne_eqb (var_of l) x (λ e. ne (ap var_of (same_lit k l t) ∙ e))) refl
      | inr f ↦ rw f refl
    ]

pub has-without : (x : ℕ) (ks : List Lit) (l : Lit) → has (without x ks) l ≡ (has ks l && not (eqb (var_of l) x))
has-without x [] l = refl
has-without x (k ∷ ks) l =
    elim (cases_eq (var_of k) x) [
      | inl e ↦ rw (eq-eqb (var_of k) x e, has-without x ks l) (without-met x k l (has ks l) e)
      | inr ne ↦ rw (ne_eqb (var_of k) x ne, has-without x ks l) (without-kept x k l (has ks l) ne)
    ]

AllAbove-without : (n x : ℕ) (ks : List Lit) → AllAbove n ks → AllAbove n (without x ks)
AllAbove-without n x [] a = tt
AllAbove-without n x (k ∷ ks) a =
    elim (cases_eq (var_of k) x) [
      | inl e ↦ rw (eq-eqb (var_of k) x e) (AllAbove-without n x ks a.1)
      | inr ne ↦ rw (ne_eqb (var_of k) x ne) (a.0, AllAbove-without n x ks a.1)
    ]

-- a clause without a variable is in order
pub IsClause-without : (x : ℕ) (ks : List Lit) → IsClause ks → IsClause (without x ks)
IsClause-without x [] i = tt
IsClause-without x (k ∷ ks) i =
    elim (cases_eq (var_of k) x) [
      | inl e ↦ rw (eq-eqb (var_of k) x e) (IsClause-without x ks i.1)
      | inr ne ↦ rw (ne_eqb (var_of k) x ne) (AllAbove-without (var_of k) x ks i.0, IsClause-without x ks i.1)
    ]

-- a literal of the second clause whose negation stands in the first
pub union-clash : (c ls : List Lit) → OneSign ls → with_lits c ls ≡ None → (l : Lit) × (has ls l ≡ true) × (has c (negation l) ≡ true)
union-clash c ls o e =
    let x = with_lits-None c ls e in
    elim (or_cases (has ls (negation x.0)) (has c (negation x.0)) x.2) [
      | inl t ↦ absurd (not-opposite x.0 (o x.0 (negation x.0) x.1 t refl))
      | inr t ↦ (x.0, x.1, t)
    ]
