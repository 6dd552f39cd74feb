-- Resolvents, and chains of them.
use Rattle.std.proofs.Common.{◌≡◌, ◌≢◌, ◌↔◌, ℕ, zero, suc, ◌-◌, Bool, true, false, cond, not, ◌||◌, eqb, List, [], ◌∷◌, Option, Some, None, ◌⊎◌, inl, inr, refl, sym, ap, ◌∙◌, subst}
use Rattle.std.specs.Prelude.{slice_get}
use Rattle.std.proofs.lemmas.Option.{none-some, same_Some}
use Rattle.std.proofs.lemmas.Bool.{cases_eq, cases_Bool, or_cases, or_left, or_right, and_parts, and_from, false≢true, ne_eqb, eq-eqb}
use Rattle.clause_store.specs.declared.Lit.{Lit}
use Rattle.clause_store.specs.Lits.{var_of, negation, lit_true, clause_true, lit_eq, has, with_lits, IsClause}
use Rattle.proof_log.proofs.Ids.{at_id-get}
use Rattle.clause_store.specs.Clauses.{AllTrue}
use Rattle.proof_log.specs.Derivations.{Clashes, IsResolvent, DerivesFrom, IsDerived}
use Rattle.proof_log.specs.Resolution.{without, first_clash, resolved, resolved_at, result, no_pivot, two_pivots, union_or_clash}
use Rattle.clause_store.proofs.Sets.{has-with_lits, IsClause-with_lits, one_sign, OneSign, same_or_opposite, not-opposite, has-true, true-has, negation-twice, same_lit, lit_eq-refl}
use Rattle.proof_log.proofs.Without.{IsClause-without, has-without, union-clash}

flipped : (v : ℕ → Bool) (l : Lit) → lit_true v l ≡ true → lit_true v (negation l) ≡ true → ⊥
flipped v l p q = by-bools l.positive (v (var_of l)) p q
  where
    by-bools : (s t : Bool) → cond s t (not t) ≡ true → cond (not s) t (not t) ≡ true → ⊥
    by-bools true true p q = false≢true q
    by-bools true false p q = false≢true p
    by-bools false true p q = false≢true p
    by-bools false false p q = false≢true q

-- a resolvent holds wherever both clauses do
pub resolvent_holds : (v : ℕ → Bool) (a b r : List Lit) (p : Lit) → OneSign a → OneSign b → IsResolvent a b r p → clause_true v a ≡ true
    → clause_true v b ≡ true → clause_true v r ≡ true
resolvent_holds v a b r p i j d s t =
    let x = true-has v a s in
    let y = true-has v b t in
    elim (cases_eq (var_of x.0) (var_of p)) [
      | inr ne ↦ has-true v r x.0 ((d.union x.0).1 (inl x.1, ne)) x.2
      | inl e ↦ elim (cases_eq (var_of y.0) (var_of p)) [
        | inr ne ↦ has-true v r y.0 ((d.union y.0).1 (inr y.1, ne)) y.2
        | inl f ↦ absurd (flipped v p (rw (i x.0 p x.1 d.clash.0 e) at x.2) (rw (j y.0 (negation p) y.1 d.clash.1 f) at y.2))
      ]
    ]

-- and no variable stands in it with both signs
pub resolvent_one_sign : (a b r : List Lit) (p : Lit) → OneSign a → OneSign b → IsResolvent a b r p → OneSign r
resolvent_one_sign a b r p i j d l m h k e =
    let x = (d.union l).0 h in
    let y = (d.union m).0 k in
    elim (same_or_opposite l m e) [
      | inl q ↦ q
      | inr q ↦ elim x.0 [
        | inl la ↦ elim y.0 [
          | inl ma ↦ i l m la ma e
          | inr mb ↦ absurd (x.1 (d.only l (la, rw q at mb)))
        ]
        | inr lb ↦ elim y.0 [
          | inl ma ↦ absurd (y.1 (d.only m (ma, ap (has b) (ap negation q ∙ negation-twice l) ∙ lb)))
          | inr mb ↦ j l m lb mb e
        ]
      ]
    ]

abbrev pub AllOneSign : List (List Lit) → Type 0
AllOneSign [] = Unit {0}
AllOneSign (c ∷ cs) = OneSign c × AllOneSign cs

known-at : (v : ℕ → Bool) (known : List (List Lit)) (k : ℕ) (c : List Lit) → AllTrue v known → AllOneSign known → slice_get known k ≡ Some c
    → (clause_true v c ≡ true) × OneSign c
known-at v [] k c t o e = absurd (none-some c e)
known-at v (d ∷ ds) zero c t o e = let q = same_Some d c e in (rw (← q) t.0, subst OneSign q o.0)
known-at v (d ∷ ds) (suc k) c t o e = known-at v ds k c t.1 o.1 e

derives_from_holds : (v : ℕ → Bool) (known : List (List Lit)) (a : List Lit) (ids : List ℕ) (stated : List Lit) → AllTrue v known
    → AllOneSign known → OneSign a → clause_true v a ≡ true → DerivesFrom known a ids stated → clause_true v stated ≡ true
derives_from_holds v known a [] stated t o i h d = let x = true-has v a h in has-true v stated x.0 (d x.0 x.1) x.2
derives_from_holds v known a (id ∷ ids) stated t o i h d =
    let k = known-at v known (id - 1) d.0 t o (at_id-get known id d.0 d.3).1 in
    derives_from_holds v known d.1 ids stated t o
    (resolvent_one_sign a d.0 d.1 d.2 i k.1 d.4) (resolvent_holds v a d.0 d.1 d.2 i k.1 d.4 h k.0) d.5

-- a derived clause holds wherever the known clauses do
pub derived_holds : (v : ℕ → Bool) (known : List (List Lit)) (chain : List ℕ) (stated : List Lit) → AllOneSign known
    → IsDerived known chain stated → AllTrue v known → clause_true v stated ≡ true
derived_holds v known [] stated o d t = absurd d
derived_holds v known (id ∷ ids) stated o d t =
    let k = known-at v known (id - 1) d.0 t o (at_id-get known id d.0 d.1).1 in
    derives_from_holds v known d.0 ids stated t o k.1 k.0 d.2

-- the computing step, and what it says of the clauses
first_clash-Some : (a b : List Lit) (l : Lit) → first_clash a b ≡ Some l → Clashes a b l
first_clash-Some [] b l e = absurd (none-some l e)
first_clash-Some (k ∷ a) b l e =
    elim (cases_Bool (has b (negation k))) [
      | inl t ↦ let q = same_Some k l (rw t at e) in subst (Clashes (k ∷ a) b) q (or_left (lit_eq k k) (has a k) (lit_eq-refl k), t)
      | inr f ↦ let p = first_clash-Some a b l (rw f at e) in (or_right (lit_eq k l) (has a l) p.0, p.1)
    ]

first_clash-None : (a b : List Lit) (m : Lit) → first_clash a b ≡ None → Clashes a b m → ⊥
first_clash-None [] b m e c = false≢true c.0
first_clash-None (k ∷ a) b m e c =
    elim (cases_Bool (has b (negation k))) [
      | inl t ↦ none-some k (sym (rw t at e))
      | inr f ↦ elim (or_cases (lit_eq k m) (has a m) c.0) [
        | inl q ↦ false≢true (sym f ∙ ap (λ x. has b (negation x)) (same_lit k m q) ∙ c.1)
        | inr q ↦ first_clash-None a b m (rw f at e) (q, c.1)
      ]
    ]

without-parts : (x : ℕ) (c : List Lit) (l : Lit) → has (without x c) l ≡ true → (has c l ≡ true) × (var_of l ≢ x)
without-parts x c l h =
    let p = and_parts (has c l) (not (eqb (var_of l) x)) (sym (has-without x c l) ∙ h) in
    (p.0, λ e. false≢true (sym (ap not (eq-eqb (var_of l) x e)) ∙ p.1))

without-from : (x : ℕ) (c : List Lit) (l : Lit) → has c l ≡ true → var_of l ≢ x → has (without x c) l ≡ true
without-from x c l h ne = has-without x c l ∙ and_from (has c l) (not (eqb (var_of l) x)) h (ap not (ne_eqb (var_of l) x ne))

module _ (a b r : List Lit) (p : Lit) (e : with_lits (without (var_of p) a) (without (var_of p) b) ≡ Some r) where
  union-from : (l : Lit) → (has r l ≡ true) ↔ (((has a l ≡ true) ⊎ (has b l ≡ true)) × (var_of l ≢ var_of p))
  union-from l =
      let x = var_of p in
      let q : has r l ≡ (has (without x b) l || has (without x a) l) = has-with_lits (without x a) (without x b) r l e in (
        (λ h. elim (or_cases (has (without x b) l) (has (without x a) l) (sym q ∙ h)) [
          | inl t ↦ let s = without-parts x b l t in (inr s.0, s.1)
          | inr t ↦ let s = without-parts x a l t in (inl s.0, s.1)
        ]),
        (λ h. elim h.0 [
          | inl t ↦ q ∙ or_right (has (without x b) l) (has (without x a) l) (without-from x a l t h.1)
          | inr t ↦ q ∙ or_left (has (without x b) l) (has (without x a) l) (without-from x b l t h.1)
        ]),
      )

  -- no other variable clashes, since the union has each variable once
  only-from : OneSign r → (l : Lit) → Clashes a b l → var_of l ≡ var_of p
  only-from o l c =
      elim (cases_eq (var_of l) (var_of p)) [
        | inl t ↦ t
        | inr ne ↦ absurd
            (not-opposite l (o l (negation l) ((union-from l).1 (inl c.0, ne)) ((union-from (negation l)).1 (inr c.1, ne)) refl))
      ]

one_sign-without : (x : ℕ) (c : List Lit) → OneSign c → OneSign (without x c)
one_sign-without x c o l m h k e = o l m (without-parts x c l h).0 (without-parts x c m k).0 e

-- what the computing step answers
pub resolved-result : (a b r : List Lit) → IsClause a → IsClause b → resolved a b ≡ result r → (p : Lit) × IsResolvent a b r p × IsClause r
resolved-result a b r i j e = by-option (first_clash a b) refl e
  where
    some : (l : Lit) → first_clash a b ≡ Some l → (o : Option (List Lit)) → with_lits (without (var_of l) a) (without (var_of l) b) ≡ o
        → union_or_clash o ≡ result r → (p : Lit) × IsResolvent a b r p × IsClause r
    some l q None w f = absurd (two-result r f)
      where
        two-result : (r : List Lit) → two_pivots ≡ result r → ⊥
        two-result r f = cc
    some l q (Some d) w f =
        let same : d ≡ r = cc in
        let w' : with_lits (without (var_of l) a) (without (var_of l) b) ≡ Some r = w ∙ ap Some same in
        let k : IsClause r = IsClause-with_lits (without (var_of l) a) (without (var_of l) b) r (IsClause-without (var_of l) a i) w' in (
          l,
          record {
            clash = first_clash-Some a b l q;
            only = only-from a b r l w' (λ x y h g t. one_sign r x y k h g t);
            union =
                union-from a b r l w';
          },
          k,
        )

    by-option : (o : Option Lit) → first_clash a b ≡ o → resolved_at o a b ≡ result r → (p : Lit) × IsResolvent a b r p × IsClause r
    by-option None q f = absurd (no-result r f)
      where
        no-result : (r : List Lit) → no_pivot ≡ result r → ⊥
        no-result r f = cc
    by-option (Some l) q f = some l q (with_lits (without (var_of l) a) (without (var_of l) b)) refl f

-- without a pivot no literals clash
pub resolved-no_pivot : (a b : List Lit) → resolved a b ≡ no_pivot → (l : Lit) → Clashes a b l → ⊥
resolved-no_pivot a b e l c = by-option (first_clash a b) refl e
  where
    some : (o : Option (List Lit)) → union_or_clash o ≡ no_pivot → ⊥
    some None f = cc
    some (Some d) f = cc

    by-option : (o : Option Lit) → first_clash a b ≡ o → resolved_at o a b ≡ no_pivot → ⊥
    by-option None q f = first_clash-None a b l q c
    by-option (Some k) q f = some (with_lits (without (var_of k) a) (without (var_of k) b)) f

-- two variables clash
pub resolved-two_pivots : (a b : List Lit) → OneSign b → resolved a b ≡ two_pivots → (l : Lit) × (m : Lit) × Clashes a b l × Clashes a b m
    × (var_of l ≢ var_of m)
resolved-two_pivots a b j e = by-option (first_clash a b) refl e
  where
    some : (l : Lit) → first_clash a b ≡ Some l → (o : Option (List Lit)) → with_lits (without (var_of l) a) (without (var_of l) b) ≡ o
        → union_or_clash o ≡ two_pivots → (x : Lit) × (m : Lit) × Clashes a b x × Clashes a b m × (var_of x ≢ var_of m)
    some l q None w f =
        let s = union-clash (without (var_of l) a) (without (var_of l) b) (one_sign-without (var_of l) b j) w in
        let t = without-parts (var_of l) b s.0 s.1 in
        let u = without-parts (var_of l) a (negation s.0) s.2 in
        (l, negation s.0, first_clash-Some a b l q, (u.0, ap (has b) (negation-twice s.0) ∙ t.0), λ h. u.1 (sym h))
    some l q (Some d) w f = absurd (result-two d f)
      where
        result-two : (r : List Lit) → result r ≡ two_pivots → ⊥
        result-two r f = cc

    by-option : (o : Option Lit) → first_clash a b ≡ o → resolved_at o a b ≡ two_pivots → (x : Lit) × (m : Lit) × Clashes a b x
        × Clashes a b m
        × (var_of x ≢ var_of m)
    by-option None q f = absurd (no-two f)
      where
        no-two : no_pivot ≡ two_pivots → ⊥
        no-two f = cc
    by-option (Some l) q f = some l q (with_lits (without (var_of l) a) (without (var_of l) b)) refl f
