-- Clauses as sets of literals.
use Rattle.std.proofs.Common.{◌≡◌, ℕ, ◌<◌, Bool, true, false, not, ◌||◌, eqb, List, [], ◌∷◌, Option, Some, None, ◌⊎◌, inl, inr, refl, sym, ap, ◌∙◌, subst, arith}
use Rattle.std.specs.Bool.{beq}
use Rattle.std.proofs.lemmas.Bool.{cases_Bool, or_cases, or_left, or_right, and_parts, and_from, eq-eqb, eqb-true, false≢true}
use Rattle.std.proofs.lemmas.Option.{same_Some, none-some, option_and_then_some}
use Rattle.std.specs.Prelude.{option_and_then}
use Rattle.clause_store.specs.declared.Lit.{Lit}
use Rattle.clause_store.specs.Lits.{var_of, negation, lit_true, clause_true, lit_eq, same_sign, has, with_lit, with_lits, clause_of, IsClause, AllAbove, HasBothSigns, SameLits}
use Rattle.clause_store.proofs.Order.{given, before, same, after, refused, opposite, later, IsClause-with_lit}

beq-same : (a b : Bool) → beq a b ≡ true → a ≡ b
beq-same true true e = refl
beq-same false false e = refl
beq-same true false e = sym e
beq-same false true e = e

beq-refl : (a : Bool) → beq a a ≡ true
beq-refl true = refl
beq-refl false = refl

lit_of : ℕ → Bool → Lit
lit_of x p = record { var = record { 0 = x }; positive = p }

-- literals that compare equal are equal
pub same_lit : (k l : Lit) → lit_eq k l ≡ true → k ≡ l
unfolding lit_of
same_lit k l e =
    let p = and_parts (eqb (var_of k) (var_of l)) (same_sign k.positive l.positive) e in
    let x : var_of k ≡ var_of l = eqb-true (var_of k) (var_of l) p.0 in
    let y : k.positive ≡ l.positive = beq-same k.positive l.positive p.1 in
    ap (λ n. lit_of n k.positive) x ∙ ap (λ b. lit_of (var_of l) b) y

pub lit_eq-refl : (l : Lit) → lit_eq l l ≡ true
lit_eq-refl l = and_from (eqb (var_of l) (var_of l)) (same_sign l.positive l.positive) (eq-eqb (var_of l) (var_of l) refl)
    (beq-refl l.positive)

or-same : (a b : Bool) → (a || b) ≡ (a || (a || b))
or-same true b = refl
or-same false b = refl

-- the first two of three may change places
pub or-swap : (a b c : Bool) → (a || (b || c)) ≡ (b || (a || c))
or-swap true true c = refl
or-swap true false c = refl
or-swap false true c = refl
or-swap false false c = refl

or-turn : (a b c : Bool) → (a || (b || c)) ≡ ((b || a) || c)
or-turn true true c = refl
or-turn true false c = refl
or-turn false true c = refl
or-turn false false c = refl

-- one more literal, as a set
pub has-with_lit : (ks ds : List Lit) (l m : Lit) → with_lit ks l ≡ Some ds → has ds m ≡ (lit_eq l m || has ks m)
has-with_lit [] ds l m e = rw (← same_Some (l ∷ []) ds e) refl
has-with_lit (k ∷ ks) ds l m e =
    elim (given k ks l ds e) [
      | before lt q ↦ rw (← q) refl
      | same q r t ↦ rw (← q, ← r, ← t) (or-same (lit_eq k m) (has ks m))
      | after lt es r q ↦ rw (← q, has-with_lit ks es l m r) (or-swap (lit_eq k m) (lit_eq l m) (has ks m))
    ]

pub has-with_lits : (c ls ds : List Lit) (m : Lit) → with_lits c ls ≡ Some ds → has ds m ≡ (has ls m || has c m)
has-with_lits c [] ds m e = rw (← same_Some c ds e) refl
has-with_lits c (l ∷ ls) ds m e =
    option_and_then_some (λ d. with_lits d ls) (with_lit c l) ds e (λ d q r.
    rw (has-with_lits d ls ds m r, has-with_lit c d l m q) (or-turn (has ls m) (lit_eq l m) (has c m)))

-- a clause with more literals is in order
pub IsClause-with_lits : (c ls ds : List Lit) → IsClause c → with_lits c ls ≡ Some ds → IsClause ds
IsClause-with_lits c [] ds i e = subst IsClause (same_Some c ds e) i
IsClause-with_lits c (l ∷ ls) ds i e =
    option_and_then_some (λ d. with_lits d ls) (with_lit c l) ds e (λ d q r. IsClause-with_lits d ls ds (IsClause-with_lit c d l i q) r)

-- a variable of a clause in order has one sign
pub above-has : (n : ℕ) (ks : List Lit) (l : Lit) → AllAbove n ks → has ks l ≡ true → n < var_of l
above-has n [] l a h = absurd (false≢true h)
above-has n (k ∷ ks) l a h =
    elim (or_cases (lit_eq k l) (has ks l) h) [
      | inl e ↦ rw (← same_lit k l e) a.0
      | inr t ↦ above-has n ks l a.1 t
    ]

-- a clause has a variable once
pub one_sign : (ks : List Lit) (l m : Lit) → IsClause ks → has ks l ≡ true → has ks m ≡ true → var_of l ≡ var_of m → l ≡ m
one_sign [] l m i h k e = absurd (false≢true h)
one_sign (x ∷ ks) l m i h k e =
    elim (or_cases (lit_eq x l) (has ks l) h) [
      | inl p ↦ elim (or_cases (lit_eq x m) (has ks m) k) [
        | inl q ↦ sym (same_lit x l p) ∙ same_lit x m q
        | inr q ↦ absurd (omega (arith, above-has (var_of x) ks m i.0 q, ap var_of (same_lit x l p)))
      ]
      | inr p ↦ elim (or_cases (lit_eq x m) (has ks m) k) [
        | inl q ↦ absurd (omega (arith, above-has (var_of x) ks l i.0 p, ap var_of (same_lit x m q)))
        | inr q ↦ one_sign ks l m i.1 p q e
      ]
    ]

-- two literals of one variable are the same or opposite
pub same_or_opposite : (l m : Lit) → var_of l ≡ var_of m → (l ≡ m) ⊎ (m ≡ negation l)
unfolding lit_of
same_or_opposite l m e =
    elim (cases_Bool (beq l.positive m.positive)) [
      | inl t ↦ inl (same_lit l m (and_from (eqb (var_of l) (var_of m)) (beq l.positive m.positive) (eq-eqb (var_of l) (var_of m) e) t))
      | inr f ↦ inr (ap (λ n. lit_of n m.positive) (sym e) ∙ ap (λ b. lit_of (var_of l) b) (other l.positive m.positive f))
    ]
  where
    other : (a b : Bool) → beq a b ≡ false → b ≡ not a
    other true true e = e
    other true false e = refl
    other false true e = refl
    other false false e = sym e

-- why several literals cannot be added
pub with_lit-None : (ks : List Lit) (l : Lit) → with_lit ks l ≡ None → has ks (negation l) ≡ true
with_lit-None [] l e = absurd (none-some (l ∷ []) (sym e))
with_lit-None (k ∷ ks) l e =
    elim (refused k ks l e) [
      | opposite q r ↦ or_left (lit_eq k (negation l)) (has ks (negation l))
          (and_from (eqb (var_of k) (var_of l)) (beq k.positive (not l.positive)) (eq-eqb (var_of k) (var_of l) q)
          (signs k.positive l.positive r))
      | later r ↦ or_right (lit_eq k (negation l)) (has ks (negation l)) (with_lit-None ks l r)
    ]
  where
    signs : (a b : Bool) → b ≡ not a → beq a (not b) ≡ true
    signs true b e = rw e refl
    signs false b e = rw e refl

abbrev pub OneSign : List Lit → Type 0
OneSign c = (l m : Lit) → has c l ≡ true → has c m ≡ true → var_of l ≡ var_of m → l ≡ m

-- no literal is its own negation
pub not-opposite : (l : Lit) → l ≡ negation l → ⊥
not-opposite l e = never l.positive (ap (λ (m : Lit). m.positive) e)
  where
    never : (b : Bool) → b ≡ not b → ⊥
    never true e = false≢true (sym e)
    never false e = false≢true e

-- why several literals cannot be added
pub with_lits-None : (c ls : List Lit) → with_lits c ls ≡ None → (l : Lit) × (has ls l ≡ true)
    × ((has ls (negation l) || has c (negation l)) ≡ true)
with_lits-None c [] e = absurd (none-some c (sym e))
with_lits-None c (l ∷ ls) e = by-option (with_lit c l) refl e (λ d. with_lits-None d ls)
  where
    by-option : (p : Option (List Lit)) → with_lit c l ≡ p → option_and_then (λ d. with_lits d ls) p ≡ None
        → ((d : List Lit) → with_lits d ls ≡ None → (m : Lit) × (has ls m ≡ true) × ((has ls (negation m) || has d (negation m)) ≡ true))
        → (m : Lit) × (has (l ∷ ls) m ≡ true) × ((has (l ∷ ls) (negation m) || has c (negation m)) ≡ true)
    by-option None q r ih = (
      l,
      or_left (lit_eq l l) (has ls l) (lit_eq-refl l),
      or_right (has (l ∷ ls) (negation l)) (has c (negation l))
          (with_lit-None c l q),
    )
    by-option (Some d) q r ih =
        let s = ih d r in (
          s.0,
          or_right (lit_eq l s.0) (has ls s.0) s.1,
          rw (has-with_lit c d l (negation s.0) q, or-turn (has ls (negation s.0)) (lit_eq l (negation s.0)) (has c (negation s.0))) at
              s.2,
        )

-- there is no clause of a list exactly where a variable has both signs in it
pub none-both_signs : (ls : List Lit) → clause_of ls ≡ None → HasBothSigns ls
none-both_signs ls e =
    let s = with_lits-None [] ls e in
    (s.0, s.1, elim (or_cases (has ls (negation s.0)) false s.2) [ inl t ↦ t | inr t ↦ absurd (false≢true t) ])

pub has-clause_of : (ls c : List Lit) (l : Lit) → clause_of ls ≡ Some c → has c l ≡ has ls l
has-clause_of ls c l e = has-with_lits [] ls c l e ∙ or-none (has ls l)
  where
    or-none : (a : Bool) → (a || false) ≡ a
    or-none true = refl
    or-none false = refl

-- the clause of a list is in order
pub IsClause-clause_of : (ls c : List Lit) → clause_of ls ≡ Some c → IsClause c
IsClause-clause_of ls c e = IsClause-with_lits [] ls c tt e

-- a list with both signs of a variable is no clause
pub both_signs-none : (ls : List Lit) → HasBothSigns ls → clause_of ls ≡ None
both_signs-none ls b = by-option (clause_of ls) refl
  where
    by-option : (o : Option (List Lit)) → clause_of ls ≡ o → o ≡ None
    by-option None e = refl
    by-option (Some c) e =
        absurd (not-opposite b.0 (one_sign c b.0 (negation b.0) (IsClause-clause_of ls c e) (has-clause_of ls c b.0 e ∙ b.1)
        (has-clause_of ls c (negation b.0) e ∙ b.2) refl))

-- a clause with a true literal is true
pub has-true : (v : ℕ → Bool) (c : List Lit) (l : Lit) → has c l ≡ true → lit_true v l ≡ true → clause_true v c ≡ true
has-true v [] l h t = absurd (false≢true h)
has-true v (k ∷ c) l h t =
    elim (or_cases (lit_eq k l) (has c l) h) [
      | inl e ↦ or_left (lit_true v k) (clause_true v c) (ap (lit_true v) (same_lit k l e) ∙ t)
      | inr q ↦ or_right (lit_true v k) (clause_true v c) (has-true v c l q t)
    ]

-- a true clause has a true literal
pub true-has : (v : ℕ → Bool) (c : List Lit) → clause_true v c ≡ true → (l : Lit) × (has c l ≡ true) × (lit_true v l ≡ true)
true-has v [] t = absurd (false≢true t)
true-has v (k ∷ c) t =
    elim (or_cases (lit_true v k) (clause_true v c) t) [
      | inl q ↦ (k, or_left (lit_eq k k) (has c k) (lit_eq-refl k), q)
      | inr q ↦ let p = true-has v c q in (p.0, or_right (lit_eq k p.0) (has c p.0) p.1, p.2)
    ]

-- twice negated is the same
pub negation-twice : (l : Lit) → negation (negation l) ≡ l
unfolding lit_of
negation-twice l = ap (λ b. lit_of (var_of l) b) (twice l.positive)
  where
    twice : (b : Bool) → not (not b) ≡ b
    twice true = refl
    twice false = refl

tail-free : (k : Lit) (c : List Lit) (m : Lit) → AllAbove (var_of k) c → lit_eq k m ≡ true → has c m ≡ false
tail-free k c m a e =
    elim (cases_Bool (has c m)) [
      | inl t ↦ absurd (omega (arith, above-has (var_of k) c m a t, ap var_of (same_lit k m e)))
      | inr f ↦ f
    ]

tails-same : (k : Lit) (c d : List Lit) → AllAbove (var_of k) c → AllAbove (var_of k) d → SameLits (k ∷ c) (k ∷ d) → SameLits c d
tails-same k c d a b s m =
    elim (cases_Bool (lit_eq k m)) [
      | inl t ↦ tail-free k c m a t ∙ sym (tail-free k d m b t)
      | inr f ↦ let e = s m in rw f at e
    ]

heads-same : (k l : Lit) (c d : List Lit) → AllAbove (var_of k) c → AllAbove (var_of l) d → SameLits (k ∷ c) (l ∷ d) → k ≡ l
heads-same k l c d a b s =
    elim (or_cases (lit_eq l k) (has d k) (sym (s k) ∙ or_left (lit_eq k k) (has c k) (lit_eq-refl k))) [
      | inl e ↦ sym (same_lit l k e)
      | inr t ↦ elim (or_cases (lit_eq k l) (has c l) (s l ∙ or_left (lit_eq l l) (has d l) (lit_eq-refl l))) [
        | inl e ↦ same_lit k l e
        | inr u ↦ absurd (omega (arith, above-has (var_of l) d k b t, above-has (var_of k) c l a u))
      ]
    ]

-- clauses with the same literals are equal
pub same_clause : (c d : List Lit) → IsClause c → IsClause d → SameLits c d → c ≡ d
same_clause [] [] i j s = refl
same_clause [] (l ∷ d) i j s = absurd (false≢true (s l ∙ or_left (lit_eq l l) (has d l) (lit_eq-refl l)))
same_clause (k ∷ c) [] i j s = absurd (false≢true (sym (s k) ∙ or_left (lit_eq k k) (has c k) (lit_eq-refl k)))
same_clause (k ∷ c) (l ∷ d) i j s =
    let e : k ≡ l = heads-same k l c d i.0 j.0 s in
    let t : SameLits (k ∷ c) (k ∷ d) = subst (λ x. SameLits (k ∷ c) (x ∷ d)) (sym e) s in
    let u : AllAbove (var_of k) d = subst (λ x. AllAbove (var_of x) d) (sym e) j.0 in
    ap (λ x. x ∷ c) e ∙ ap (λ xs. l ∷ xs) (same_clause c d i.1 j.1 (tails-same k c d i.0 u t))
