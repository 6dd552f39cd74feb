-- Clauses as signs of variables: resolution and containment.
use Rattle.std.proofs.Common.{◌≡◌, ◌≢◌, ◌⊎◌, ℕ, ◌<◌, ◌≤◌, Bool, true, false, List, [], ◌∷◌, Option, Some, None, inl, inr, refl, sym, ◌∙◌, subst, ap, arith}
use Rattle.std.specs.Prelude.{not, ◌&&◌, ◌||◌, eqb, if◌then◌else◌}
use Rattle.std.specs.Bool.{beq}
use Rattle.std.proofs.lemmas.Bool.{false≢true, or_cases, or_left, or_right, cases_Bool}
use Rattle.std.proofs.lemmas.Bool.Decides.{eqb_tells}
use Rattle.std.proofs.lemmas.Option.{none-some}
use Rattle.clause_store.specs.declared.Lit.{Lit}
use Rattle.clause_store.specs.Lits.{var_of, negation, has, lit_eq, contained, IsClause, AllAbove}
use Rattle.proof_log.specs.Derivations.{Clashes, IsResolvent}
use Rattle.proof_log.specs.Resolution.{Resolved, no_pivot, two_pivots, result, resolved}
use Rattle.clause_store.proofs.Sets.{negation-twice, one_sign, same_lit, lit_eq-refl}
use Rattle.proof_log.proofs.Chains.{contained-has, has-contained}
use Rattle.proof_log.proofs.Counting.{lit}
use Rattle.proof_log.proofs.Resolvents.{resolved-result, resolved-no_pivot, resolved-two_pivots}
use Rattle.log_checker.specs.Steps.{is_bit_value}
use Rattle.log_checker.specs.Signs.{sign_in, with_sign, opposed, clashes, overlay, strip}
use Rattle.log_checker.proofs.Values.{value-is, is-value, beq-refl}

-- signs and literals
not-above : (n : ℕ) (ls : List Lit) (x : ℕ) → AllAbove n ls → x ≤ n → sign_in ls x ≡ None
not-above n [] x a h = refl
not-above n (l ∷ ls) x a h = elim (eqb_tells (var_of l) x) [
  | inl q ↦ absurd (omega (arith, q.1, a.0, h))
  | inr q ↦ ap (λ b. if b then Some l.positive else sign_in ls x) q.0 ∙ not-above n ls x a.1 h
]

pub sign-has : (a : List Lit) (l : Lit) → IsClause a → has a l ≡ is_bit_value (sign_in a (var_of l)) l.positive
sign-has [] l i = refl
sign-has (k ∷ ks) l i = elim (eqb_tells (var_of k) (var_of l)) [
  | inl q ↦ ap (λ b. (b && beq k.positive l.positive) || has ks l) q.0
      ∙ ap (λ b. beq k.positive l.positive || b)
      (sign-has ks l i.1 ∙ ap (λ o. is_bit_value o l.positive) (not-above (var_of k) ks (var_of l) i.0 (omega (arith, q.1))))
      ∙ or-false (beq k.positive l.positive)
      ∙ sym (ap (λ b. is_bit_value (if b then Some k.positive else sign_in ks (var_of l)) l.positive) q.0)
  | inr q ↦ ap (λ b. (b && beq k.positive l.positive) || has ks l) q.0 ∙ sign-has ks l i.1
      ∙ sym (ap (λ b. is_bit_value (if b then Some k.positive else sign_in ks (var_of l)) l.positive) q.0)
]
  where
    or-false : (b : Bool) → (b || false) ≡ b
    or-false true = refl
    or-false false = refl

abbrev pub over : Option Bool → Option Bool → Option Bool
over None o = o
over (Some v) o = Some v

pub overlay-sign : (ls : List Lit) (f : ℕ → Option Bool) (x : ℕ) → IsClause ls → overlay ls f x ≡ over (sign_in ls x) (f x)
overlay-sign [] f x i = refl
overlay-sign (l ∷ ls) f x i = overlay-sign ls (with_sign f (var_of l) (Some l.positive)) x i.1 ∙ elim (eqb_tells (var_of l) x) [
  | inl q ↦ ap (λ o. over o (if eqb (var_of l) x then Some l.positive else f x)) (not-above (var_of l) ls x i.0 (omega (arith, q.1)))
      ∙ ap (λ b. if b then Some l.positive else f x) q.0 ∙ sym (ap (λ b. over (if b then Some l.positive else sign_in ls x) (f x)) q.0)
  | inr q ↦ ap (λ b. over (sign_in ls x) (if b then Some l.positive else f x)) q.0
      ∙ sym (ap (λ b. over (if b then Some l.positive else sign_in ls x) (f x)) q.0)
]

same-signs : (o p : Option Bool) → ((v : Bool) → is_bit_value o v ≡ is_bit_value p v) → o ≡ p
same-signs None None e = refl
same-signs None (Some w) e = absurd (false≢true (e w ∙ beq-refl w))
same-signs (Some v) p e = sym (value-is p v (sym (e v) ∙ beq-refl v))

pub same-bools : (x y : Bool) → (x ≡ true → y ≡ true) → (y ≡ true → x ≡ true) → x ≡ y
same-bools true y f g = sym (f refl)
same-bools false true f g = g refl
same-bools false false f g = refl

-- what clashes
abbrev pub AreSigns : (ℕ → Option Bool) → List Lit → Type 0
AreSigns f a = (x : ℕ) → f x ≡ sign_in a x

opposed-is : (f : ℕ → Option Bool) (a : List Lit) (l : Lit) → IsClause a → AreSigns f a → opposed f l ≡ has a (negation l)
opposed-is f a l i e = ap (λ o. is_bit_value o (not l.positive)) (e (var_of l)) ∙ sym (sign-has a (negation l) i)

clash-has : (f : ℕ → Option Bool) (a b : List Lit) (l : Lit) → IsClause a → AreSigns f a → has b l ≡ true → has a (negation l) ≡ true
    → has (clashes f b) l ≡ true
clash-has f a [] l i e h k = h
clash-has f a (m ∷ b) l i e h k = go (opposed f m) refl (λ g. clash-has f a b l i e g k)
  where
    go : (t : Bool) → opposed f m ≡ t → (has b l ≡ true → has (clashes f b) l ≡ true)
        → has (if t then m ∷ clashes f b else clashes f b) l ≡ true
    go true q ih = elim (or_cases (lit_eq m l) (has b l) h) [
      | inl p ↦ or_left (lit_eq m l) (has (clashes f b) l) p
      | inr p ↦ or_right
          (lit_eq m l) (has (clashes f b) l) (ih p)
    ]
    go false q ih = elim (or_cases (lit_eq m l) (has b l) h) [
      | inl p ↦ absurd (false≢true (sym q ∙ opposed-is f a m i e ∙ subst (λ z. has a (negation z) ≡ true) (sym (same_lit m l p)) k))
      | inr p ↦ ih p
    ]

has-clash : (f : ℕ → Option Bool) (a b : List Lit) (l : Lit) → IsClause a → AreSigns f a → has (clashes f b) l ≡ true → (has b l ≡ true)
    × (has a (negation l) ≡ true)
has-clash f a [] l i e h = absurd (false≢true h)
has-clash f a (m ∷ b) l i e h = go (opposed f m) refl (λ g. has-clash f a b l i e g) h
  where
    go : (t : Bool) → opposed f m ≡ t → (has (clashes f b) l ≡ true → (has b l ≡ true) × (has a (negation l) ≡ true))
        → has (if t then m ∷ clashes f b else clashes f b) l ≡ true → (has (m ∷ b) l ≡ true) × (has a (negation l) ≡ true)
    go true q ih g = elim (or_cases (lit_eq m l) (has (clashes f b) l) g) [
      | inl p ↦ (or_left (lit_eq m l) (has b l) p, subst (λ z. has a (negation z) ≡ true) (same_lit m l p) (sym (opposed-is f a m i e) ∙ q))
      | inr p ↦ let r = ih p in (or_right (lit_eq m l) (has b l) r.0, r.1)
    ]
    go false q ih g = let r = ih g in (or_right (lit_eq m l) (has b l) r.0, r.1)

clashes-above : (n : ℕ) (f : ℕ → Option Bool) (b : List Lit) → AllAbove n b → AllAbove n (clashes f b)
clashes-above n f [] h = tt
clashes-above n f (l ∷ b) h = go (opposed f l) (clashes-above n f b h.1)
  where
    go : (t : Bool) → AllAbove n (clashes f b) → AllAbove n (if t then l ∷ clashes f b else clashes f b)
    go true ih = (h.0, ih)
    go false ih = ih

pub clashes-clause : (f : ℕ → Option Bool) (b : List Lit) → IsClause b → IsClause (clashes f b)
clashes-clause f [] i = tt
clashes-clause f (l ∷ b) i = go (opposed f l) (clashes-clause f b i.1)
  where
    go : (t : Bool) → IsClause (clashes f b) → IsClause (if t then l ∷ clashes f b else clashes f b)
    go true ih = (clashes-above (var_of l) f b i.0, ih)
    go false ih = ih

-- the clash of a resolvent stands among the clashes
listed : (f : ℕ → Option Bool) (a b : List Lit) (l : Lit) → IsClause a → AreSigns f a → Clashes a b l
    → has (clashes f b) (negation l) ≡ true
listed f a b l i e c = clash-has f a b (negation l) i e c.1 (subst (λ z. has a z ≡ true) (sym (negation-twice l)) c.0)

unlisted : (f : ℕ → Option Bool) (a b : List Lit) (l : Lit) → IsClause a → AreSigns f a → has (clashes f b) l ≡ true
    → Clashes a b (negation l)
unlisted f a b l i e h = let r = has-clash f a b l i e h in (r.1, subst (λ z. has b z ≡ true) (sym (negation-twice l)) r.0)

same-lit : (c : List Lit) → IsClause c → (l m : Lit) → has c l ≡ true → has c m ≡ true → var_of l ≡ var_of m → l ≡ m
same-lit c i l m h k e = one_sign c l m i h k e

pub resolved-none : (f : ℕ → Option Bool) (a b : List Lit) → IsClause a → IsClause b → AreSigns f a → clashes f b ≡ []
    → resolved a b ≡ no_pivot
resolved-none f a b i j e n = go (resolved a b) refl
  where
    empty : (l : Lit) → Clashes a b l → ⊥
    empty l c = false≢true (subst (λ z. has z (negation l) ≡ true) n (listed f a b l i e c))

    go : (r : Resolved) → resolved a b ≡ r → resolved a b ≡ no_pivot
    go no_pivot q = q
    go two_pivots q = let t = resolved-two_pivots a b (same-lit b j) q in absurd (empty t.0 t.2)
    go (result r) q = let t = resolved-result a b r i j q in absurd (empty t.0 t.1.clash)

pub resolved-two : (f : ℕ → Option Bool) (a b : List Lit) (l m : Lit) (ms : List Lit) → IsClause a → IsClause b → AreSigns f a
    → clashes f b ≡ l ∷ m ∷ ms → resolved a b ≡ two_pivots
resolved-two f a b l m ms i j e n = go (resolved a b) refl
  where
    first : Clashes a b (negation l)
    first = unlisted f a b l i e (subst (λ z. has z l ≡ true) (sym n) (or_left (lit_eq l l) (has (m ∷ ms) l) (lit_eq-refl l)))

    second : Clashes a b (negation m)
    second = unlisted f a b m i e (subst (λ z. has z m ≡ true) (sym n)
        (or_right (lit_eq l m) (has (m ∷ ms) m) (or_left (lit_eq m m) (has ms m) (lit_eq-refl m))))

    below : var_of l < var_of m
    below = (subst IsClause n (clashes-clause f b j)).0.0

    go : (r : Resolved) → resolved a b ≡ r → resolved a b ≡ two_pivots
    go no_pivot q = absurd (resolved-no_pivot a b q (negation l) first)
    go two_pivots q = q
    go (result r) q =
        let t = resolved-result a b r i j q in
        let x : var_of l ≡ var_of t.0 = t.1.only (negation l) first in
        let y : var_of m ≡ var_of t.0 = t.1.only (negation m) second in
        absurd (omega (arith, below, x, y))

pub resolved-one : (f : ℕ → Option Bool) (a b : List Lit) (l : Lit) → IsClause a → IsClause b → AreSigns f a → clashes f b ≡ l ∷ []
    → (r : List Lit) × (resolved a b ≡ result r) × IsClause r
    × AreSigns (λ x. if eqb (var_of l) x then None else over (sign_in b x) (f x)) r
resolved-one f a b l i j e n = go (resolved a b) refl
  where
    clash : Clashes a b (negation l)
    clash = unlisted f a b l i e (subst (λ z. has z l ≡ true) (sym n) (or_left (lit_eq l l) false (lit_eq-refl l)))

    only : (m : Lit) → Clashes a b m → var_of m ≡ var_of l
    only m c = elim (or_cases (lit_eq l (negation m)) false (subst (λ z. has z (negation m) ≡ true) n (listed f a b m i e c))) [
      | inl p ↦ sym (ap var_of (same_lit l (negation m) p))
      | inr p ↦ absurd (false≢true p)
    ]

    go : (r : Resolved) → resolved a b ≡ r → (r : List Lit) × (resolved a b ≡ result r) × IsClause r
        × AreSigns (λ x. if eqb (var_of l) x then None else over (sign_in b x) (f x)) r
    go no_pivot q = absurd (resolved-no_pivot a b q (negation l) clash)
    go two_pivots q = let t = resolved-two_pivots a b (same-lit b j) q in absurd (t.4 (only t.0 t.2 ∙ sym (only t.1 t.3)))
    go (result r) q = let t = resolved-result a b r i j q in (
      r,
      q,
      t.2,
      (λ x. sym (same-signs (sign_in r x) (if eqb (var_of l) x then None else over (sign_in b x) (f x))
          (each t.0 t.1 t.2 x))),
    )
      where
        each : (p : Lit) → IsResolvent a b r p → IsClause r → (x : ℕ) (v : Bool)
            → is_bit_value (sign_in r x) v ≡ is_bit_value (if eqb (var_of l) x then None else over (sign_in b x) (f x)) v
        each p d k x v = sym (sign-has r (lit x v) k) ∙ elim (eqb_tells (var_of l) x) [
          | inl h ↦ none (has r (lit x v)) refl h.1 ∙ sym (ap (λ t. is_bit_value (if t then None else over (sign_in b x) (f x)) v) h.0)
          | inr h ↦ same-bools (has r (lit x v)) (is_bit_value (over (sign_in b x) (f x)) v) (to h.1) (from h.1)
              ∙ sym (ap (λ t. is_bit_value (if t then None else over (sign_in b x) (f x)) v) h.0)
        ]
          where
            pivot : var_of l ≡ var_of p
            pivot = d.only (negation l) clash

            none : (t : Bool) → has r (lit x v) ≡ t → var_of l ≡ x → has r (lit x v) ≡ false
            none true g h = absurd (((d.union (lit x v)).0 g).1 (sym h ∙ pivot))
            none false g h = g

            to : var_of l ≢ x → has r (lit x v) ≡ true → is_bit_value (over (sign_in b x) (f x)) v ≡ true
            to h g = let u = (d.union (lit x v)).0 g in by (sign_in b x) refl u.0
              where
                by : (o : Option Bool) → sign_in b x ≡ o → ((has a (lit x v) ≡ true) ⊎ (has b (lit x v) ≡ true))
                    → is_bit_value (over o (f x)) v ≡ true
                by None s (inl y) = ap (λ o. is_bit_value o v) (e x) ∙ sym (sign-has a (lit x v) i) ∙ y
                by None s (inr y) = absurd (false≢true (sym (sign-has b (lit x v) j ∙ ap (λ o. is_bit_value o v) s) ∙ y))
                by (Some w) s (inl y) = elim (cases_Bool (beq w v)) [
                  | inl t ↦ t
                  | inr t ↦ absurd (h (sym (only (lit x v)
                      (y, sign-has b (negation (lit x v)) j ∙ ap (λ o. is_bit_value o (not v)) s ∙ flip w v t))))
                ]
                  where
                    flip : (w v : Bool) → beq w v ≡ false → beq w (not v) ≡ true
                    flip true true q = sym q
                    flip true false q = refl
                    flip false true q = refl
                    flip false false q = sym q
                by (Some w) s (inr y) = sym (sign-has b (lit x v) j ∙ ap (λ o. is_bit_value o v) s) ∙ y

            from : var_of l ≢ x → is_bit_value (over (sign_in b x) (f x)) v ≡ true → has r (lit x v) ≡ true
            from h g = (d.union (lit x v)).1 (by (sign_in b x) refl g, (λ y. h (pivot ∙ sym y)))
              where
                by : (o : Option Bool) → sign_in b x ≡ o → is_bit_value (over o (f x)) v ≡ true
                    → (has a (lit x v) ≡ true) ⊎ (has b (lit x v) ≡ true)
                by None s y = inl (sign-has a (lit x v) i ∙ ap (λ o. is_bit_value o v) (sym (e x)) ∙ y)
                by (Some w) s y = inr (sign-has b (lit x v) j ∙ ap (λ o. is_bit_value o v) s ∙ y)

-- containment
abbrev pub gone : Option Bool → List Lit → ℕ → Option Bool
gone None ls x = None
gone (Some v) ls x = if has ls (lit x v) then None else Some v

strip-gone : (ls : List Lit) (f : ℕ → Option Bool) (x : ℕ) → strip ls f x ≡ gone (f x) ls x
strip-gone [] f x = none (f x)
  where
    none : (o : Option Bool) → o ≡ gone o [] x
    none None = refl
    none (Some v) = refl
strip-gone (l ∷ ls) f x = strip-gone ls (λ y. if eqb (var_of l) y && is_bit_value (f y) l.positive then None else f y) x ∙ by (f x)
  where
    none : (t : Bool) → gone (if t && false then None else None) ls x ≡ None
    none true = refl
    none false = refl

    sign : (v p : Bool) → gone (if beq v p then None else Some v) ls x ≡ (if beq p v || has ls (lit x v) then None else Some v)
    sign true true = refl
    sign true false = refl
    sign false true = refl
    sign false false = refl

    some : (v t : Bool) → gone (if t && beq v l.positive then None else Some v) ls x ≡
        (if (t && beq l.positive v) || has ls (lit x v) then None else Some v)
    some v true = sign v l.positive
    some v false = refl

    by : (o : Option Bool) → gone (if eqb (var_of l) x && is_bit_value o l.positive then None else o) ls x ≡ gone o (l ∷ ls) x
    by None = none (eqb (var_of l) x)
    by (Some v) = some v (eqb (var_of l) x)

pub stripped-contained : (f : ℕ → Option Bool) (a stated : List Lit) → IsClause a → AreSigns f a → ((x : ℕ) → strip stated f x ≡ None)
    → contained a stated ≡ true
stripped-contained f a stated i e h =
    has-contained a stated (λ l k. by l (value-is (sign_in a (var_of l)) l.positive (sym (sign-has a l i) ∙ k)))
  where
    by : (l : Lit) → sign_in a (var_of l) ≡ Some l.positive → has stated l ≡ true
    by l s = yet (has stated l) refl
        (ap (λ o. gone o stated (var_of l)) (sym s ∙ sym (e (var_of l))) ∙ sym (strip-gone stated f (var_of l)) ∙ h (var_of l))
      where
        yet : (t : Bool) → has stated l ≡ t → (if has stated l then None else Some l.positive) ≡ None → has stated l ≡ true
        yet true q g = q
        yet false q g = absurd (none-some l.positive (sym (ap (λ t. if t then None else Some l.positive) (sym q) ∙ g)))

pub contained-stripped : (f : ℕ → Option Bool) (a stated : List Lit) → IsClause a → AreSigns f a → contained a stated ≡ true → (x : ℕ)
    → strip stated f x ≡ None
contained-stripped f a stated i e h x = strip-gone stated f x ∙ ap (λ o. gone o stated x) (e x) ∙ by (sign_in a x) refl
  where
    by : (o : Option Bool) → sign_in a x ≡ o → gone o stated x ≡ None
    by None s = refl
    by (Some v) s = ap (λ t. if t then None else Some v)
        (contained-has a stated h (lit x v) (sign-has a (lit x v) i ∙ is-value (sign_in a x) v s))
