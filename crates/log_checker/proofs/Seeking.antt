-- A walk through the bucket of a clause.
use Prim.Native.Nat.{zero, suc}
use Rattle.std.proofs.Common.{◌≡◌, ℕ, ◌<◌, ◌≤◌, Bool, true, false, not, ◌&&◌, ◌||◌, List, [], ◌∷◌, length, get_or, Option, Some, None, refl, sym, ap, ◌∙◌, subst, arith, inl, inr}
use Rattle.std.specs.Prelude.{slice_get, if◌then◌else◌}
use Rattle.std.proofs.lemmas.Bool.Decides.{eqb_tells, leb_tells}
use Rattle.std.proofs.Math.Bool.{or-true}
use Rattle.std.proofs.lemmas.Option.{same_Some, none-some}
use Rattle.clause_store.specs.declared.Lit.{Lit}
use Rattle.log_checker.specs.declared.known.Known.{Known}
use Rattle.log_checker.specs.Known.{rivals_in}
use Rattle.log_checker.specs.Steps.{same_lits, is_among}
use Rattle.log_checker.specs.Links.{slot_of, IsLast, AreLinked}
use Rattle.log_checker.proofs.Places.{same_lits-is}
use Rattle.log_checker.proofs.Links.{slot-within}

-- whether a clause is at a place and no bit's
abbrev pub is_rival : List Lit → Option Known → Bool
is_rival c None = false
is_rival c (Some k) = not k.by_bit && same_lits k.clause c

not-rival : (h : List Lit → ℕ) (c : List Lit) (o : Option Known) → (slot_of h o ≡ Some (h c) → ⊥) → is_rival c o ≡ false
not-rival h c None d = refl
not-rival h c (Some k) d = by k.by_bit (same_lits k.clause c) refl d
  where
    by : (t s : Bool) → same_lits k.clause c ≡ s → ((if t then None else Some (h k.clause)) ≡ Some (h c) → ⊥) → (not t && s) ≡ false
    by true s e d = refl
    by false false e d = refl
    by false true e d = absurd (d (ap (λ x. Some (h x)) (same_lits-is k.clause c e)))

among-none : (ks : List Known) (c : List Lit) → ((q : ℕ) → is_rival c (slice_get ks q) ≡ false) → is_among (rivals_in ks) c ≡ false
among-none [] c f = refl
among-none (k ∷ ks) c f = by k.by_bit (f zero) (among-none ks c (λ q. f (suc q)))
  where
    by : (t : Bool) → (not t && same_lits k.clause c) ≡ false → is_among (rivals_in ks) c ≡ false
        → is_among (if t then rivals_in ks else k.clause ∷ rivals_in ks) c ≡ false
    by true e ih = ih
    by false e ih = ap (λ s. s || is_among (rivals_in ks) c) e ∙ ih

among-head : (k : Known) (ks : List Known) (c : List Lit) → k.by_bit ≡ false → same_lits k.clause c ≡ true
    → is_among (rivals_in (k ∷ ks)) c ≡ true
among-head k ks c n s = ap (λ t. is_among (if t then rivals_in ks else k.clause ∷ rivals_in ks) c) n
    ∙ ap (λ t. t || is_among (rivals_in ks) c) s

among-some : (ks : List Known) (c : List Lit) (p : ℕ) (k : Known) → slice_get ks p ≡ Some k → k.by_bit ≡ false
    → same_lits k.clause c ≡ true → is_among (rivals_in ks) c ≡ true
among-some [] c p k e n s = absurd (none-some k e)
among-some (j ∷ ks) c zero k e n s = subst (λ x. is_among (rivals_in (x ∷ ks)) c ≡ true) (sym (same_Some j k e)) (among-head k ks c n s)
among-some (j ∷ ks) c (suc p) k e n s = by j.by_bit (among-some ks c p k e n s)
  where
    by : (t : Bool) → is_among (rivals_in ks) c ≡ true → is_among (if t then rivals_in ks else j.clause ∷ rivals_in ks) c ≡ true
    by true ih = ih
    by false ih = ap (λ t. same_lits j.clause c || t) ih ∙ or-true (same_lits j.clause c)

-- a walk through the bucket of a clause: below `at` is the next place, and from there on is no rival
abbrev pub Seeks : (List Lit → ℕ) → List Known → List Lit → ℕ → Type 0
Seeks h ks c at = (at ≤ length ks) × ((p : ℕ) → at ≡ suc p → slot_of h (slice_get ks p) ≡ Some (h c))
    × ((q : ℕ) → at ≤ q → is_rival c (slice_get ks q) ≡ false)

pub seeks-first : (h : List Lit → ℕ) (heads links : List ℕ) (ks : List Known) (c : List Lit) (b at : ℕ) → AreLinked h heads links ks
    → b ≡ h c → b < length heads → at ≡ get_or heads b 0 → Seeks h ks c at
seeks-first h heads links ks c b at a e w g =
    let l : IsLast h ks (h c) (length ks) at = subst (λ n. IsLast h ks n (length ks) at) e
    (subst (IsLast h ks b (length ks)) (sym g) (a.0 b w)) in
    (l.0, l.1, (λ q lo. not-rival h c (slice_get ks q) (λ s. l.2 q lo (slot-within h ks q (h c) s) s)))

-- the next place of the bucket
pub seeks-before : (h : List Lit → ℕ) (heads links : List ℕ) (ks : List Known) (c : List Lit) (at p : ℕ) → AreLinked h heads links ks
    → Seeks h ks c at → at ≡ suc p → get_or links p 0 ≤ p
seeks-before h heads links ks c at p a s e = (a.2 p (h c) (s.1 p e)).0

pub seeks-next : (h : List Lit → ℕ) (heads links : List ℕ) (ks : List Known) (c : List Lit) (at p next : ℕ) (k : Known)
    → AreLinked h heads links ks → Seeks h ks c at → at ≡ suc p → slice_get ks p ≡ Some k → same_lits k.clause c ≡ false
    → next ≡ get_or links p 0 → Seeks h ks c next
seeks-next h heads links ks c at p next k a s e g d n = (omega (arith, l.0, s.0, e), l.1, none)
  where
    l : IsLast h ks (h c) p next
    l = subst (IsLast h ks (h c) p) (sym n) (a.2 p (h c) (s.1 p e))

    and-false : (t : Bool) → (t && false) ≡ false
    and-false true = refl
    and-false false = refl

    here : is_rival c (slice_get ks p) ≡ false
    here = ap (is_rival c) g ∙ ap (λ t. not k.by_bit && t) d ∙ and-false (not k.by_bit)

    none : (q : ℕ) → next ≤ q → is_rival c (slice_get ks q) ≡ false
    none q lo = elim (eqb_tells p q) [
      | inl w ↦ subst (λ n. is_rival c (slice_get ks n) ≡ false) w.1 here
      | inr w ↦ elim (leb_tells p q) [
        | inl v ↦ s.2 q (omega (arith, e, v.1, w.1))
        | inr v ↦ not-rival h c (slice_get ks q) (λ t. l.2 q lo v.1 t)
      ]
    ]

pub seeks-found : (h : List Lit → ℕ) (ks : List Known) (c : List Lit) (at p : ℕ) (k : Known) → Seeks h ks c at → at ≡ suc p
    → slice_get ks p ≡ Some k → same_lits k.clause c ≡ true → is_among (rivals_in ks) c ≡ true
seeks-found h ks c at p k s e g d = among-some ks c p k g (own k.by_bit refl (sym (ap (slot_of h) g) ∙ s.1 p e)) d
  where
    own : (t : Bool) → k.by_bit ≡ t → (if t then None else Some (h k.clause)) ≡ Some (h c) → t ≡ false
    own true q r = absurd (none-some (h c) r)
    own false q r = refl

pub seeks-none : (h : List Lit → ℕ) (ks : List Known) (c : List Lit) (at : ℕ) → Seeks h ks c at → at ≤ 0 → is_among (rivals_in ks) c ≡ false
seeks-none h ks c at s e = among-none ks c (λ q. s.2 q (omega (arith, e)))
