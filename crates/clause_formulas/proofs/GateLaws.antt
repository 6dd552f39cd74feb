-- Gates that were made.
use Rattle.std.proofs.Common.{◌≡◌, ℕ, ◌<◌, ◌≤◌, Bool, true, false, cond, List, [], ◌∷◌, ◌++◌, Some, refl, sym, ap, subst, ◌∙◌, arith}
use Rattle.std.specs.Cmp.Lexicographic.{pointwise, pointwise_decides}
use Rattle.std.proofs.lemmas.Option.{same_Some, none-some}
use Rattle.clause_store.specs.declared.Lit.{Lit}
use Rattle.clause_store.specs.Lits.{var_of, lit_eq, lit_true, clause_true, AllBelow}
use Rattle.clause_store.specs.Clauses.{Clauses}
use Rattle.clause_store.proofs.Range.{AllBelow-le}
use Rattle.clause_store.proofs.Sets.{same_lit, lit_eq-refl}
use Rattle.clause_circuits.specs.Growth.{Agree, Extends}
use Rattle.clause_circuits.proofs.Composed.{lit_true-agree, clause_true-agree, Extends-refl, Extends-trans, MeetsSince-parts}
use Rattle.clause_formulas.specs.Gated.{Gate, Gated, gated, gate_of, Fits, GatesBelow, Keeps}

-- ---- what fits

-- that gates have their values rests on their variables alone
pub Fits-agree : (n : ℕ) (v w : ℕ → Bool) → Agree n v w → (gs : List Gate) → GatesBelow n gs → Fits v gs → Fits w gs
Fits-agree n v w a [] b f = tt
Fits-agree n v w a (g ∷ gs) b f = (
  sym (lit_true-agree n v w a g.1 b.0.1) ∙ f.0 ∙ clause_true-agree n v w a g.0 b.0.0,
  Fits-agree n v w a gs b.1 f.1,
)

pub GatesBelow-le : (m n : ℕ) (gs : List Gate) → m ≤ n → GatesBelow m gs → GatesBelow n gs
GatesBelow-le m n [] h b = tt
GatesBelow-le m n (g ∷ gs) h b = ((AllBelow-le m n g.0 h b.0.0, omega (arith, h, b.0.1)), GatesBelow-le m n gs h b.1)

-- one more gate
pub GatesBelow-last : (n : ℕ) (gs : List Gate) (ls : List Lit) (l : Lit) → GatesBelow n gs → AllBelow n ls → var_of l < n
    → GatesBelow n (gs ++ (ls, l) ∷ [])
GatesBelow-last n [] ls l b a h = ((a, h), tt)
GatesBelow-last n (g ∷ gs) ls l b a h = (b.0, GatesBelow-last n gs ls l b.1 a h)

-- one more gate with its value
pub Fits-last : (v : ℕ → Bool) (gs : List Gate) (ls : List Lit) (l : Lit) → Fits v gs → lit_true v l ≡ clause_true v ls
    → Fits v (gs ++ (ls, l) ∷ [])
Fits-last v [] ls l f e = (e, tt)
Fits-last v (g ∷ gs) ls l f e = (f.0, Fits-last v gs ls l f.1 e)

-- ---- what is found

-- literals that are equal by their test are equal
pub lit-decides : (x y : Lit) → (lit_eq x y ≡ true → x ≡ y) × (x ≡ y → lit_eq x y ≡ true)
lit-decides x y = (same_lit x y, λ e. subst (λ z. lit_eq x z ≡ true) e (lit_eq-refl x))

pub found-below : (n : ℕ) (gs : List Gate) (ls : List Lit) (l : Lit) → GatesBelow n gs → gate_of gs ls ≡ Some l → var_of l < n
found-below n [] ls l b e = absurd (none-some l e)
found-below n (g ∷ gs) ls l b e = by-bool (pointwise lit_eq ls g.0) e (found-below n gs ls l b.1)
  where
    by-bool : (q : Bool) → cond q (Some g.1) (gate_of gs ls) ≡ Some l → (gate_of gs ls ≡ Some l → var_of l < n) → var_of l < n
    by-bool true e later = subst (λ k. var_of k < n) (same_Some g.1 l e) b.0.1
    by-bool false e later = later e

-- a gate that is found means its literals
pub found-true : (v : ℕ → Bool) (gs : List Gate) (ls : List Lit) (l : Lit) → Fits v gs → gate_of gs ls ≡ Some l
    → lit_true v l ≡ clause_true v ls
found-true v [] ls l f e = absurd (none-some l e)
found-true v (g ∷ gs) ls l f e = by-bool (pointwise lit_eq ls g.0) refl e (found-true v gs ls l f.1)
  where
    by-bool : (q : Bool) → pointwise lit_eq ls g.0 ≡ q → cond q (Some g.1) (gate_of gs ls) ≡ Some l
        → (gate_of gs ls ≡ Some l → lit_true v l ≡ clause_true v ls) → lit_true v l ≡ clause_true v ls
    by-bool true same e later = ap (lit_true v) (sym (same_Some g.1 l e)) ∙ f.0
        ∙ ap (clause_true v) (sym ((pointwise_decides lit-decides ls g.0).0 same))
    by-bool false same e later = later e

-- ---- a list with its gates, step after step

pub Keeps-refl : (s : Gated) → GatesBelow s.list.vars s.gates → Keeps s s
Keeps-refl s b = record { extends = Extends-refl s.list; below = b; fits = λ asked v f m. f }

pub Keeps-trans : (a b c : Gated) → Keeps a b → Keeps b c → Keeps a c
Keeps-trans a b c d e = record {
  extends = Extends-trans a.list b.list c.list d.extends e.extends;
  below = e.below;
  fits = λ asked v f m.
      let p = MeetsSince-parts asked v a.list b.list c.list d.extends.grows e.extends.grows m in
      e.fits asked v (d.fits asked v f p.0) p.1;
}

-- more clauses, and the same gates
pub Keeps-extends : (s t : Clauses) (gs : List Gate) → GatesBelow s.vars gs → Extends s t → Keeps (gated s gs) (gated t gs)
Keeps-extends s t gs b d = record { extends = d; below = GatesBelow-le s.vars t.vars gs d.grows.more b; fits = λ asked v f m. f }
