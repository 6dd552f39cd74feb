-- Values of a list of clauses that grows.
use Rattle.std.proofs.Common.{◌≡◌, ℕ, ◌≤◌, Bool, List, [], ◌∷◌, ◌++◌, Option, Some, None, refl, sym, ap, subst, ◌∙◌, arith}
use Rattle.clause_store.specs.declared.Lit.{Lit}
use Rattle.clause_store.specs.Lits.{clause_true, AllBelow}
use Rattle.clause_store.specs.Clauses.{Clauses}
use Rattle.clause_store.proofs.Range.{AllBelow-le}
use Rattle.clause_circuits.specs.Growth.{Grows}
use Rattle.clause_circuits.specs.Gates.{lit_of, clauses_from, gate_rules, with_gates}
use Rattle.clause_circuits.specs.Shapes.{any_of as some_of}
use Rattle.clause_circuits.proofs.Composed.{Defines-refl, MeetsSince-parts}
use Rattle.clause_circuits.proofs.OneGate.{any-gate}
use Rattle.clause_formulas.specs.declared.defined.Defined.{Defined}
use Rattle.clause_formulas.specs.declared.defined.Defined.TheVariants.{Known, By}
use Rattle.clause_formulas.specs.Drafts.{DefinedBelow}
use Rattle.clause_formulas.specs.Gated.{Gate, Gated, gated, gate_of, GatesBelow, Keeps}
use Rattle.clause_formulas.specs.Values.{DefinesValue, MeansIn, DefinesIn}
use Rattle.clause_formulas.specs.Built.{Grown, Shared, or_on, or_in, found_or}
use Rattle.clause_formulas.proofs.GateLaws.{Keeps-refl, GatesBelow-le, GatesBelow-last, Fits-last, found-below, found-true}

pub DefinedBelow-le : (m n : ℕ) (d : Defined) → m ≤ n → DefinedBelow m d → DefinedBelow n d
DefinedBelow-le m n (Known b) h t = tt
DefinedBelow-le m n (By l) h t = omega arith

-- a value keeps its meaning as the list grows
pub MeansIn-later : (a b c : Gated) (d : Defined) (f : (ℕ → Bool) → Bool) → Grows a.list b.list → Grows b.list c.list → MeansIn a b d f
    → MeansIn a c d f
MeansIn-later a b c d f g h m = record {
  below = DefinedBelow-le b.list.vars c.list.vars d h.more m.below;
  value = λ asked v k t. m.value asked v k (MeetsSince-parts asked v a.list b.list c.list g h t).0;
}

-- what means a formula later means it from before
pub MeansIn-earlier : (a b c : Gated) (d : Defined) (f : (ℕ → Bool) → Bool) → Keeps a b → Grows b.list c.list → MeansIn b c d f
    → MeansIn a c d f
MeansIn-earlier a b c d f g h m = record {
  below = m.below;
  value = λ asked v k t.
      let p = MeetsSince-parts asked v a.list b.list c.list g.extends.grows h t in
      m.value asked v (g.fits asked v k p.0) p.1;
}

-- one gate
pub or_is : (s : Clauses) (ls : List Lit) → AllBelow s.vars ls
    → DefinesValue s (or_on s ls).list (By (or_on s ls).answer) (λ v. clause_true v ls)
unfolding or_on
or_is s ls b =
    let g = any-gate s ls b (clauses_from (gate_rules (lit_of s.vars) (some_of ls))) (lit_of s.vars) refl refl
    (with_gates s (some_of ls ∷ [])) refl in
    record { defines = g.defines; means = record { below = g.below; value = g.means } }

-- the code made the definition's gate
pub or-built : (s t : Clauses) (ls : List Lit) (l : Lit) → l ≡ lit_of s.vars → t ≡ with_gates s (some_of ls ∷ [])
    → or_on s ls ≡ record { list = t; answer = l }
unfolding or_on
or-built s t ls l e f = rw (e, f) refl

-- a gate that was made, or a new one
module _ (s : Gated) (ls : List Lit) (b : AllBelow s.list.vars ls) (k : GatesBelow s.list.vars s.gates) where
  found_is : (l : Lit) → gate_of s.gates ls ≡ Some l → DefinesIn s s (By l) (λ v. clause_true v ls)
  found_is l e = record {
    defines = Defines-refl s.list;
    keeps = Keeps-refl s k;
    means = record { below = found-below s.list.vars s.gates ls l k e; value = λ asked v f m. found-true v s.gates ls l f e };
  }

  new_is : (t : Clauses) (l : Lit) → DefinesValue s.list t (By l) (λ v. clause_true v ls)
      → DefinesIn s (gated t (s.gates ++ (ls, l) ∷ [])) (By l) (λ v. clause_true v ls)
  new_is t l d = let more = d.defines.says.grows.more in record {
    defines = d.defines;
    keeps = record {
      extends = d.defines.says;
      below = GatesBelow-last t.vars s.gates ls l (GatesBelow-le s.list.vars t.vars s.gates more k)
          (AllBelow-le s.list.vars t.vars ls more b)
          d.means.below;
      fits = λ asked v f m. Fits-last v s.gates ls l f (d.means.value asked v m);
    };
    means = record { below = d.means.below; value = λ asked v f m. d.means.value asked v m };
  }

  found_or_is : (o : Option Lit) → gate_of s.gates ls ≡ o
      → DefinesIn s (found_or s ls o).state (By (found_or s ls o).answer) (λ v. clause_true v ls)
  found_or_is (Some l) e = found_is l e
  found_or_is None e = new_is (or_on s.list ls).list (or_on s.list ls).answer (or_is s.list ls b)

  -- a gate means that some literal is true
  pub or_in_is : DefinesIn s (or_in s ls).state (By (or_in s ls).answer) (λ v. clause_true v ls)
  unfolding or_in
  or_in_is = found_or_is (gate_of s.gates ls) refl

-- the call, step by step
pub or-found : (s : Gated) (ls : List Lit) (l : Lit) → Some l ≡ gate_of s.gates ls → or_in s ls ≡ record { state = s; answer = l }
unfolding or_in
or-found s ls l e = ap (found_or s ls) (sym e)

-- a gate that was not found is made
pub or-new : (s : Gated) (t : Clauses) (gs : List Gate) (ls : List Lit) (l : Lit) → None ≡ gate_of s.gates ls
    → or_on s.list ls ≡ record { list = t; answer = l } → gs ≡ s.gates ++ (ls, l) ∷ []
    → or_in s ls ≡ record { state = gated t gs; answer = l }
unfolding or_in
or-new s t gs ls l e f g =
    ap (found_or s ls) (sym e)
    ∙ ap (λ (m : Grown Lit). let made : Shared Lit = record { state = gated m.list (s.gates ++ (ls, m.answer) ∷ []); answer = m.answer } in
    made) f
    ∙ ap (λ hs. let made : Shared Lit = record { state = gated t hs; answer = l } in made) (sym g)

-- gates that were made stay
pub or_in-keeps : (s t : Gated) (ls : List Lit) (l : Lit) → AllBelow s.list.vars ls → GatesBelow s.list.vars s.gates
    → or_in s ls ≡ record { state = t; answer = l } → Keeps s t
or_in-keeps s t ls l b k e = let P : Shared Lit → Type 0 = λ m. Keeps s m.state in subst P e (or_in_is s ls b k).keeps
