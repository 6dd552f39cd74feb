-- One gate for some literal of a list, without a plan.
use Rattle.std.proofs.Common.{◌≡◌, ◌+◌, List, [], ◌∷◌, refl, sym, ap, ◌∙◌, subst, arith}
use Rattle.clause_store.specs.declared.Lit.{Lit}
use Rattle.clause_store.specs.Lits.{clause_true, AllBelow}
use Rattle.clause_store.specs.Clauses.{Clauses, with_var}
use Rattle.clause_circuits.specs.Growth.{Extends, DefinesLit}
use Rattle.clause_circuits.specs.Gates.{Partial, AllClausesBelow, IsSound, clauses_from, gate_rules, lit_of, with_defined, with_gate, with_gates}
use Rattle.clause_circuits.specs.Shapes.{any_of}
use Rattle.clause_circuits.specs.Steps.{Shows, plan_at}
use Rattle.clause_circuits.proofs.Plans.{step-below, step-rules-below}
use Rattle.clause_circuits.proofs.StepLaws.{sound_from, lit-gate, here-below}
use Rattle.clause_circuits.proofs.ShapeLaws.{any_of-is}
use Rattle.clause_circuits.proofs.Loops.{stopped}
use Rattle.clause_circuits.proofs.Added.{gate-below}

-- from the clauses that the code made for the next variable
module _ (s : Clauses) (ls : List Lit) (b : AllBelow s.vars ls) (cs : List (List Lit)) (x : Lit)
    (e : cs ≡ clauses_from (gate_rules x (any_of ls))) (h : x ≡ lit_of s.vars) where
  shown : Shows (plan_at s) (with_gate (plan_at s) (any_of ls)) (λ v. clause_true v ls)
  shown = any_of-is (plan_at s) ls (here-below s ls b)

  sound : IsSound (with_gate (plan_at s) (any_of ls)).plan
  sound = sound_from s.vars (with_gate (plan_at s) (any_of ls)).plan shown.step

  same_clauses : cs ≡ clauses_from (gate_rules (lit_of s.vars) (any_of ls))
  same_clauses = e ∙ ap (λ y. clauses_from (gate_rules y (any_of ls))) h

  -- the clauses are over the old variables and the new one
  pub any-below : AllClausesBelow (s.vars + 1) cs
  any-below = subst (AllClausesBelow (s.vars + 1)) (sym same_clauses) (step-below s (any_of ls) [] sound.in_order)

  -- so are the rules that they come from
  pub any-rules-below : (cur : Clauses) → cur ≡ with_var s → AllClausesBelow cur.vars (gate_rules x (any_of ls))
  any-rules-below cur q = gate-below s cur x (any_of ls) q h (step-rules-below s (any_of ls) [] sound.in_order)

  -- where the code stopped on the way, each old assignment still extends
  pub any-stopped : (new : Clauses) → Partial s new cs → Extends s new
  any-stopped new p = stopped (with_gate (plan_at s) (any_of ls)).plan s (any_of ls ∷ []) sound refl refl s new 0 (any_of ls) cs
      (omega arith) refl same_clauses p

  -- the code made the definition's clauses
  pub any-built : (new : Clauses) → new ≡ with_defined s cs → new ≡ with_gates s (any_of ls ∷ [])
  any-built new q = q ∙ ap (with_defined s) same_clauses

  -- and they define the literal
  pub any-gate : (new : Clauses) → new ≡ with_defined s cs → DefinesLit s new x (λ v. clause_true v ls)
  any-gate new q =
      let first : s.vars + 0 ≡ s.vars = omega arith in
      let same : with_gate (plan_at s) (any_of ls) ≡ record { plan = (with_gate (plan_at s) (any_of ls)).plan; answer = x } =
      rw (h, first) refl in
      lit-gate s (λ v. clause_true v ls) (with_gate (plan_at s) (any_of ls)).plan x (with_gate (plan_at s) (any_of ls)) shown same new
      (any-built new q)
