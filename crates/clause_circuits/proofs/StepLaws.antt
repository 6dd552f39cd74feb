-- Plans go on step by step.
use Rattle.std.proofs.Common.{◌≡◌, ℕ, ◌+◌, Bool, List, [], refl, ◌∙◌, arith}
use Rattle.clause_store.specs.declared.Lit.{Lit}
use Rattle.clause_store.specs.Lits.{AllBelow}
use Rattle.clause_circuits.specs.Gates.{Sides, Planned, Made, with_gate, Agrees, IsSound, AllClausesBelow, next, with_gates}
use Rattle.clause_store.specs.Clauses.{Clauses}
use Rattle.clause_circuits.specs.Growth.{Defines, MeetsSince, DefinesLit}
use Rattle.clause_circuits.specs.Steps.{Step, FollowsPlan, Shows, plan_at}
use Rattle.clause_circuits.proofs.Plans.{plan_defines, plan-follows, vars_are}

pub Step-refl : (p : Planned) → Step p p
Step-refl p = record { same = refl; more = omega arith; follows = λ v f. f; in_order = λ o. o; agrees = λ v f a. a }

pub Step-trans : (p q r : Planned) → Step p q → Step q r → Step p r
Step-trans p q r s t = record {
  same = t.same ∙ s.same;
  more = omega (arith, s.more, t.more);
  follows = λ v f. s.follows v (t.follows v f);
  in_order = λ o. t.in_order (s.in_order o);
  agrees = λ v f a. t.agrees v f (s.agrees v (t.follows v f) a);
}

-- one more gate, if exactly one of its sides holds wherever the plan is followed
pub Step-gate : (p : Planned) (g : Sides) → AllClausesBelow (next p) g.on → AllClausesBelow (next p) g.off
    → ((v : ℕ → Bool) → FollowsPlan v p → Agrees v g) → Step p (with_gate p g).plan
Step-gate p g a b h = record {
  same = refl;
  more = omega arith;
  follows = λ v f. f.1;
  in_order = λ o. (a, b, o);
  agrees = λ v f c. (h v f.1, c);
}

-- what goes on from the empty plan is sound
pub sound_from : (n : ℕ) (q : Planned) → Step (record { first = n; gates = [] }) q → IsSound q
sound_from n q s = record { in_order = s.in_order tt; agrees = λ v f. s.agrees v f tt }

module _ (s : Clauses) (q : Planned) (step : Step (plan_at s) q) where
  sound_here : IsSound (record { first = s.vars; gates = q.gates })
  sound_here = rw (← step.same) (sound_from s.vars q step)

  -- the clauses of a plan that went on step by step define its variables, and say that its gates are followed
  pub step-defines : Defines s (with_gates s q.gates)
  step-defines = plan_defines s q.gates sound_here

  -- who meets the clauses follows the plan
  pub step-follows : (asked v : ℕ → Bool) → MeetsSince asked v s (with_gates s q.gates) → FollowsPlan v q
  step-follows asked v m = rw step.same (plan-follows s q.gates sound_here asked v m)

  -- the list has the plan's variables
  pub step-vars : (with_gates s q.gates).vars ≡ next q
  step-vars = omega (arith, vars_are s q.gates, step.same)

-- what the code planned for a list of clauses
module _ (s : Clauses) (f : (ℕ → Bool) → Bool) (q : Planned) (lit : Lit) (m : Made Lit) (shows : Shows (plan_at s) m f)
    (built : m ≡ record { plan = q; answer = lit }) where
  planned : Shows (plan_at s) (record { plan = q; answer = lit }) f
  planned = rw (← built) shows

  -- the plan begins at the list's next variable
  pub lit-first : q.first ≡ s.vars
  lit-first = planned.step.same

  -- it is sound
  pub lit-sound : IsSound q
  lit-sound = sound_from s.vars q planned.step

  -- its clauses define the literal
  pub lit-gate : (new : Clauses) → new ≡ with_gates s q.gates → DefinesLit s new lit f
  lit-gate new e = rw e (record {
    defines = step-defines s q planned.step;
    below = rw (step-vars s q planned.step) planned.below;
    means = λ asked v n. planned.means v (step-follows s q planned.step asked v n);
  })

-- literals below the variables of a list are below the next one of its plan
pub here-below : (s : Clauses) (ls : List Lit) → AllBelow s.vars ls → AllBelow (next (plan_at s)) ls
here-below s ls b = let e : s.vars + 0 ≡ s.vars = omega arith in rw e b
