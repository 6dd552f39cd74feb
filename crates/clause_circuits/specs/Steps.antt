-- How a plan goes on.
use Rattle.std.specs.Prelude.{◌≡◌, ℕ, ◌<◌, ◌≤◌, Bool, []}
use Rattle.clause_store.specs.declared.Lit.{Lit}
use Rattle.clause_store.specs.Lits.{var_of, lit_true}
use Rattle.clause_store.specs.Clauses.{Clauses}
use Rattle.clause_circuits.specs.Gates.{Planned, Made, Follows, AllAgree, InOrder, next}

abbrev pub FollowsPlan : (ℕ → Bool) → Planned → Type 0
FollowsPlan v p = Follows v p.first p.gates

-- the second plan is the first with more gates that define their variables
pub record Step (p q : Planned) : Type 0 where
  pub same : q.first ≡ p.first
  pub more : next p ≤ next q
  pub follows : (v : ℕ → Bool) → FollowsPlan v q → FollowsPlan v p
  pub in_order : InOrder p.first p.gates → InOrder q.first q.gates
  pub agrees : (v : ℕ → Bool) → FollowsPlan v q → AllAgree v p.gates → AllAgree v q.gates

-- no gate yet, for the variables that come next
abbrev pub plan_at : Clauses → Planned
plan_at s = record { first = s.vars; gates = [] }

-- a literal that a longer plan defines, true exactly where a fact of the assignment holds
pub record Shows (p : Planned) (m : Made Lit) (f : (ℕ → Bool) → Bool) : Type 0 where
  pub step : Step p m.plan
  pub below : var_of m.answer < next m.plan
  pub means : (v : ℕ → Bool) → FollowsPlan v m.plan → lit_true v m.answer ≡ f v
