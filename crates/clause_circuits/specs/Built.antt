-- The list of clauses that a plan leads to.
use Rattle.std.specs.Prelude.{◌≡◌}
use Rattle.clause_store.specs.Clauses.{Clauses}
use Rattle.clause_circuits.specs.Gates.{Made, with_gates}

-- the new list is the old one with the clauses of a plan, and the answer is the plan's
abbrev pub IsBuilt : {A : Type 0} → Clauses → Clauses → Made A → A → Type 0
IsBuilt old new m x = (new ≡ with_gates old m.plan.gates) × (x ≡ m.answer)
