use Rattle.std.proofs.Common.{◌≡◌, take, reverse}
use Rattle.clause_circuits.specs.Gates.{with_gates}
use Rattle.clause_circuits.proofs.define.define_plan.Given as goal

abbrev pub invariant-loop-gate : goal.invariant-loop-gate
invariant-loop-gate l = l.clauses ≡ with_gates l.fn.clauses (reverse (take l.gate-index l.gate-items))
