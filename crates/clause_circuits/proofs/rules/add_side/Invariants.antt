use Rattle.std.proofs.Common.{◌≡◌, take}
use Rattle.clause_circuits.specs.Gates.{with_rules, headed}
use Rattle.clause_circuits.proofs.rules.add_side.Given as goal

abbrev pub invariant-loop-lits : goal.invariant-loop-lits
invariant-loop-lits l = l.clauses ≡ with_rules l.fn.clauses (headed l.head (take l.lits-index l.side))
