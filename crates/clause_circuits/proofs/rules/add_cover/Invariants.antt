use Rattle.std.proofs.Common.{◌≡◌, take}
use Rattle.clause_circuits.specs.Gates.{with_rules}
use Rattle.clause_circuits.specs.Shapes.{cover_rules}
use Rattle.clause_circuits.proofs.rules.add_cover.Given as goal

abbrev pub invariant-loop-lit : goal.invariant-loop-lit
invariant-loop-lit l = l.clauses ≡ with_rules l.fn.clauses (cover_rules l.x (take l.lit-index l.lits))
