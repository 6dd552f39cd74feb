use Rattle.std.proofs.Common.{◌≡◌, map, take}
use Rattle.clause_formulas.specs.Statements.{atom}
use Rattle.clause_formulas.proofs.few.atoms.Given as goal

abbrev pub invariant-loop-lit : goal.invariant-loop-lit
invariant-loop-lit l = l.formulas.items ≡ map atom (take l.lit-index l.lits)
