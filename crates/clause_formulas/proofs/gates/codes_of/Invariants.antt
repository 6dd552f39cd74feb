use Rattle.std.proofs.Common.{◌≡◌, ◌++◌, drop}
use Rattle.clause_store.specs.Kept.{codes_of}
use Rattle.clause_formulas.proofs.gates.codes_of.Given as goal

abbrev pub invariant-loop-lit : goal.invariant-loop-lit
invariant-loop-lit l = l.codes.items ++ codes_of (drop l.lit-index l.lits) ≡ codes_of l.lits
