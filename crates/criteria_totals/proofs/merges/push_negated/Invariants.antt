use Rattle.std.proofs.Common.{◌≡◌, ◌++◌, map, take}
use Rattle.clause_store.specs.Lits.{negation}
use Rattle.criteria_totals.proofs.merges.push_negated.Given as goal

abbrev pub invariant-loop-lit : goal.invariant-loop-lit
invariant-loop-lit l = l.lits.items ≡ l.fn.lits.items ++ map negation (take l.lit-index l.more)
