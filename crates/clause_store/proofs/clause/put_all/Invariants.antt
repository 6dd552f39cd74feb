use Rattle.std.proofs.Common.{◌≡◌, drop}
use Rattle.clause_store.specs.Lits.{with_lits, IsClause}
use Rattle.clause_store.proofs.clause.put_all.Given as goal

abbrev pub invariant-loop-lit : goal.invariant-loop-lit
invariant-loop-lit l = IsClause l.kept.items × (with_lits l.kept.items (drop l.lit-index l.lits) ≡ with_lits l.fn.kept.items l.lits)
