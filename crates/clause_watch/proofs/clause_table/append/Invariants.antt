use Rattle.std.proofs.Common.{◌≡◌, ◌++◌, take}
use Rattle.clause_watch.proofs.clause_table.append.Given as goal

abbrev pub invariant-loop-lit : goal.invariant-loop-lit
invariant-loop-lit l = l.codes.items ≡ l.fn.codes.items ++ take l.lit-index l.lits
