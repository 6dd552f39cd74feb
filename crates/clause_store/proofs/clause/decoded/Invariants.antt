use Rattle.std.proofs.Common.{◌≡◌, ◌++◌, drop}
use Rattle.clause_store.specs.Kept.{lits_of_codes}
use Rattle.clause_store.proofs.clause.decoded.Given as goal

abbrev pub invariant-loop-code : goal.invariant-loop-code
invariant-loop-code l = l.lits.items ++ lits_of_codes (drop l.code-index l.codes) ≡ lits_of_codes l.codes
