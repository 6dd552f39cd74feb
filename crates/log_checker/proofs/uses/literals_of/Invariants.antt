use Rattle.std.proofs.Common.{◌≡◌, ◌++◌, drop}
use Rattle.log_checker.specs.Uses.{lits_at}
use Rattle.log_checker.proofs.uses.literals_of.Given as goal

abbrev pub invariant-loop-var : goal.invariant-loop-var
invariant-loop-var l = l.found.items ++ lits_at l.lits (drop l.var-index l.vars) ≡ lits_at l.lits l.vars
