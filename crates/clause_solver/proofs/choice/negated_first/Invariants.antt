use Rattle.std.proofs.Common.{◌≡◌, drop}
use Rattle.std.specs.List.{find}
use Rattle.clause_solver.specs.Models.{is_open}
use Rattle.clause_solver.proofs.choice.negated_first.Given as goal

abbrev pub invariant-loop-lit : goal.invariant-loop-lit
invariant-loop-lit l = find (is_open l.watch.placed l.watch.vars) l.first
    ≡ find (is_open l.watch.placed l.watch.vars) (drop l.lit-index l.first)
