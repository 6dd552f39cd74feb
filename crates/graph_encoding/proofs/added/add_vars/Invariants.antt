use Rattle.std.proofs.Common.{◌≡◌, ◌+◌}
use Rattle.level_encoding.specs.Asserted.{with_vars}
use Rattle.graph_encoding.proofs.added.add_vars.Given as goal

abbrev pub invariant-loop-i : goal.invariant-loop-i
invariant-loop-i l = l.clauses ≡ with_vars l.fn.clauses (l.fn.clauses.vars + l._i)
