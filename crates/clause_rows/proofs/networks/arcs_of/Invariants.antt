use Rattle.std.proofs.Common.{◌<◌}
use Rattle.std.specs.List.{All}
use Rattle.clause_store.specs.Lits.{var_of}
use Rattle.clause_rows.proofs.networks.arcs_of.Given as goal

abbrev pub invariant-loop-part : goal.invariant-loop-part
invariant-loop-part l = All (λ a. (a.parent < l.size) × (a.child < l.size)) l.arcs.items × All (λ a. var_of a.lit < l.vars) l.arcs.items
