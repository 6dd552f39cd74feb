use Rattle.std.proofs.Common.{◌<◌}
use Rattle.std.specs.List.{All}
use Rattle.clause_rows.proofs.networks.pairs_of.Given as goal

abbrev pub invariant-loop-part : goal.invariant-loop-part
invariant-loop-part l = All (λ pair. (pair.0 < l.size) × (pair.1 < l.size)) l.pairs.items
