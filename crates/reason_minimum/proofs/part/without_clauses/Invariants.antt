use Rattle.std.proofs.Common.{◌≡◌, []}
use Rattle.reason_minimum.proofs.part.without_clauses.Given as goal

abbrev pub invariant-loop-made : goal.invariant-loop-made
invariant-loop-made l = l.part ≡ record { entries = []; vars = l._made }
