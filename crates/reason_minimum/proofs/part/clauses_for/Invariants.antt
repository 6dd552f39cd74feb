use Rattle.std.proofs.Common.{◌≡◌, take}
use Rattle.std.specs.List.{filter}
use Rattle.explain_failure.specs.Uses.{stands}
use Rattle.reason_minimum.specs.Parts.{is_for}
use Rattle.reason_minimum.proofs.part.clauses_for.Given as goal

abbrev pub invariant-loop-place : goal.invariant-loop-place
invariant-loop-place l = l.part ≡ record {
  entries = filter (is_for (stands l.demands)) (take l.place l.clauses.entries);
  vars = l.clauses.vars;
}
