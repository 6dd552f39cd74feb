use Rattle.std.proofs.Common.{◌≡◌, drop}
use Rattle.std.specs.Option.{option_copied}
use Rattle.graph_rules.specs.Verdict.{least, lesser_of}
use Rattle.graph_judge.proofs.places.least_of.Given as goal

abbrev pub invariant-loop-place : goal.invariant-loop-place
invariant-loop-place l = lesser_of (option_copied l.best) (least (drop l.place-index l.places)) ≡ least l.places
