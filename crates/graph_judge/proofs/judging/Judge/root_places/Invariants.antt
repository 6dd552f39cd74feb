use Rattle.std.proofs.Common.{◌≡◌, ◌++◌, drop}
use Rattle.graph_rules.specs.Verdict.{broken_roots}
use Rattle.graph_judge.specs.Places.{keeps_root_at}
use Rattle.graph_judge.proofs.judging.Judge.root_places.Given as goal

abbrev pub invariant-loop-place : goal.invariant-loop-place
invariant-loop-place l = l.places.items ++ broken_roots (keeps_root_at l.self) l.place
    (drop l.place l.roots) ≡ broken_roots (keeps_root_at l.self) 0 l.roots
