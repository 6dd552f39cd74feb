use Rattle.std.proofs.Common.{◌≡◌, ◌++◌, drop}
use Rattle.std.specs.List.{flat_map}
use Rattle.graph_judge.specs.Answered.{answered}
use Rattle.graph_judge.proofs.judging.Judge.answered_names.Given as goal

abbrev pub invariant-loop-row : goal.invariant-loop-row
invariant-loop-row l = l.names.items ++ flat_map (answered l.self.problem l.self.graph l.node l.child) (drop l.row-index l.rows)
    ≡ flat_map (answered l.self.problem l.self.graph l.node l.child) l.rows
