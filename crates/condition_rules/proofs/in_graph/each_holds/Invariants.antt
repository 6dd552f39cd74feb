use Rattle.std.proofs.Common.{◌≡◌, true, take}
use Rattle.std.specs.List.{list_all}
use Rattle.condition_rules.specs.Holds.{holds}
use Rattle.condition_rules.proofs.in_graph.each_holds.Given as goal

abbrev pub invariant-loop-spec : goal.invariant-loop-spec
invariant-loop-spec g l = list_all (λ spec. holds l.world spec (g.P.Paths.graph_of l.graph) l.name) (take l.spec-index l.specs) ≡ true
