use Rattle.std.proofs.Common.{◌≡◌, true, take}
use Rattle.std.specs.List.{list_all}
use Rattle.virtuals.specs.OfGraphCore.Paths.{reaches_in}
use Rattle.condition_rules.proofs.paths.Paths.leads_to_all.Given as goal

abbrev pub invariant-loop-name : goal.invariant-loop-name
invariant-loop-name g l = list_all (λ name. reaches_in (g.Self.Paths.graph_of l.self) l.from name.now) (take l.name-index l.names) ≡ true
