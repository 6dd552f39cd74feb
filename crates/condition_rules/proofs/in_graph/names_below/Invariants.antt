use Rattle.std.proofs.Common.{◌≡◌, take}
use Rattle.std.specs.List.{list_all}
use Rattle.virtuals.specs.OfGraphCore.Graphs.{Text}
use Rattle.virtuals.specs.OfGraphCore.Paths.{reaches_in}
use Rattle.condition_rules.specs.Holds.{holds_below}
use Rattle.condition_rules.proofs.in_graph.names_below.Given as goal

abbrev pub invariant-loop-part : goal.invariant-loop-part
invariant-loop-part l = (from : Text) → list_all (holds_below l.world l.graph from) (take l.part-index l.parts)
    ≡ list_all (λ name. reaches_in l.graph from name.now) l.names.items
