use Rattle.std.proofs.Common.{◌≡◌, false, length, replicate}
use Rattle.std.proofs.lemmas.List.{length-map}
use Rattle.std.proofs.lemmas.Result.{IfOk-weaker}
use Rattle.virtuals.specs.OfReachability.Places.{MarksReached}
use Rattle.virtuals.proofs.OfReachability.HeadLaws.{numbers_within}
use Rattle.virtuals.specs.OfGraphCore.Graphs.{name_of}
use Rattle.condition_rules.specs.Below.{AreBelow}
use Rattle.condition_rules.proofs.BelowLaws.{searched, nowhere}
use Rattle.condition_rules.proofs.search.marks_below.Goals as goal

pub returns-in_default : goal.returns-in_default
returns-in_default c = IfOk-weaker c.new.result (λ marks. marks ≡ replicate (length c.nodes-places.result.now) false)
    (AreBelow c.args.graph.now c.args.from.now)
    (λ marks is. nowhere c.args.graph.now c.in_default.ensures.graph c.args.from.now _ marks c.in_default.ensures.place
    (rw c.nodes-places.ensures.nodes at is)) c.new.ensures

pub heads_of-requires : goal.heads_of-requires
heads_of-requires c = rw (c.as_slice.ensures.value, c.nodes-places.ensures.nodes, ← length-map c.args.graph.now.nodes name_of)
    (numbers_within _ _ _ c.in_ok-arcs.ensures)

pub returns : goal.returns
returns c = IfOk-weaker c.reached.result (MarksReached c.as_slice-2.result.now c.in-Ok.start) (AreBelow c.args.graph.now c.args.from.now)
    (λ marks told. searched c.args.graph.now c.in-Ok.ensures.graph c.args.from.now c.in-Ok.start c.as_slice.result.now
    c.as_slice-2.result.now marks (rw (← c.as_slice.ensures.value) at c.in_ok-arcs.ensures)
    (rw (c.nodes-places.ensures.nodes, ← c.as_slice-2.ensures.value) at c.in_ok-heads.ensures.arcs) c.in-Ok.ensures.place told)
    c.reached.ensures
