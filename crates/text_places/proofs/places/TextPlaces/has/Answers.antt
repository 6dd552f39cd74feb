use Rattle.std.proofs.Common.{ap, not, ◌∙◌}
use Rattle.text_places.proofs.FirstLaws.{some_placed}
use Rattle.text_places.proofs.places.TextPlaces.has.Goals as goal

pub returns : goal.returns
returns c =
    rw (← c.self.view_is) (ap not c.is_empty.ensures ∙ some_placed c.args.text.now c.self.inside.placed.now c.of.result.now
    (rw c.of.ensures (c.self.invariant.index c.args.text.now)))
