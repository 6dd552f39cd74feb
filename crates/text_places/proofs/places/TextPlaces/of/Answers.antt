use Rattle.text_places.proofs.FirstLaws.{none_placed, first_placed}
use Rattle.text_places.proofs.places.TextPlaces.of.Goals as goal

pub returns-in-empty : goal.returns-in-empty
returns-in-empty c =
    rw (← c.self.view_is) (none_placed c.args.text.now c.self.inside.placed.now c.self.invariant.numbered c.of.result.now
    (rw c.of.ensures (c.self.invariant.index c.args.text.now)) c.in-empty.len_below)

pub returns-in-len1-up : goal.returns-in-len1-up
returns-in-len1-up c =
    rw (← c.self.view_is) (first_placed c.args.text.now c.self.inside.placed.now c.self.invariant.numbered c.of.result.now _
    (rw c.of.ensures (c.self.invariant.index c.args.text.now)) c.in-len1-up.len_at_least)
