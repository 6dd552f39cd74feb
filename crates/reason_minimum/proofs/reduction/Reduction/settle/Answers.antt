use Rattle.std.proofs.Common.{◌∙◌, ap}
use Rattle.reason_minimum.specs.Parts.{without_number}
use Rattle.reason_minimum.specs.Reductions.{in_either}
use Rattle.reason_minimum.proofs.Rounds.{settled-reduces}
use Rattle.reason_minimum.proofs.reduction.Reduction.settle.Goals as goal

pub returns-clause-reduces : goal.returns-clause-reduces
returns-clause-reduces c = λ s reduces needed.
    let ns = c.args.self.now.needed.items in
    let cs = c.args.self.now.candidates.items in
    settled-reduces s ns c.add_needed.new.needed.items cs c.in_ok-self.field-0.items c.args.self.now.models.items
    c.add_needed.new.models.items c.args.demand c.args.model reduces needed c.in_ok-add_needed.ensures.needed
    (c.in_ok-add_needed.ensures.models s (in_either ns cs) reduces.each_needed needed.1)
    (c.in_ok-self.ensures ∙ ap (without_number c.args.demand) c.as_slice.ensures.value)
