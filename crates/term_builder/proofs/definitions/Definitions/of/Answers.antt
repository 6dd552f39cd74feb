use Rattle.term_builder.proofs.Later.{run-is}
use Rattle.term_builder.proofs.definitions.Definitions.of.Goals as goal

pub returns : goal.returns
returns c = rw (← c.self.view_is)
    (run-is c.args.variant.now c.self.inside.held.now c.self.inside.index c.of.result.now c.of.ensures c.self.invariant)
