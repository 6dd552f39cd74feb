use Rattle.std.proofs.Common.{◌∙◌}
use Rattle.level_encoding.specs.Input.{numbers, possible}
use Rattle.level_encoding.specs.Encoding.{leads}
use Rattle.level_encoding.proofs.Reached.{table-reaches}
use Rattle.level_encoding.proofs.ways.leads.Goals as goal

pub returns : goal.returns
unfolding leads
returns c = c.leads.ensures ∙ rw c.requires.asked
    (table-reaches (possible c.args.input.now) (numbers c.args.input.now) c.args.reached.now c.requires.reached c.args.p c.args.q
    c.requires.number c.requires.target)
