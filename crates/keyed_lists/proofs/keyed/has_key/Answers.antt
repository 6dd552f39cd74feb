use Rattle.keyed_lists.proofs.TextLaws.{told_key}
use Rattle.keyed_lists.proofs.keyed.has_key.Goals as goal

pub returns : goal.returns
returns g c = told_key g.T.Keyed.key_of c.args.items.now c.args.key.now _ _ c.place_of.ensures c.is_ok.ensures.value
