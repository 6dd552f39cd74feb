use Rattle.std.proofs.Common.{sym}
use Rattle.keyed_lists.proofs.TextLaws.{found, not_found}
use Rattle.keyed_lists.proofs.keyed.find.Goals as goal

pub returns-in-Ok : goal.returns-in-Ok
returns-in-Ok g c = found g.T.Keyed.key_of c.args.items.now c.args.key.now _ _ c.requires c.in-Ok.ensures c.index-items-place.is

pub returns-in-Err : goal.returns-in-Err
returns-in-Err g c = sym (not_found g.T.Keyed.key_of c.args.items.now c.args.key.now _ c.in-Err.ensures)
