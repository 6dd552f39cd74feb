use Rattle.reuse_db.proofs.RecordLaws.{told_known}
use Rattle.reuse_db.proofs.database.is_known.Goals as goal

pub returns : goal.returns
returns c = told_known c.args.records.now c.args.places.now c.requires c.args.hash.now c.place_in.result c.is_some.result
    (rw c.as_str.ensures at c.place_in.ensures) c.is_some.ensures
