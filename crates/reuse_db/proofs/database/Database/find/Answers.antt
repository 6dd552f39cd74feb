use Rattle.std.proofs.Common.{sym, ◌∙◌}
use Rattle.reuse_db.proofs.RecordLaws.{got_there, none_there}
use Rattle.reuse_db.proofs.database.Database.find.Goals as goal

pub returns-in-Some : goal.returns-in-Some
returns-in-Some c = rw (← c.self.view_is) (rw c.as_slice-records.ensures at c.record_at.ensures
    ∙ got_there _ c.self.inside.places c.self.invariant.places c.self.invariant.right.once c.args.hash.now c.in-Some.place
    (rw c.as_str.ensures at (sym c.in-Some.ensures)))

pub returns-in-None : goal.returns-in-None
returns-in-None c =
    rw (← c.self.view_is)
    (sym (none_there _ c.self.inside.places c.self.invariant.places c.args.hash.now (rw c.as_str.ensures at (sym c.in-None.ensures))))
