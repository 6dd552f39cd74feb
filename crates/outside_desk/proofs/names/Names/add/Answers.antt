use Rattle.std.proofs.Common.{ap, ◌∙◌, map}
use Rattle.std.specs.String.{string_bytes}
use Rattle.outside_desk.proofs.Listings.{inserted}
use Rattle.outside_desk.proofs.names.Names.add.Goals as goal

pub returns : goal.returns
returns c = rw (← c.self.view_is, ← c.in_ok-from_str.ensures.ok) (ap (map string_bytes) c.in_ok-insert.ensures.keys
    ∙ inserted c.self.inside.set.keys c.in_ok-from_str.field-0)
