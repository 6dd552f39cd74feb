use Rattle.std.proofs.Common.{◌≡◌}
use Rattle.serde_json.specs.View.{members_view}
use Rattle.json_readers.specs.Maps.{first_other}
use Rattle.json_readers.proofs.map.first_other.Given as goal

abbrev pub invariant-loop-key : goal.invariant-loop-key
invariant-loop-key g l = first_other (g.F.TextForm.means l.form) (members_view l.members.entries) ≡ first_other (g.F.TextForm.means l.form)
    (members_view l.key-iterator)
