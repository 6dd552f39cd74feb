use Rattle.std.proofs.Common.{◌≡◌}
use Rattle.serde_json.specs.View.{members_view}
use Rattle.json_readers.specs.Maps.{entries_of, after_entries}
use Rattle.json_readers.proofs.map.read_entries.Given as goal

abbrev pub invariant-loop-key : goal.invariant-loop-key
invariant-loop-key g l =
    entries_of (g.F.TextForm.means l.form) (g.R.Reader.reads l.reader) (members_view l.members.entries) ≡ after_entries l.read
    (entries_of (g.F.TextForm.means l.form) (g.R.Reader.reads l.reader) (members_view l.key-iterator))
