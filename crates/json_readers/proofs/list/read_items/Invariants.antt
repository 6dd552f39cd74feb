use Rattle.std.proofs.Common.{◌≡◌, drop}
use Rattle.serde_json.specs.View.{items_view}
use Rattle.json_readers.specs.Lists.{items_from, after}
use Rattle.json_readers.proofs.list.read_items.Given as goal

abbrev pub invariant-loop-i : goal.invariant-loop-i
invariant-loop-i g l =
    items_from (g.R.Reader.reads l.reader) 0 (items_view l.items)
    ≡ after l.read (items_from (g.R.Reader.reads l.reader) l.i (items_view (drop l.i l.items)))
