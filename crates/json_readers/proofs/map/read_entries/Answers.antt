use Rattle.std.proofs.Common.{◌∙◌, ap, sym}
use Rattle.serde_json.specs.View.{view, members_view}
use Rattle.json_readers.specs.Maps.{entries_of, entry_of, after_entries}
use Rattle.json_readers.proofs.Maps.{entries_more}
use Rattle.json_readers.proofs.map.read_entries.Goals as goal

pub loop-key-preserved : goal.loop-key-preserved
loop-key-preserved g c =
    let read = g.R.Reader.reads c.args.reader.now in
    let means = g.F.TextForm.means c.args.form.now in
    entries_more means read _ c.loop-key.read c.push.new.self _ c.in_ok-new.field-0 (view c.in-Some.value.now) c.in_ok-entry.entry
    (members_view c.next.new.self)
    (c.loop-key.invariant ∙ ap (λ es. after_entries c.loop-key.read (entries_of means read (members_view es))) c.in-Some.ensures.steps)
    (ap (λ k. entry_of means read k (view c.in-Some.value.now)) (sym c.as_str.ensures.value) ∙ c.in_ok-entry.ensures)
    (c.in_ok-new.ensures ∙ c.as_str-in-loop-key.ensures.value) c.in_ok-push.ensures.ok
