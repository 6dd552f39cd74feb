use Rattle.std.proofs.Common.{◌≡◌, ◌++◌, drop, option_map}
use Rattle.serde_json.specs.View.{items_view}
use Rattle.json_readers.specs.Sets.{texts_by}
use Rattle.json_readers.proofs.set.texts_by.Given as goal

abbrev pub invariant-loop-item : goal.invariant-loop-item
invariant-loop-item g l = texts_by (g.F.TextForm.means l.form) (option_map (λ k. k.now) l.key) (items_view l.items) ≡ l.texts.items
    ++ texts_by (g.F.TextForm.means l.form) (option_map (λ k. k.now) l.key) (items_view (drop l.item-index l.items))
