use Rattle.std.proofs.Common.{◌≡◌, ◌∙◌, ap, sym, List, ◌++◌, map, append-nil}
use Rattle.std.specs.BTreeMap.{values}
use Rattle.serde_json.specs.View.{view, items_of}
use Rattle.serde_json.specs.declared.value.Value.{Value}
use Rattle.reuse_db.proofs.Texts.{values_seen}
use Rattle.reuse_db.proofs.text.values_in.Goals as goal

pub returns : goal.returns
returns c =
    let all : c.loop-value.values.items ≡ values c.args.map = sym (append-nil c.loop-value.values.items)
    ∙ ap (λ (r : List Value). c.loop-value.values.items ++ r) (sym c.in-None.ensures.steps.0) ∙ c.loop-value.invariant in
    ap (λ (vs : List Value). items_of (map view vs)) all ∙ values_seen c.args.map.entries
