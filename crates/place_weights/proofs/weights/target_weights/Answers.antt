use Rattle.std.proofs.Common.{ap, ◌∙◌, List, ℕ, map}
use Rattle.std.proofs.lemmas.Result.{IfOk-weaker}
use Rattle.std.specs.List.{position_or_len}
use Rattle.std.specs.Str.{bytes_eq}
use Rattle.target_table.specs.declared.entry.TargetEntry.{TargetEntry}
use Rattle.graph_rules.specs.Weights.{place_in}
use Rattle.place_weights.proofs.PlaceLaws.{all_among}
use Rattle.place_weights.proofs.weights.target_weights.Goals as goal

pub returns : goal.returns
returns g c =
    let are = ap (map (λ text. text.now)) c.as_slice.ensures.value ∙ c.in_ok-texts.ensures in
    let entries = c.entries.ensures.entries ∙ ap (λ s. s.targets) c.settings.ensures in
    IfOk-weaker c.weigh.result _ _ (λ weights is. is
    ∙ ap (λ (texts : List (List ℕ)). map {B = ℕ × g.row.L.Denot} (λ c. (place_in texts c.0, c.1)) c.args.choices.now) are
    ∙ all_among (λ entry. entry.name) c.entries.result.now c.args.choices.now
    ∙ ap (λ (rows : List TargetEntry). map {B = ℕ × g.row.L.Denot} (λ c. (position_or_len (λ entry. bytes_eq c.0 entry.name) rows, c.1))
    c.args.choices.now) entries)
    c.weigh.ensures
