use Rattle.std.proofs.Common.{ap, ◌∙◌, List, ℕ, map}
use Rattle.std.proofs.lemmas.Result.{IfOk-weaker}
use Rattle.graph_rules.specs.Weights.{place_in}
use Rattle.place_weights.proofs.weights.os_weights.Goals as goal

pub returns : goal.returns
returns g c =
    let are = ap (map (λ text. text.now)) c.as_slice-2.ensures.value ∙ c.in_ok-texts.ensures ∙ c.as_slice.ensures
    ∙ ap (λ s. s.os) c.settings.ensures in
    IfOk-weaker c.weigh.result _ _ (λ weights is. is
    ∙ ap (λ (texts : List (List ℕ)). map {B = ℕ × g.row.L.Denot} (λ c. (place_in texts c.0, c.1)) c.args.choices.now) are)
    c.weigh.ensures
