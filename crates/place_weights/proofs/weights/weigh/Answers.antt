use Rattle.std.proofs.Common.{ap, ◌∙◌, List, ℕ, map}
use Rattle.std.proofs.lemmas.Result.{IfOk-weaker}
use Rattle.graph_rules.specs.Weights.{place_in}
use Rattle.text_places.specs.Places.{texts_of}
use Rattle.place_weights.proofs.weights.weigh.Goals as goal

pub returns : goal.returns
returns g c =
    let are = c.in_ok-places.ensures ∙ ap texts_of c.as_slice.ensures.value ∙ c.in_ok-placed.ensures.texts in
    IfOk-weaker c.weigh_each.result _ _ (λ weights is. is
    ∙ ap (λ (texts : List (List ℕ)). map {B = ℕ × g.row.L.Denot} (λ c. (place_in texts c.0, c.1)) c.args.choices.now) are)
    c.weigh_each.ensures
