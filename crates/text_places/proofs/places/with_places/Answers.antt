use Rattle.std.proofs.Common.{map, List, ℕ}
use Rattle.std.proofs.lemmas.Result.{IfOk-weaker}
use Rattle.text_places.proofs.FirstLaws.{texts_are, are_numbered}
use Rattle.text_places.proofs.places.with_places.Goals as goal

pub returns : goal.returns
returns c =
    let texts : List (List ℕ) = map (λ text. text.now) c.args.texts.now in
    record {
      numbered = IfOk-weaker c.numbered.result _ _ (λ placed is. are_numbered texts placed.items is) c.numbered.ensures;
      texts = IfOk-weaker c.numbered.result _ _ (λ placed is. texts_are texts placed.items is) c.numbered.ensures;
    }
