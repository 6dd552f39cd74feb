use Rattle.std.proofs.Common.{◌∙◌, [], map, ap, arith}
use Rattle.std.proofs.lemmas.List.{take_all}
use Rattle.variant_values.specs.Texts.{with_texts}
use Rattle.spec_grammar.specs.Meaning.{truth}
use Rattle.spec_grammar.proofs.PartLaws.{put_all-is}
use Rattle.spec_grammar.proofs.values_set.value_set.Goals as goal

pub returns : goal.returns
returns c =
    let values = c.loop-value.invariant ∙ ap (map truth) (take_all _ _ (omega arith)) in
    c.from_words.ensures.set ∙ ap (with_texts []) values ∙ put_all-is [] _
