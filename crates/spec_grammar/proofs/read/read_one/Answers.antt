use Rattle.std.proofs.Common.{sym, subst, ◌∙◌, [], ◌∷◌}
use Rattle.std.proofs.lemmas.Option.{none-some, same_Some}
use Rattle.spec_grammar.specs.Reading.{Spells}
use Rattle.spec_grammar.specs.declared.part.Spec.{Spec}
use Rattle.spec_grammar.proofs.SingleLaws.{one_spec}
use Rattle.spec_grammar.proofs.read.read_one.Goals as goal

pub unreachable-requires : goal.unreachable-requires
unreachable-requires c =
    let one = one_spec c.args.mode c.args.text.now c.in_ok-specs.specs c.only.result c.requires c.in_ok-specs.ensures.found
    c.only.ensures in
    none-some one.0 (sym c.in-None.is ∙ one.1)

pub returns-clause-found : goal.returns-clause-found
returns-clause-found c =
    let one = one_spec c.args.mode c.args.text.now c.in_ok-specs.specs c.only.result c.requires c.in_ok-specs.ensures.found
    c.only.ensures in
    subst (λ (s : Spec). Spells c.args.mode c.args.text.now (s ∷ [])) (same_Some one.0 _ (sym one.1 ∙ c.in-Some.is)) one.2
