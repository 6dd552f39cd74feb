use Rattle.std.proofs.Common.{subst, ◌∷◌, []}
use Rattle.spec_grammar.specs.Reading.{Spells}
use Rattle.spec_grammar.specs.declared.part.Spec.{Spec}
use Rattle.spec_grammar.proofs.SingleLaws.{single_part}
use Rattle.spec_grammar.proofs.read.read_part.Goals as goal

pub returns-clause-found : goal.returns-clause-found
returns-clause-found c =
    let found = c.in_ok-spec.ensures.found in
    subst (λ (s : Spec). Spells c.args.mode c.args.text.now (s ∷ []))
    (single_part c.args.mode c.args.text.now c.in_ok-spec.spec c.requires.alone found) found
