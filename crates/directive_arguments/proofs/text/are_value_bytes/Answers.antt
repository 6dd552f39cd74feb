use Rattle.std.proofs.Common.{rules, tests}
use Rattle.std.proofs.lemmas.Iterator.{YieldsList-from_slice}
use Rattle.std.proofs.lemmas.Iterator.Search.{all_from_yields_List}
use Rattle.spec_grammar.specs.Signs.{is_value_byte}
use Rattle.directive_arguments.proofs.text.are_value_bytes.Goals as goal

pub returns : goal.returns
returns c = all_from_yields_List is_value_byte _ _ _ c.all.ensures.ran (YieldsList-from_slice c.args.text.now cc)
    (λ x b q k. search (rules, tests))
