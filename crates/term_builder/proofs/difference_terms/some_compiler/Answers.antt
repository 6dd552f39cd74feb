use Rattle.std.proofs.Common.{rules, ◌∙◌}
use Rattle.std.proofs.lemmas.Result.{IfOk-weaker}
use Rattle.cost_terms.specs.Differ.{is_some_compiler, same_compilers}
use Rattle.term_builder.proofs.DifferSteps.{some-step}
use Rattle.term_builder.proofs.difference_terms.some_compiler.Goals as goal

pub returns-else-all_compilers : goal.returns-else-all_compilers
returns-else-all_compilers c =
    IfOk-weaker c.any_choice.result _ _ (λ formula made. made
    ∙ some-step is_some_compiler same_compilers c.args.xs.now c.all_compilers.result
    c.all_compilers.ensures c.if-all_compilers.false)
    (c.any_choice.ensures is_some_compiler (λ x b told. search rules))
