use Rattle.std.proofs.Common.{◌∙◌, sym}
use Rattle.directive_arguments.proofs.StepLaws.{wrong_here}
use Rattle.directive_arguments.proofs.choice.wrong_element.Goals as goal

pub returns-then-not-is_default : goal.returns-then-not-is_default
returns-then-not-is_default c =
    sym (wrong_here c.args.elements.now c.loop-element.element-index c.element-item.result c.loop-element-test.true c.element-item.is
    (sym c.is_default.ensures ∙ c.if-not-is_default.true))
    ∙ c.loop-element.invariant
