use Rattle.directive_arguments.specs.Results.{steps}
use Rattle.directive_arguments.specs.Keywords.{element_allowed}
use Rattle.directive_arguments.proofs.StepLaws.{steps_err}
use Rattle.directive_arguments.proofs.choice.add_all_allowed.Goals as goal

pub returns-in-Err : goal.returns-in-Err
returns-in-Err c =
    let xs = c.args.elements.now in
    steps_err element_allowed xs c.loop-element.element-index c.element-item.result c.loop-element.texts.items
    (steps element_allowed xs c.args.texts.now.items) c.in-Err.fault c.loop-element-test.true c.element-item.is c.loop-element.invariant
    c.in-Err.ensures
