use Rattle.directive_arguments.specs.Results.{steps}
use Rattle.directive_arguments.specs.Keywords.{element_kind}
use Rattle.graph_core.specs.Graphs.{no_kinds}
use Rattle.directive_arguments.proofs.StepLaws.{steps_err}
use Rattle.directive_arguments.proofs.kinds.add_kinds.Goals as goal

pub returns-in-Err : goal.returns-in-Err
returns-in-Err c =
    let xs = c.args.elements.now in
    steps_err element_kind xs c.loop-element.element-index c.element-item.result c.loop-element.kinds (steps element_kind xs no_kinds)
    c.in-Err.fault c.loop-element-test.true c.element-item.is c.loop-element.invariant c.in-Err.ensures
