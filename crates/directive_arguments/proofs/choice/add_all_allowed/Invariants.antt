use Rattle.std.proofs.Common.{◌≡◌, drop}
use Rattle.directive_arguments.specs.Results.{steps}
use Rattle.directive_arguments.specs.Keywords.{element_allowed}
use Rattle.directive_arguments.proofs.choice.add_all_allowed.Given as goal

abbrev pub invariant-loop-element : goal.invariant-loop-element
invariant-loop-element l = steps element_allowed (drop l.element-index l.elements) l.texts.items ≡ steps element_allowed l.elements
    l.fn.texts.items
