use Rattle.std.proofs.Common.{◌≡◌, drop}
use Rattle.directive_arguments.specs.Keywords.{wrong_element}
use Rattle.directive_arguments.proofs.choice.wrong_element.Given as goal

abbrev pub invariant-loop-element : goal.invariant-loop-element
invariant-loop-element l = wrong_element (drop l.element-index l.elements) ≡ wrong_element l.elements
