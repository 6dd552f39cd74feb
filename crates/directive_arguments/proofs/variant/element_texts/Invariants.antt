use Rattle.std.proofs.Common.{◌≡◌, ◌++◌, drop}
use Rattle.std.specs.List.{filter_map}
use Rattle.directive_arguments.specs.Variants.{element_text}
use Rattle.directive_arguments.proofs.variant.element_texts.Given as goal

abbrev pub invariant-loop-element : goal.invariant-loop-element
invariant-loop-element l = l.texts.items ++ filter_map element_text (drop l.element-index l.elements) ≡ filter_map element_text l.elements
