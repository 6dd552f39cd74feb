use Rattle.std.proofs.Common.{◌≡◌, drop}
use Rattle.directive_arguments.specs.Results.{steps}
use Rattle.directive_arguments.specs.Keywords.{element_kind}
use Rattle.graph_core.specs.Graphs.{no_kinds}
use Rattle.directive_arguments.proofs.kinds.add_kinds.Given as goal

abbrev pub invariant-loop-element : goal.invariant-loop-element
invariant-loop-element l = steps element_kind (drop l.element-index l.elements) l.kinds ≡ steps element_kind l.elements no_kinds
