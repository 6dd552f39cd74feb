use Rattle.std.proofs.Common.{◌≡◌, length}
use Rattle.directive_arguments.specs.Results.{steps}
use Rattle.directive_arguments.specs.Arguments.{argument}
use Rattle.directive_arguments.proofs.argument.add_arguments.Given as goal

abbrev pub invariant-loop-segment : goal.invariant-loop-segment
invariant-loop-segment l = steps (argument l.bytes l.directive) l.segments l.given ≡ steps (argument l.bytes l.directive)
    l.fn.segments l.fn.given

abbrev pub decreases-loop-segment : goal.decreases-loop-segment
decreases-loop-segment l = length l.segments
