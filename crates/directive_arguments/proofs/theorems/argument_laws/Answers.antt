use Rattle.directive_arguments.proofs.ArgumentLaws.{arguments_named, arguments_local}
use Rattle.directive_arguments.proofs.ShapeLaws.{shape_is}
use Rattle.directive_arguments.proofs.theorems.argument_laws.Goals as goal

pub returns : goal.returns
returns c = record { named = arguments_named; local = arguments_local; default = λ o. shape_is o.default o.multi o.values }
