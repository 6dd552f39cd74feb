use Rattle.spec_grammar.specs.declared.mode.Mode.TheVariants.{Condition}
use Rattle.directive_arguments.proofs.TextLaws.{spec_found, spec_fault}
use Rattle.directive_arguments.proofs.text.any_condition.Goals as goal

pub returns-in-Ok : goal.returns-in-Ok
returns-in-Ok c = spec_found Condition c.args.place c.args.text.now c.in-Ok.spec c.in-Ok.ensures.found

pub returns-in-Err : goal.returns-in-Err
returns-in-Err c = rw c.text_fault.ensures (spec_fault Condition c.args.place c.args.text.now c.in-Err.fault c.in-Err.ensures.fault)
