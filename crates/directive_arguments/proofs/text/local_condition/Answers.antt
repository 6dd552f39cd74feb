use Rattle.spec_grammar.specs.declared.mode.Mode.TheVariants.{LocalCondition}
use Rattle.directive_arguments.proofs.TextLaws.{alone, spec_found, spec_fault}
use Rattle.directive_arguments.proofs.text.local_condition.Goals as goal

pub returns-in-Ok : goal.returns-in-Ok
returns-in-Ok c = rw c.new.ensures (spec_found LocalCondition c.args.place c.args.text.now (alone c.in-Ok.top) c.in-Ok.ensures.found)

pub returns-in-Err : goal.returns-in-Err
returns-in-Err c = rw c.text_fault.ensures (spec_fault LocalCondition c.args.place c.args.text.now c.in-Err.fault c.in-Err.ensures.fault)
