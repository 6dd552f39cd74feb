use Rattle.spec_grammar.specs.declared.mode.Mode.TheVariants.{Provision}
use Rattle.directive_arguments.proofs.TextLaws.{part_found, part_fault}
use Rattle.directive_arguments.proofs.text.provision.Goals as goal

pub returns-in-Ok : goal.returns-in-Ok
returns-in-Ok c = part_found Provision c.args.place c.args.text.now c.in-Ok.part c.in-Ok.ensures.found

pub returns-in-Err : goal.returns-in-Err
returns-in-Err c = rw c.text_fault.ensures (part_fault Provision c.args.place c.args.text.now c.in-Err.fault c.in-Err.ensures.fault)
