use Rattle.std.proofs.Common.{arith}
use Rattle.spec_grammar.proofs.ListLaws.{list_fits, versions_read, versions_moved}
use Rattle.spec_grammar.proofs.read_item.versions.Goals as goal

pub moved-requires : goal.moved-requires
moved-requires c = list_fits c.args.text.now 1 c.in-Err.fault (omega arith) c.in-Err.ensures.fault

pub returns-in-Ok-clause-found : goal.returns-in-Ok-clause-found
returns-in-Ok-clause-found c = versions_read c.args.text.now c.in-Ok.set c.in-Ok.len c.in-Ok.ensures.found.0 c.in-Ok.ensures.found.1

pub returns-in-Err-clause-fault : goal.returns-in-Err-clause-fault
returns-in-Err-clause-fault c = rw c.moved.ensures (versions_moved c.args.text.now c.in-Err.fault c.in-Err.ensures.fault)
