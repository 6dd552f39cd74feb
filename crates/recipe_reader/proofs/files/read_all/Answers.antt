use Rattle.recipe_reader.proofs.FileLaws.{first_fault}
use Rattle.recipe_reader.proofs.files.read_all.Goals as goal

pub returns-in-Err-clause-fault : goal.returns-in-Err-clause-fault
returns-in-Err-clause-fault c =
    first_fault c.loop-i.i c.in-Err.fault c.index-files-i.result c.args.files.now c.loop-i.recipes c.loop-i-test.true c.index-files-i.is
    c.loop-i.invariant c.in-Err.ensures
