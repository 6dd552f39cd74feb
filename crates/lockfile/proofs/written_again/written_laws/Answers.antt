use Rattle.lockfile.proofs.PartLaws.{dependencies_again, variants_again}
use Rattle.lockfile.proofs.written_again.written_laws.Goals as goal

pub returns-clause-variants : goal.returns-clause-variants
returns-clause-variants c variants fit order = variants_again variants fit order

pub returns-clause-dependencies : goal.returns-clause-dependencies
returns-clause-dependencies c dependencies fit order = dependencies_again dependencies fit order
