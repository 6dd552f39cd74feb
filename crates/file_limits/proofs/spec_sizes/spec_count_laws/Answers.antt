use Rattle.file_limits.proofs.Drafts.{texts-bear-values}
use Rattle.file_limits.proofs.spec_sizes.spec_count_laws.Goals as goal

pub returns : goal.returns
returns c = record { bear = texts-bear-values }
