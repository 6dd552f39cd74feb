use Rattle.file_limits.proofs.ValueLaws.{database_valued}
use Rattle.file_limits.proofs.recorded_values.value_laws.Goals as goal

pub returns : goal.returns
returns c = database_valued
