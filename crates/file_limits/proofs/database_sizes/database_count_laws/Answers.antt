use Rattle.std.proofs.lemmas.Bool.{le-leb}
use Rattle.problem.specs.Limits.{size_of_database}
use Rattle.std.proofs.Common.{arith, ◌^◌}
use Rattle.file_limits.proofs.RecordCounts.{databases-hold}
use Rattle.file_limits.proofs.database_sizes.database_count_laws.Goals as goal

pub returns : goal.returns
returns c = record {
  bear = databases-hold;
  within = λ bytes records is short. le-leb (size_of_database records) (2 ^ 26) (omega (arith, databases-hold bytes records is, short));
}
