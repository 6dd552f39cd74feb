use Rattle.std.specs.Cmp.Lexicographic.{bytes_decides}
use Rattle.std.specs.Str.{bytes_eq}
use Rattle.reachability.proofs.SpreadLaws.{reaches_decides}
use Rattle.target_table.specs.Targets.{parent_arcs}
use Rattle.target_table.proofs.TableLaws.{at_least_decides, in_range_decides}
use Rattle.target_table.proofs.theorems.range_laws.Goals as goal

pub returns : goal.returns
returns c = record {
  ancestor = λ entries. reaches_decides bytes_eq bytes_decides (parent_arcs entries);
  least = at_least_decides;
  range = in_range_decides;
}
