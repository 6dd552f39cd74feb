use Rattle.optimal_rows.proofs.Rows.{beaten, empty, invalid, less, newer, older, some, unasked, unknown}
use Rattle.optimal_rows.proofs.theorems.optimal_rows.Goals as goal

pub returns : goal.returns
returns c = record {
  newer = newer;
  older = older;
  less = less;
  unknown = unknown;
  empty = empty;
  beaten = beaten;
  invalid = invalid;
  unasked = unasked;
  some = some;
}
