use Rattle.std.proofs.Common.{◌≡◌, ◌++◌, drop}
use Rattle.graph_judge.specs.Rows.{row_places}
use Rattle.graph_judge.proofs.judging.Judge.add_rows.Given as goal

abbrev pub invariant-loop-row : goal.invariant-loop-row
invariant-loop-row g l =
    let places_of = row_places (g.R.RowRule.number l.rule) (g.R.RowRule.keeps l.rule l.self) l.node in
    l.places.items ++ places_of (drop l.row-index l.rows) ≡ l.fn.places.items ++ places_of l.rows
