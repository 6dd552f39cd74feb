use Rattle.std.proofs.Common.{◌≡◌, ◌++◌, drop}
use Rattle.graph_judge.specs.Rows.{rows_places}
use Rattle.graph_judge.proofs.judging.Judge.add_all_rows.Given as goal

abbrev pub invariant-loop-node : goal.invariant-loop-node
invariant-loop-node g l =
    let places_of = rows_places (g.R.RowRule.rows l.rule l.self.problem) (g.R.RowRule.number l.rule) (g.R.RowRule.keeps l.rule l.self) in
    l.places.items ++ places_of (drop l.node-index l.nodes) ≡ l.fn.places.items ++ places_of l.nodes
