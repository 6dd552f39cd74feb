use Rattle.graph_rules.specs.Costs.{vector}
use Rattle.valid_models.specs.Tables.{table_for, size_for}
use Rattle.valid_models.specs.Closures.{closure_clauses}
use Rattle.term_builder.specs.Held.{held_in}
use Rattle.ranked_costs.specs.Given.{held_for}
use Rattle.ranked_costs.proofs.Ranges.{table-below}
use Rattle.ranked_costs.proofs.Steps.{sums, orders, same}
use Rattle.ranked_costs.proofs.Finding.{found}
use Rattle.ranked_costs.proofs.rank_theorems.costs_laws.Goals as goal

pub returns : goal.returns
returns c = record {
  range = λ problem names place closure has placed.
      let range = c.closure_laws.ensures.range problem names place closure has placed in
      let table = c.closure_laws.ensures.table problem names closure in
      (table-below (size_for problem names) (closure_clauses problem names place).vars (table_for problem names) range.0 table.1, range.1);
  small = λ problem names values order limits closure few ordered.
      c.limit_laws.ensures.small problem names 0 (held_in (held_for problem (table_for problem names) values)) order limits
      closure few ordered;
  ranks = λ problem names place new bits tops order closure has placed ordered costs.
      let table = c.closure_laws.ensures.table problem names closure in
      c.closure_laws.ensures.ranks problem names place new bits (sums problem names place order new bits tops costs) (vector problem)
      closure has placed
      (orders problem names place order new bits tops costs) (same problem names place order new bits tops costs table.0 ordered);
  spells = λ problem names place new bits tops order closure has placed ordered costs.
      let table = c.closure_laws.ensures.table problem names closure in
      let b = c.closure_laws.ensures.right problem names place closure has placed in
      found problem names place order b.0 b.1 new bits tops costs table.0 ordered;
}
