use Rattle.std.proofs.Common.{◌∙◌, ◌==◌, rules}
use Rattle.std.specs.Ordering.{is_lt, is_le}
use Rattle.std.proofs.lemmas.List.Elements.{filter_agree}
use Rattle.std.proofs.lemmas.List.Sorted.{IsPartitionPoint-from_clause}
use Rattle.keyed_lists.proofs.RunLaws.{lt_parts, le_parts, run_bounds, run_is}
use Rattle.rule_formulas.proofs.Numbers.{compared, comparisons-rise, tie-is-number}
use Rattle.rule_formulas.proofs.numbered.bounds_of.Goals as goal

pub returns : goal.returns
returns g c =
    let rows = c.args.rows.now in
    let number_of = g.T.Numbered.number_of in
    let by = compared number_of c.args.number in
    let rises = comparisons-rise number_of rows c.args.number c.requires in
    let first = c.partition_point-first.ensures in
    let end = c.partition_point-end.ensures in
    let lt = IsPartitionPoint-from_clause (λ row. is_lt (by row)) rows _ first.partitioned (lt_parts by rows rises)
    (λ a r f called. search rules) in
    let le = IsPartitionPoint-from_clause (λ row. is_le (by row)) rows _ end.partitioned (le_parts by rows rises)
    (λ a r f called. search rules) in
    record {
      bounds = run_bounds by rows _ _ first.bound end.bound lt le;
      within = end.bound;
      run = run_is by rows _ _ first.bound end.bound lt le
          ∙ filter_agree _ (λ row. number_of row == c.args.number) (λ row. tie-is-number (number_of row) c.args.number) rows;
    }
