use Rattle.std.proofs.Common.{◌∙◌, rules}
use Rattle.std.proofs.lemmas.List.Elements.{filter_agree}
use Rattle.std.proofs.lemmas.List.Sorted.{IsPartitionPoint-from_clause, searchable_from_sorted}
use Rattle.std.specs.Cmp.Lexicographic.{nat_list_cmp_total}
use Rattle.std.specs.Ordering.{is_lt, is_le}
use Rattle.std.specs.Str.{bytes_eq}
use Rattle.std.specs.declared.cmp.Ordering.{Ordering}
use Rattle.keyed_lists.proofs.Lent.{tells_alike}
use Rattle.keyed_lists.proofs.RunLaws.{lt_parts, le_parts, run_bounds, run_is}
use Rattle.recipe_data.specs.OfVariantValues.Texts.{byte_cmp}
use Rattle.recipe_data.specs.declared.recipe.ProvideRow.{ProvideRow}
use Rattle.virtuals.proofs.provided.bounds_of.Goals as goal

pub returns : goal.returns
returns c =
    let name = c.args.name.now in
    let by : ProvideRow → Ordering = λ row. byte_cmp row.name name in
    let rows = c.args.rows.now in
    let rises = searchable_from_sorted nat_list_cmp_total (λ (row : ProvideRow). row.name) rows name c.requires in
    let first = c.partition_point-first.ensures in
    let end = c.partition_point-end.ensures in
    let lt = IsPartitionPoint-from_clause (λ row. is_lt (by row)) rows _ first.partitioned (lt_parts by rows rises)
    (λ a r f called. search rules) in
    let le = IsPartitionPoint-from_clause (λ row. is_le (by row)) rows _ end.partitioned (le_parts by rows rises)
    (λ a r f called. search rules) in
    record {
      bounds = run_bounds by rows _ _ first.bound end.bound lt le;
      within = end.bound;
      run = run_is by rows _ _ first.bound end.bound lt le
          ∙ filter_agree _ (λ row. bytes_eq row.name name) (λ row. tells_alike row.name name) rows;
    }
