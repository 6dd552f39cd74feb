use Rattle.std.proofs.Common.{sym, ap, ◌∙◌, rules, Bor, List, ℕ, map}
use Rattle.std.specs.Ordering.{is_lt, is_le}
use Rattle.std.specs.Str.{bytes_eq}
use Rattle.std.specs.Cmp.Lexicographic.{nat_list_cmp_total}
use Rattle.std.specs.declared.cmp.Ordering.{Ordering}
use Rattle.std.proofs.lemmas.List.Elements.{filter_agree}
use Rattle.std.proofs.lemmas.List.Sorted.{IsPartitionPoint-from_clause, searchable_from_sorted}
use Rattle.keyed_lists.specs.OfVariantValues.Texts.{byte_cmp}
use Rattle.keyed_lists.proofs.RunLaws.{lt_parts, le_parts, run_bounds, run_is}
use Rattle.keyed_lists.proofs.Lent.{filter_mapped, tells_alike}
use Rattle.keyed_lists.proofs.index.bounds_of.Goals as goal

pub returns : goal.returns
returns g c =
    let by : Bor (List ℕ) × Bor g.row.T.Denot → Ordering = λ e. byte_cmp e.0.now c.args.text.now in
    let seen : Bor (List ℕ) × Bor g.row.T.Denot → List ℕ × g.row.T.Denot = λ e. (e.0.now, e.1.now) in
    let entries = c.args.entries.now in
    let rises = searchable_from_sorted nat_list_cmp_total (λ (e : Bor (List ℕ) × Bor g.row.T.Denot). e.0.now) entries
    c.args.text.now c.requires in
    let first = c.partition_point-first.ensures in
    let end = c.partition_point-end.ensures in
    let lt = IsPartitionPoint-from_clause (λ e. is_lt (by e)) entries _ first.partitioned (lt_parts by entries rises)
    (λ a r f called. search rules) in
    let le = IsPartitionPoint-from_clause (λ e. is_le (by e)) entries _ end.partitioned (le_parts by entries rises)
    (λ a r f called. search rules) in
    record {
      bounds = run_bounds by entries _ _ first.bound end.bound lt le;
      within = end.bound;
      run = ap (map seen) (run_is by entries _ _ first.bound end.bound lt le
          ∙ filter_agree _ (λ e. bytes_eq e.0.now c.args.text.now) (λ e. tells_alike e.0.now c.args.text.now) entries)
          ∙ sym (filter_mapped seen (λ e. bytes_eq e.0 c.args.text.now) entries);
    }
