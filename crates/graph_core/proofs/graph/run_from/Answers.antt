use Rattle.std.proofs.Common.{◌∙◌, rules}
use Rattle.std.specs.Ordering.{is_lt, is_le}
use Rattle.std.proofs.lemmas.List.Sorted.{IsPartitionPoint-from_clause}
use Rattle.std.specs.declared.cmp.Ordering.{Ordering}
use Rattle.graph_core.specs.declared.node.Edge.{Edge}
use Rattle.keyed_lists.specs.OfVariantValues.Texts.{byte_cmp}
use Rattle.graph_core.proofs.PairLaws.{parents_rise, parents_alike}
use Rattle.keyed_lists.proofs.RunLaws.{lt_parts, le_parts, run_bounds, run_is}
use Rattle.graph_core.proofs.graph.run_from.Goals as goal

pub returns : goal.returns
returns c =
    let by : Edge → Ordering = λ e. byte_cmp e.parent c.args.name.now in
    let rises = parents_rise c.args.edges.now c.args.name.now c.requires in
    let first = c.partition_point-first.ensures in
    let end = c.partition_point-end.ensures in
    let lt = IsPartitionPoint-from_clause (λ e. is_lt (by e)) c.args.edges.now _ first.partitioned (lt_parts by c.args.edges.now rises)
    (λ a r f called. search rules) in
    let le = IsPartitionPoint-from_clause (λ e. is_le (by e)) c.args.edges.now _ end.partitioned (le_parts by c.args.edges.now rises)
    (λ a r f called. search rules) in
    record {
      bounds = run_bounds by c.args.edges.now _ _ first.bound end.bound lt le;
      within = end.bound;
      run = run_is by c.args.edges.now _ _ first.bound end.bound lt le ∙ parents_alike c.args.edges.now c.args.name.now;
    }
