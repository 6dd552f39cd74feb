use Rattle.std.proofs.Common.{◌∙◌, rules}
use Rattle.std.specs.Ordering.{is_lt, is_le}
use Rattle.std.proofs.lemmas.List.Sorted.{IsPartitionPoint-from_clause}
use Rattle.std.specs.declared.cmp.Ordering.{Ordering}
use Rattle.recipe_data.specs.OfVariantValues.Texts.{byte_cmp}
use Rattle.recipe_data.proofs.OfKeyedLists.RunLaws.{lt_parts, le_parts, run_bounds, run_is}
use Rattle.recipe_data.specs.OfGraphCore.Graphs.{Text}
use Rattle.virtuals.proofs.PairLaws.{firsts_rise, firsts_alike}
use Rattle.virtuals.proofs.providers.run_of.Goals as goal

pub returns : goal.returns
returns c =
    let by : Text × Text → Ordering = λ p. byte_cmp p.0 c.args.name.now in
    let rises = firsts_rise c.args.pairs.now c.args.name.now c.requires in
    let first = c.partition_point-first.ensures in
    let end = c.partition_point-end.ensures in
    let lt = IsPartitionPoint-from_clause (λ p. is_lt (by p)) c.args.pairs.now _ first.partitioned (lt_parts by c.args.pairs.now rises)
    (λ a r f called. search rules) in
    let le = IsPartitionPoint-from_clause (λ p. is_le (by p)) c.args.pairs.now _ end.partitioned (le_parts by c.args.pairs.now rises)
    (λ a r f called. search rules) in
    record {
      bounds = run_bounds by c.args.pairs.now _ _ first.bound end.bound lt le;
      within = end.bound;
      run = run_is by c.args.pairs.now _ _ first.bound end.bound lt le ∙ firsts_alike c.args.pairs.now c.args.name.now;
    }
