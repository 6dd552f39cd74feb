use Rattle.std.proofs.Common.{rules}
use Rattle.std.proofs.lemmas.Fn.{always_returns_same}
use Rattle.std.proofs.lemmas.List.Sorted.{ranks_by}
use Rattle.std.specs.Cmp.Lexicographic.{nat_list_cmp_total}
use Rattle.recipe_data.specs.declared.recipe.ProvideRow.{ProvideRow}
use Rattle.virtuals.specs.Provided.{is_before}
use Rattle.virtuals.proofs.ProvidedLaws.{by_name}
use Rattle.virtuals.proofs.provided.by_name.Goals as goal

pub returns : goal.returns
returns c =
    let ranks = ranks_by nat_list_cmp_total (λ (row : ProvideRow). row.name) in
    by_name c.args.rows.now c.in_ok-copies.copies.items c.sort_by.new.self.items _ c.in_ok-copies.ensures c.from_vec.ensures
    (c.in_ok-sort_by.ensures.sorted is_before ranks (always_returns_same _ _ _ (λ a r f k. search rules)))
    (c.in_ok-sort_by.ensures.stable is_before ranks (always_returns_same _ _ _ (λ a r f k. search rules)))
