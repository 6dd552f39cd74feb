use Rattle.std.proofs.lemmas.List.Filters.{dedup_is}
use Rattle.virtuals.specs.Virtuals.{AreProviders}
use Rattle.virtuals.proofs.VirtualLaws.{table_of}
use Rattle.virtuals.proofs.providers.Providers.of_recipes.Goals as goal

made : (c : goal.After-dedup) → AreProviders c.args.recipes.now c.dedup.new.self.items
made c = rw (dedup_is _ _ _ c.dedup.ensures.filtered)
    (table_of c.args.recipes.now _ (rw c.in_ok-pairs.ensures at c.sort_unstable.ensures.permutation) c.sort_unstable.ensures.sorted)

pub invariant_of-result : goal.invariant_of-result
invariant_of-result c = (made c).order

pub returns : goal.returns
returns c = made c
