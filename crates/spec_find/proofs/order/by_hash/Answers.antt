use Rattle.std.proofs.Common.{rules}
use Rattle.std.proofs.lemmas.Fn.{always_returns_same}
use Rattle.std.proofs.lemmas.List.Sorted.{ranks_by}
use Rattle.std.specs.Cmp.Lexicographic.{nat_list_cmp_total}
use Rattle.std.specs.Ordering.{is_lt}
use Rattle.keyed_lists.specs.OfVariantValues.Texts.{byte_cmp}
use Rattle.spec_find.specs.Orders.{hash_of}
use Rattle.spec_find.proofs.OrderLaws.{sorted_hashes}
use Rattle.spec_find.proofs.order.by_hash.Goals as goal

pub returns : goal.returns
returns c = sorted_hashes c.args.records.now _ _ c.requires c.in_ok-order.ensures c.in_ok-sort_by.ensures.permutation
    (c.in_ok-sort_by.ensures.sorted (λ a b. is_lt (byte_cmp a.hash.now b.hash.now)) (ranks_by nat_list_cmp_total hash_of)
    (always_returns_same _ _ _ (λ a r f k. search rules)))
