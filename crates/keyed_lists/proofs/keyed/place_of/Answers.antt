use Rattle.std.proofs.Common.{rules}
use Rattle.std.proofs.lemmas.Fn.{always_returns_same}
use Rattle.variant_values.specs.Texts.{byte_cmp}
use Rattle.keyed_lists.proofs.TextLaws.{search_ends}
use Rattle.keyed_lists.proofs.keyed.place_of.Goals as goal

pub returns : goal.returns
returns g c =
    let facts = c.binary_search_by.ensures in
    let by_order = facts.position (λ x. byte_cmp (g.T.Keyed.key_of x) c.args.key.now)
    (always_returns_same _ _ _ (λ a r f called. search rules)) in
    search_ends g.T.Keyed.key_of c.args.items.now c.args.key.now c.binary_search_by.result c.requires facts.bound by_order
