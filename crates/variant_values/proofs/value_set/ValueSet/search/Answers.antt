use Rattle.std.proofs.Common.{rules}
use Rattle.std.proofs.lemmas.Fn.{always_returns_same}
use Rattle.variant_values.specs.Texts.{byte_cmp}
use Rattle.variant_values.proofs.Texts.{found, absent}
use Rattle.variant_values.proofs.value_set.ValueSet.search.Goals as goal

-- the closure gives how an item compares with the text, and the slice is the set's items
pub returns : goal.returns
returns c =
    let facts = c.binary_search_by.ensures in
    let by_order = facts.position (λ u. byte_cmp u c.args.text.now) (always_returns_same _ _ _ (λ a r f called. search rules)) in
    rw (← c.self.view_is, ← c.deref.ensures.value) record {
      found = found _ c.args.text.now _ facts.bound by_order;
      absent = absent _ c.args.text.now _ (rw c.deref.ensures.value c.self.invariant) facts.bound by_order;
      ordered = rw c.deref.ensures.value c.self.invariant;
    }
