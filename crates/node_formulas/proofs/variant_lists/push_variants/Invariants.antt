use Rattle.std.proofs.Common.{◌≡◌, ◌++◌, drop}
use Rattle.graph_formulas.specs.Facts.{variant_parts}
use Rattle.node_formulas.proofs.variant_lists.push_variants.Given as goal

abbrev pub invariant-loop-offer : goal.invariant-loop-offer
invariant-loop-offer l = l.parts.items ++ variant_parts (drop l.offer-index l.offered) l.rest ≡ l.fn.parts.items
    ++ variant_parts l.fn.offered l.fn.variants
