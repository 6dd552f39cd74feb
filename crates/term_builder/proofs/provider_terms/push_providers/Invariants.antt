use Rattle.std.proofs.Common.{◌≡◌, ◌++◌, flat_map, drop}
use Rattle.cost_terms.specs.Terms.{virtual_terms}
use Rattle.term_builder.proofs.provider_terms.push_providers.Given as goal

abbrev pub invariant-loop-virtuals : goal.invariant-loop-virtuals
invariant-loop-virtuals l =
    l.terms.items ++ flat_map (virtual_terms l.fn.problem l.fn.block.name) (drop l.virtuals-index l.fn.table.providers)
    ≡ l.fn.terms.items ++ flat_map (virtual_terms l.fn.problem l.fn.block.name) l.fn.table.providers
