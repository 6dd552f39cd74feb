use Rattle.std.proofs.Common.{◌≡◌, ◌++◌, map}
use Rattle.cost_terms.specs.Parts.{only_where, part_said}
use Rattle.cost_terms.proofs.parts.only_where.Given as goal

abbrev pub invariant-loop-term : goal.invariant-loop-term
invariant-loop-term l = record {
  so_far : l.there.items ≡ map (only_where (part_said l.built l.origins)) l.yielded;
  rest : l.yielded ++ l.term-iterator.rest.items ≡ l.fn.terms.items;
}
