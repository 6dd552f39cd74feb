use Rattle.std.proofs.Common.{◌≡◌, ◌++◌, map, drop}
use Rattle.cost_terms.specs.Sums.{number_terms}
use Rattle.term_builder.specs.Held.{held_in}
use Rattle.cost_terms.specs.Terms.{terms_of}
use Rattle.term_builder.proofs.assembly.push_numbers.Given as goal

abbrev pub invariant-loop-criterion : goal.invariant-loop-criterion
invariant-loop-criterion l =
    l.lists.items ++ map (λ criterion. number_terms l.built l.fn.table l.fn.order
    (terms_of l.fn.problem l.fn.table (held_in l.fn.held) criterion))
    (drop l.criterion-index l.fn.criteria)
    ≡ l.fn.lists.items ++ map (λ criterion. number_terms l.built l.fn.table l.fn.order
    (terms_of l.fn.problem l.fn.table (held_in l.fn.held) criterion))
    l.fn.criteria
