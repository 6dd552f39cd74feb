use Rattle.std.proofs.Common.{◌≡◌, ◌++◌, flat_map, drop}
use Rattle.literal_table.specs.Tables.{block_of}
use Rattle.cost_terms.specs.Sums.{part_terms}
use Rattle.term_builder.specs.Held.{held_in}
use Rattle.cost_terms.specs.Terms.{terms_of}
use Rattle.term_builder.proofs.assembly.number_terms.Given as goal

abbrev pub invariant-loop-name : goal.invariant-loop-name
invariant-loop-name l =
    l.terms.items ++ flat_map (λ name. part_terms l.built (terms_of l.fn.problem l.fn.table (held_in l.fn.held) l.criterion)
    (block_of l.fn.table name))
    (drop l.name-index l.fn.order)
    ≡ flat_map (λ name. part_terms l.built (terms_of l.fn.problem l.fn.table (held_in l.fn.held) l.criterion)
    (block_of l.fn.table name)) l.fn.order
