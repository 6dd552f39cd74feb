use Rattle.term_builder.specs.Held.{held_in}
use Rattle.term_builder.proofs.Assembled.{assembled}
use Rattle.term_builder.proofs.assembly.cost_terms.Goals as goal

pub returns : goal.returns
returns c =
    assembled c.args.problem.now c.args.table.now (held_in c.args.held.now) c.args.order.now c.new-lists.result.items
    c.push_numbers.new.lists.items c.push_numbers-2.new.lists.items c.push_numbers-3.new.lists.items c.new-lists.ensures.items
    c.in_ok-push_numbers.ensures c.in_ok-push_numbers-2.ensures c.in_ok-push_numbers-3.ensures
