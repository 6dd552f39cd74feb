use Rattle.problem.proofs.RequiredLaws.{named_none, named_more}
use Rattle.problem.proofs.required.required_of.Goals as goal

pub loop-entry-init : goal.loop-entry-init
loop-entry-init c = named_none c.new-named.result.items c.new-named.ensures.items

pub loop-entry-preserved : goal.loop-entry-preserved
loop-entry-preserved c =
    named_more c.args.packages.now c.loop-entry.entry-index c.entry-item.result c.loop-entry.named.items c.insert.new.items.items
    c.in_ok-insert.field-0 c.loop-entry-test.true c.entry-item.is c.loop-entry.invariant
    (rw c.in_ok-name.ensures at c.in_ok-insert.ensures.added)
    (rw (c.in_ok-name.ensures, c.in_ok-rows.ensures, c.as_slice.ensures) at c.in_ok-insert.ensures.new)
