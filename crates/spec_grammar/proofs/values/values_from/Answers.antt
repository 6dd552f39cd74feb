use Rattle.std.proofs.Common.{sym, ◌∙◌}
use Rattle.spec_grammar.proofs.StopLaws.{stuck_whole, stuck_over, values_found}
use Rattle.spec_grammar.proofs.values.values_from.Goals as goal

pub returns-then-not-is_whole-clause-fault : goal.returns-then-not-is_whole-clause-fault
returns-then-not-is_whole-clause-fault c =
    stuck_whole c.args.key c.args.start c.scan-run.result.0 c.args.text.now c.scan-run.result.1 c.requires c.scan-run.ensures (cc)

pub returns-then-goes_on-clause-fault : goal.returns-then-goes_on-clause-fault
returns-then-goes_on-clause-fault c =
    let on = rw c.split_at.ensures.back at c.goes_on.ensures in
    stuck_over c.args.key c.args.start c.scan-run.result.0 c.args.text.now c.scan-run.result.1 c.requires c.scan-run.ensures (sym on
    ∙ c.if-goes_on.true)

pub returns-clause-found : goal.returns-clause-found
returns-clause-found c =
    let over = rw c.split_at.ensures.back at c.goes_on.ensures in
    values_found c.args.key c.args.start c.scan-run.result.0 c.args.text.now c.scan-run.result.1 c.in_ok-cut_values.field-0 c.requires
    c.scan-run.ensures (cc) (sym over ∙ c.if-goes_on.false)
    (rw c.split_at.ensures.front at c.in_ok-cut_values.ensures)
