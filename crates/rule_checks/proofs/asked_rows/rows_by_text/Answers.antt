use Rattle.std.proofs.lemmas.List.{take_all}
use Rattle.std.proofs.lemmas.Result.{IfOk-weaker}
use Rattle.keyed_lists.proofs.Lent.{indexes}
use Rattle.rule_checks.specs.Asked.{asked_text}
use Rattle.rule_checks.proofs.asked_rows.rows_by_text.Goals as goal

pub returns : goal.returns
returns c =
    let all = rw (take_all c.loop-row.row-index c.args.rows.now c.loop-row-test.false) at c.loop-row.invariant in
    IfOk-weaker c.new.result _ _ (λ index same. indexes asked_text c.args.rows.now c.loop-row.entries.items index all same)
    c.new.ensures
