use Rattle.std.proofs.lemmas.List.{take_all}
use Rattle.std.proofs.lemmas.Result.{IfOk-weaker}
use Rattle.keyed_lists.proofs.Lent.{indexes}
use Rattle.condition_rules.proofs.definitions.by_variant.Goals as goal

pub returns : goal.returns
returns c =
    let all = rw (take_all c.loop-row.row-index c.args.rows.now c.loop-row-test.false) at c.loop-row.invariant in
    IfOk-weaker c.new.result _ _ (λ index same. indexes (λ row. row.name) c.args.rows.now c.loop-row.entries.items index all same)
    c.new.ensures
