use Rattle.std.proofs.lemmas.Result.{IfOk-weaker}
use Rattle.keyed_lists.specs.Lent.{lent}
use Rattle.rule_formulas.proofs.Named.{named-index}
use Rattle.rule_formulas.proofs.named_rows.by_name.Goals as goal

pub returns : goal.returns
returns c = IfOk-weaker c.new.result _ _ (λ index same. named-index c.args.rows.now (lent c.in_ok-entries.entries.items) index
    c.in_ok-entries.ensures same) c.new.ensures
