use Rattle.std.proofs.Common.{ap, sym, ◌∙◌, cond, Some}
use Rattle.std.specs.Str.{bytes_eq}
use Rattle.condition_rules.proofs.Last.{find_last-more}
use Rattle.rule_checks.proofs.external.last_named.Goals as goal

pub loop-row-preserved : goal.loop-row-preserved
loop-row-preserved c =
    c.later-last.ensures ∙ ap (λ o. cond (bytes_eq c.row-item.result.name c.args.name.now) (Some c.row-item.result) o) c.loop-row.invariant
    ∙ sym (find_last-more (λ row. bytes_eq row.name c.args.name.now) c.args.rows.now c.loop-row.row-index c.row-item.result
    c.loop-row-test.true c.row-item.is)
