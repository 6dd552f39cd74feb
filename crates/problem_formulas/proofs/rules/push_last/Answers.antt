use Rattle.problem_formulas.proofs.RowsSame.{three, fourth}
use Rattle.problem_formulas.proofs.rules.push_last.Goals as goal

pub returns : goal.returns
returns g c =
    fourth _ _ _ _ _ _ _ _
    (three _ _ _ _ _ _ _ _ _ _ c.in_ok-kept.ensures c.in_ok-provider.ensures c.in_ok-used.ensures c.in_ok-push.ensures.items
    c.in_ok-push-2.ensures.items
    c.in_ok-push-3.ensures.items) c.in_ok-together.ensures c.in_ok-push-4.ensures.items
