use Rattle.std.proofs.Common.{sym, ap, ◌∙◌}
use Rattle.std.specs.Option.{option_and_then}
use Rattle.condition_rules.specs.Worlds.{World}
use Rattle.problem.specs.Problems.{world_of}
use Rattle.rule_formulas.specs.Asking.{packages_asked}
use Rattle.rule_formulas.proofs.asking_rows.packages_for.Goals as goal

pub returns-in-Some : goal.returns-in-Some
returns-in-Some c =
    let table = c.args.table.now in
    let world = world_of c.args.problem.now in
    c.packages_asked.ensures
    ∙ ap (λ (w : World). packages_asked w table c.as_str.result.now) c.world-world.ensures
    ∙ ap (packages_asked world table) c.as_str.ensures
    ∙ sym (ap (option_and_then (packages_asked world table)) c.in-Some.is)
