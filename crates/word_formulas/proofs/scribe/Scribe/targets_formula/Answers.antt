use Rattle.std.proofs.Common.{rules}
use Rattle.std.specs.List.{list_any}
use Rattle.condition_rules.specs.Meets.{is_target}
use Rattle.word_formulas.proofs.scribe.Scribe.targets_formula.Goals as goal

pub returns-in-Some : goal.returns-in-Some
returns-in-Some c =
    rw c.in-Some.is (c.target_passes.ensures (λ target. list_any (is_target c.args.world.now target) c.in-Some.items)
    (λ x b says. search rules))
