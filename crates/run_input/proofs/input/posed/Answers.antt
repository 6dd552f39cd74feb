use Rattle.std.proofs.Common.{◌≡◌, sym, subst, true}
use Rattle.table_plan.specs.Kept.{has_right_values}
use Rattle.problem.specs.Problems.{Problem}
use Rattle.problem.specs.Limits.{is_within_limits}
use Rattle.run_input.proofs.Values.{right_values, within_limits}
use Rattle.run_input.proofs.input.posed.Goals as goal

pub returns-in-Ok-clause-values : goal.returns-in-Ok-clause-values
returns-in-Ok-clause-values c =
    subst (λ (p : Problem). has_right_values p ≡ true) (sym c.in-Ok.ensures.problem)
    (right_values c.args.recipes c.args.settings c.args.database c.args.roots c.requires.externals c.requires.records)

pub returns-in-Ok-clause-limits : goal.returns-in-Ok-clause-limits
returns-in-Ok-clause-limits c =
    subst (λ (p : Problem). is_within_limits p ≡ true) (sym c.in-Ok.ensures.problem)
    (within_limits c.args.recipes c.args.settings c.args.database c.args.roots c.requires.few_rows c.requires.small c.requires.few_records)
