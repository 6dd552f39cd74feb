use Rattle.std.proofs.Common.{◌≡◌, sym, subst}
use Rattle.log_checker.specs.Steps.{Progress, run_lines}
use Rattle.log_checker.proofs.Blocks.{stopped-run}
use Rattle.log_checker.proofs.checker.Checker.step_block.Goals as goal

pub returns-in-Some-clause-next : goal.returns-in-Some-clause-next
returns-in-Some-clause-next g c =
    subst (λ (p : Progress). p ≡ run_lines p c.args.lines.now) c.self.view_is
    (sym (stopped-run c.self.inside.position c.self.inside.refusal _ c.args.lines.now c.in-Some.is))
