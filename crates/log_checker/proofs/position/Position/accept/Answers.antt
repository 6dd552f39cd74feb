use Rattle.std.proofs.Common.{◌∙◌, ◌≤◌, ◌+◌, ap, subst, arith, length}
use Rattle.proof_log.specs.Lines.{with_added}
use Rattle.log_checker.specs.Steps.{CheckerState}
use Rattle.log_checker.proofs.Copies.{room, slack, settles-most}
use Rattle.log_checker.proofs.position.Position.accept.Goals as goal

pub invariant_of-self-2 : goal.invariant_of-self-2
invariant_of-self-2 c =
    let s = c.args.self.now in
    let l = c.args.line.now in
    let r = room s l c.requires (subst (λ (s : CheckerState). s.lines ≤ length s.known + slack s.ended) c.self.view_is
    c.self.invariant.0) in
    let known = ap length (c.in_ok-extend.ensures.ok
    ∙ ap (λ ks. with_added ks c.in_ok-noted.noted) (ap (λ (s : CheckerState). s.known) c.self.view_is)
    ∙ ap (with_added s.known) c.in_ok-noted.ensures) in (
      omega (arith, r, ap (λ (s : CheckerState). s.lines) c.self.view_is, known, ap slack c.is_last-self-inside.ensures),
      omega
          (arith, c.self.invariant.1, c.count_settled.ensures, settles-most l),
      c.in_ok-extend.ensures.small,
    )
