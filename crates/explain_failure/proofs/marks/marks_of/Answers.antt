use Rattle.std.proofs.Common.{◌+◌, ◌-◌, ◌||◌, ◌&&◌, ◌∙◌, ap, length, drop, arith}
use Rattle.explain_failure.specs.Uses.{stands, chain_of, is_user, used_by}
use Rattle.explain_failure.proofs.Marking.{marks-start, marks-end, marks-same, line-before}
use Rattle.explain_failure.proofs.marks.marks_of.Goals as goal

pub loop-i-init : goal.loop-i-init
loop-i-init c = marks-start c.in_ok-marks.marks.items c.args.size c.args.lines.now (c.in_ok-marks.ensures.items_if_clones_equal (λ y h. h))

pub loop-i-preserved : goal.loop-i-preserved
loop-i-preserved c =
    let ls = c.args.lines.now in
    let used = used_by (drop (length ls - c.loop-i.i) ls) in
    let l = c.index-lines-lines.result in (
      c.mark_line.ensures.length ∙ c.loop-i.invariant.0,
      marks-same c.mark_line.new.marks.items (λ x. used x || (is_user l used && stands (chain_of l) x))
          (used_by (drop (length ls - (c.loop-i.i + 1)) ls))
          (λ x. ap (λ k. used x || (is_user k used && stands (chain_of k) x)) c.index-lines-lines.is
          ∙ line-before ls c.loop-i.i _ c.loop-i-test.true x)
          (c.mark_line.ensures.marked used c.loop-i.invariant.1),
    )

pub returns-clause-marked : goal.returns-clause-marked
returns-clause-marked c = marks-end c.loop-i.marks.items c.args.lines.now c.loop-i.i
    (omega (arith, c.loop-i-test.false)) c.loop-i.invariant.1
