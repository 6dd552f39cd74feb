use Rattle.std.proofs.Common.{◌+◌, ◌-◌, ◌||◌, ◌&&◌, ◌∙◌, true, ap, length, drop}
use Rattle.std.proofs.lemmas.List.{length-set}
use Rattle.log_trim.specs.Trimmed.{stands, chain_of, stays, used_by}
use Rattle.log_trim.proofs.Marking.{marks-start, marks-same, line-before, staying-start, staying-before, filled-length}
use Rattle.log_trim.proofs.marks.staying_of.Goals as goal

pub loop-i-init : goal.loop-i-init
loop-i-init c =
    let ls = c.args.lines.now in
    let all = ap length (c.in_ok-staying.ensures.items_if_clones_equal (λ y h. h)) ∙ filled-length (length ls) true in (
      marks-start c.in_ok-marks.marks.items c.args.size ls (c.in_ok-marks.ensures.items_if_clones_equal (λ y h. h)),
      all,
      staying-start c.in_ok-staying.staying.items ls all,
    )

pub loop-i-preserved : goal.loop-i-preserved
loop-i-preserved c =
    let ls = c.args.lines.now in
    let used = used_by (drop (length ls - c.loop-i.i) ls) in
    let l = c.index-lines-place.result in (
      (
        c.mark_line.ensures.length ∙ c.loop-i.invariant.0.0,
        marks-same c.mark_line.new.marks.items (λ x. used x || (stays used l && stands (chain_of l) x))
            (used_by (drop (length ls - (c.loop-i.i + 1)) ls))
            (λ x. ap (λ k. used x || (stays used k && stands (chain_of k) x)) c.index-lines-place.is
            ∙ line-before ls c.loop-i.i _ c.loop-i-test.true x)
            (c.mark_line.ensures.marked used c.loop-i.invariant.0.1),
      ),
      length-set c.loop-i.staying.items (length ls - 1 - c.loop-i.i) c.mark_line.result ∙ c.loop-i.invariant.1,
      staying-before ls c.loop-i.staying.items c.loop-i.i _ c.mark_line.result c.loop-i-test.true c.loop-i.invariant.1 c.loop-i.invariant.2
          (c.mark_line.ensures.stays used c.loop-i.invariant.0.1 ∙ ap (stays used) c.index-lines-place.is),
    )
