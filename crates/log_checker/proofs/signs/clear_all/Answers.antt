use Rattle.std.proofs.Common.{◌≡◌, ◌+◌, ◌∙◌, sym, subst, length, drop, List, Option, Bool, None}
use Rattle.std.proofs.lemmas.List.{length-set}
use Rattle.log_checker.specs.Signs.{AreTouched}
use Rattle.log_checker.proofs.Marks.{cleared-step, passed-step}
use Rattle.log_checker.proofs.signs.clear_all.Goals as goal
use Rattle.log_checker.proofs.signs.clear_all.Goals.{then-place-marks, else-place-marks}

pub loop-var-preserved : goal.loop-var-preserved
loop-var-preserved c =
    let P : List (Option Bool) → Type 0 = λ m. (length m ≡ length c.args.marks.now)
    × AreTouched m (drop (c.loop-var.var-index + 1) c.args.vars.now) in
    elim c.if-place-marks.branch [
      | then-place-marks w ↦ subst P (sym w.marks-is) (
        length-set c.loop-var.marks _ None
            ∙ c.loop-var.invariant.0,
        cleared-step c.loop-var.marks c.args.vars.now c.loop-var.var-index _ c.loop-var-test.true w.if-place-marks.true
            c.loop-var.invariant.1,
      )
      | else-place-marks w ↦ subst P (sym w.marks-is) (
        c.loop-var.invariant.0,
        passed-step c.loop-var.marks c.args.vars.now c.loop-var.var-index _ c.loop-var-test.true
            w.if-place-marks.false c.loop-var.invariant.1,
      )
    ]
