use Rattle.std.proofs.Common.{ap, sym, subst, arith, length}
use Rattle.proof_log.specs.Lines.{AllLines}
use Rattle.explain_failure.specs.Uses.{AreReasons, used_by}
use Rattle.explain_failure.specs.Marks.{AreMarks, HasRoom, AreDemands}
use Rattle.explain_failure.proofs.Found.{are-reasons, have-room}
use Rattle.explain_failure.proofs.demands.reasons.Goals as goal

pub marks_of-requires : goal.marks_of-requires
marks_of-requires c = subst (AllLines (λ l. HasRoom c.in_ok-size.size l)) (sym c.lines-lines.ensures)
    (have-room c.args.clauses.now c.args.log.now c.in_ok-size.size c.requires
    (omega (arith, c.in_ok-size.ensures.ok, c.len.ensures, ap length c.lines-lines.ensures)))

pub returns : goal.returns
returns c =
    let s = c.args.clauses.now in
    let marks = c.in_ok-marks.marks.items in
    subst (λ ds. AreReasons s.entries c.args.log.now ds) (sym c.from_vec.ensures)
    (are-reasons s c.args.log.now marks c.in_ok-demands.demands.items c.requires
    (omega (arith, c.in_ok-marks.ensures.length, c.in_ok-size.ensures.ok, c.len.ensures))
    (subst (λ ls. AreMarks marks (used_by ls)) c.lines-lines.ensures c.in_ok-marks.ensures.marked)
    c.in_ok-demands.ensures.rising
    (subst (λ ms. AreDemands s.entries ms
    (length s.entries) c.in_ok-demands.demands.items) c.as_slice.ensures.value c.in_ok-demands.ensures.exact))
