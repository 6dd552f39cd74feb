use Rattle.std.proofs.Common.{arith}
use Rattle.run_output.proofs.EachLaws.{lines_next}
use Rattle.run_output.proofs.each_text.each_text.Goals as goal

pub loop-place-preserved : goal.loop-place-preserved
loop-place-preserved c =
    lines_next c.args.problems.now c.args.answers.now c.loop-place.place c.index-problems-place.result c.index-answers-place.result
    c.requires.count (omega arith) c.index-problems-place.is c.index-answers-place.is c.args.whole.now _ _ c.loop-place.invariant
    c.in_ok-write_lines.ensures
