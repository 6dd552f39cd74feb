use Rattle.std.proofs.Common.{◌≢◌, ◌∙◌, ap, subst, Err}
use Rattle.proof_log.specs.declared.reader.LogFault.TheVariants.{OutOfMemory}
use Rattle.proof_log.specs.Readings.{Takes}
use Rattle.log_checker.specs.Steps.{run_lines}
use Rattle.certified.proofs.Pieces.{piece-taken, ok-not, bad-not}
use Rattle.certified.proofs.text.take_piece.Goals as goal
use Rattle.certified.proofs.text.take_piece.Goals.{in-Ok, in-Err-BadLine}

pub returns-clause-taken : goal.returns-clause-taken
returns-clause-taken g c =
    let fine : c.feed.result ≢ Err OutOfMemory = elim c.match-feed.branch [
      | in-Ok w ↦ ok-not c.feed.result _ w.in-Ok.is
      | in-Err-BadLine w ↦ bad-not c.feed.result _ (w.in-Err-BadLine.is ∙ ap Err w.in-Err-BadLine.field-0-is)
    ] in
    piece-taken c.args.checker.now c.feed-2.new.checker c.args.reader.now c.feed.new.self c.args.piece.now c.feed.new.lines.items
    (subst (λ ls. Takes c.args.reader.now c.feed.new.self c.args.piece.now ls c.feed.new.lines.items) c.new-lines.ensures.items
    (c.feed.ensures.fed fine))
    (c.in_ok-feed.ensures ∙ ap (run_lines c.args.checker.now) c.as_slice.ensures.value)
