use Rattle.run_output.proofs.Kept.{of_answer}
use Rattle.run_output.proofs.Left.{written, kept}
use Rattle.run_output.proofs.answer.write_best.Goals as goal

pub returns-clause-left : goal.returns-clause-left
returns-clause-left g c =
    written c.args.lock.now c.args.cert.now c.args.input.now _ _ _ _ c.in_ok-answer.answer c.write_found-written.result
    c.in_ok-answer.ensures c.write_found-written.ensures.read c.write_found-written.ensures.left

pub returns-clause-held : goal.returns-clause-held
returns-clause-held g c =
    kept c.args.lock.now c.args.cert.now c.args.input.now _ _ (g.O.Sink.said c.args.out.now) (g.O.Sink.said c.args.out.now)
    c.in_ok-answer.answer c.in_ok-answer.ensures c.write_found-written.ensures.held

pub returns-clause-kept : goal.returns-clause-kept
returns-clause-kept g c =
    of_answer c.args.lock.now c.args.cert.now c.args.input.now _ _ _ _ c.in_ok-answer.answer _ c.write_found-written.result
    c.in_ok-answer.ensures c.log_of.ensures c.write_found-written.ensures.left
