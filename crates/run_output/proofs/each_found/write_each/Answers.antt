use Rattle.std.proofs.Common.{◌∙◌, ap, sym, subst, List}
use Rattle.run_task.specs.Answer.{Answer}
use Rattle.run_output.specs.Each.{AreAnswersOf, log_of_all}
use Rattle.run_output.specs.Evidence.{evidence}
use Rattle.run_output.proofs.EachLeft.{all_held, all_kept, all_written}
use Rattle.run_output.proofs.each_found.write_each.Goals as goal

pub returns-clause-left : goal.returns-clause-left
returns-clause-left g c = λ cert.
    all_written c.args.dir.now cert c.args.input.now _ _ _ _ c.as_slice-3.result.now
    (subst (λ (found : List Answer). AreAnswersOf evidence c.args.input.now.problem found) (sym c.as_slice-3.ensures.value)
    c.in_ok-answers.ensures) c.write_found_each-written.result c.write_found_each-written.ensures.left

pub returns-clause-held : goal.returns-clause-held
returns-clause-held g c = λ cert.
    all_held c.args.dir.now cert c.args.input.now _ _ (g.O.Sink.said c.args.out.now) (g.O.Sink.said c.args.out.now)
    c.as_slice-3.result.now
    (subst (λ (found : List Answer). AreAnswersOf evidence c.args.input.now.problem found) (sym c.as_slice-3.ensures.value)
    c.in_ok-answers.ensures) c.write_found_each-written.ensures.held

pub returns-clause-kept : goal.returns-clause-kept
returns-clause-kept g c = λ cert.
    all_kept c.args.dir.now cert c.args.input.now _ _ _ _ c.as_slice-3.result.now
    (subst (λ (found : List Answer). AreAnswersOf evidence c.args.input.now.problem found) (sym c.as_slice-3.ensures.value)
    c.in_ok-answers.ensures) _ c.write_found_each-written.result (c.log_of_all.ensures ∙ ap log_of_all (sym c.as_slice-3.ensures.value))
    c.write_found_each-written.ensures.left
