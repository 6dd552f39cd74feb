use Rattle.std.proofs.Common.{◌∙◌, subst, ℕ, List}
use Rattle.json_readers.specs.Json.{IsJson}
use Rattle.lock_writer.specs.Texts.{lock_data}
use Rattle.run_task.specs.Answer.TheVariants.{Best}
use Rattle.run_output.proofs.Puts.{carried, on_ok, first_stopped, first_held, second_put, second_held}
use Rattle.run_output.proofs.found.put_best.Goals as goal

pub returns-in_err-put_cert-clause-left : goal.returns-in_err-put_cert-clause-left
returns-in_err-put_cert-clause-left g c =
    rw (carried c.in_err-put_cert.field-0.0 c.from_residual-in_err-put_cert.result c.from_residual-in_err-put_cert.ensures.1)
    (first_stopped c.args.lock.now c.args.cert.now c.args.problem.now (Best c.args.graph.now c.args.log.now)
    c.in_err-put_cert.field-0.0 _ _ c.in_err-put_cert.ensures.left)

pub returns-in_err-put_cert-clause-held : goal.returns-in_err-put_cert-clause-held
returns-in_err-put_cert-clause-held g c =
    first_held c.args.lock.now c.args.cert.now c.args.problem.now (Best c.args.graph.now c.args.log.now) _ _
    c.in_err-put_cert.ensures.held

pub returns-clause-left : goal.returns-clause-left
returns-clause-left g c =
    second_put c.args.lock.now c.args.cert.now c.args.problem.now c.args.graph.now c.args.log.now c.as_slice.result.now _ _ _
    c.put_file.result c.in_ok-put_cert.ensures.left (c.as_slice.ensures.value ∙ c.in_ok-text.ensures.text) c.put_file.ensures.left

pub returns-clause-held : goal.returns-clause-held
returns-clause-held g c =
    second_held c.args.lock.now c.args.cert.now c.args.problem.now c.args.graph.now c.args.log.now c.as_slice.result.now _ _ _
    c.in_ok-put_cert.ensures.left (c.as_slice.ensures.value ∙ c.in_ok-text.ensures.text) c.put_file.ensures.held

pub returns-clause-read : goal.returns-clause-read
returns-clause-read g c =
    let p = c.args.problem.now in
    on_ok c.put_file.result
    (subst (λ (text : List ℕ). IsJson text (lock_data c.args.graph.now p.database p.roots)) c.in_ok-text.ensures.text c.in_ok-text.ensures.read)
