use Rattle.run_output.proofs.Kept.{of_explanation, of_least, of_trial}
use Rattle.run_output.proofs.answer.write_answer.Goals as goal

pub returns-in_ok-said-in-Report-clause-left : goal.returns-in_ok-said-in-Report-clause-left
returns-in_ok-said-in-Report-clause-left g c = c.tell.ensures.left c.args.lock.now c.args.cert.now _

pub returns-in_ok-said-in-Accepted-clause-left : goal.returns-in_ok-said-in-Accepted-clause-left
returns-in_ok-said-in-Accepted-clause-left g c = c.tell-in-Accepted.ensures.left c.args.lock.now c.args.cert.now _

pub returns-in_ok-said-in-Explain-clause-left : goal.returns-in_ok-said-in-Explain-clause-left
returns-in_ok-said-in-Explain-clause-left g c = c.tell-in-Explain.ensures.left c.args.lock.now c.args.cert.now _

pub returns-in_ok-said-in-Explain-clause-kept : goal.returns-in_ok-said-in-Explain-clause-kept
returns-in_ok-said-in-Explain-clause-kept g c =
    let files = g.D.Desk.files c.args.desk.now in
    rw c.in-Explain.is (of_explanation c.args.lock.now c.args.cert.now c.in-Explain.input files files _ _
    c.in_ok-said-in-Explain.said.outcome
    c.in_ok-said-in-Explain.said.text.items _ c.tell-in-Explain.result c.in_ok-said-in-Explain.ensures.kept
    c.tell-in-Explain.ensures.outcome c.tell-in-Explain.ensures.out)

pub returns-in_ok-said-in-Try-clause-left : goal.returns-in_ok-said-in-Try-clause-left
returns-in_ok-said-in-Try-clause-left g c = c.tell-in-Try.ensures.left c.args.lock.now c.args.cert.now _

pub returns-in_ok-said-in-Try-clause-kept : goal.returns-in_ok-said-in-Try-clause-kept
returns-in_ok-said-in-Try-clause-kept g c =
    let files = g.D.Desk.files c.args.desk.now in
    rw c.in-Try.is (of_trial c.args.lock.now c.args.cert.now c.in-Try.input files files _ _ c.in_ok-said-in-Try.said.outcome
    c.in_ok-said-in-Try.said.text.items _ c.tell-in-Try.result c.in_ok-said-in-Try.ensures.kept c.tell-in-Try.ensures.outcome
    c.tell-in-Try.ensures.out)

pub returns-in_ok-said-in-Compare-clause-left : goal.returns-in_ok-said-in-Compare-clause-left
returns-in_ok-said-in-Compare-clause-left g c = c.tell-in-Compare.ensures.left c.args.lock.now c.args.cert.now _

pub returns-in_ok-said-in-Find-clause-left : goal.returns-in_ok-said-in-Find-clause-left
returns-in_ok-said-in-Find-clause-left g c = c.tell-in-Find.ensures.left c.args.lock.now c.args.cert.now _

pub returns-in_ok-said-in-Plan-clause-left : goal.returns-in_ok-said-in-Plan-clause-left
returns-in_ok-said-in-Plan-clause-left g c = c.tell-in-Plan.ensures.left c.args.lock.now c.args.cert.now _

pub returns-in_ok-said-in-Reasons-clause-left : goal.returns-in_ok-said-in-Reasons-clause-left
returns-in_ok-said-in-Reasons-clause-left g c = c.tell-in-Reasons.ensures.left c.args.lock.now c.args.cert.now _

pub returns-in_ok-said-in-Reasons-clause-kept : goal.returns-in_ok-said-in-Reasons-clause-kept
returns-in_ok-said-in-Reasons-clause-kept g c =
    let files = g.D.Desk.files c.args.desk.now in
    rw c.in-Reasons.is (of_least c.args.lock.now c.args.cert.now c.in-Reasons.input files files _ _ c.in_ok-said-in-Reasons.said.outcome
    c.in_ok-said-in-Reasons.said.text.items _ c.tell-in-Reasons.result c.in_ok-said-in-Reasons.ensures.kept
    c.tell-in-Reasons.ensures.outcome
    c.tell-in-Reasons.ensures.out)

pub returns-in-Each-clause-left : goal.returns-in-Each-clause-left
returns-in-Each-clause-left g c = rw c.in-Each.is (c.write_each.ensures.left c.args.cert.now)

pub returns-in-Each-clause-held : goal.returns-in-Each-clause-held
returns-in-Each-clause-held g c = rw c.in-Each.is (c.write_each.ensures.held c.args.cert.now)

pub returns-in-Each-clause-kept : goal.returns-in-Each-clause-kept
returns-in-Each-clause-kept g c = rw c.in-Each.is (c.write_each.ensures.kept c.args.cert.now)
