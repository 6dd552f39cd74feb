use Rattle.std.proofs.Common.{Some, sym, ap, ◌∙◌}
use Rattle.clause_store.specs.Clauses.{clauses_of}
use Rattle.log_checker.specs.Steps.{Progress, run_lines, finish_on}
use Rattle.log_checker.proofs.WholeLogs.{accepted-is}
use Rattle.staged_search.proofs.checks.are_certificate.Goals as goal

pub returns-in-Accepted-clause-shown : goal.returns-in-Accepted-clause-shown
returns-in-Accepted-clause-shown c = λ _.
    let s = c.args.clauses.now in
    let lines = c.args.lines.now in
    let e = c.finish.ensures ∙ ap finish_on (c.in_ok-feed.ensures
    ∙ ap (λ (p : Progress). run_lines p lines) c.in_ok-checker.ensures.start) in
    (accepted-is s.vars (clauses_of s.entries) c.args.bits.now (Some c.args.values.now) lines c.in_ok-checker.ensures.in_order
    c.are_typed.ensures).0 (sym e ∙ c.in-Accepted.is)
