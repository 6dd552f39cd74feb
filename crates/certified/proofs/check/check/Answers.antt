use Rattle.std.proofs.Common.{◌∙◌, sym, ap, Bor, List, Bool}
use Rattle.std.specs.Option.{option_map}
use Rattle.clause_store.specs.Clauses.{clauses_of}
use Rattle.log_checker.specs.Steps.{Progress, run_lines, finish_on}
use Rattle.log_checker.proofs.WholeLogs.{accepted-is}
use Rattle.certified.proofs.check.check.Goals as goal

pub returns-clause-exact : goal.returns-clause-exact
returns-clause-exact g c =
    let s = c.args.clauses.now in
    let lines = c.args.lines.now in
    let a = accepted-is s.vars (clauses_of s.entries) c.args.bits.now
    (option_map (λ (v : Bor (List Bool)). v.now) c.args.values) lines c.in_ok-checker.ensures.in_order c.are_typed.ensures in
    let e = c.finish.ensures ∙ ap finish_on (c.in_ok-feed.ensures
    ∙ ap (λ (p : Progress). run_lines p lines) c.in_ok-checker.ensures.start) in
    ((λ q. a.0 (sym e ∙ q)), (λ l. e ∙ a.1 l))

pub returns-clause-steps : goal.returns-clause-steps
returns-clause-steps g c =
    c.finish.ensures ∙ ap finish_on (c.in_ok-feed.ensures
    ∙ ap (λ (p : Progress). run_lines p c.args.lines.now) c.in_ok-checker.ensures.start)
