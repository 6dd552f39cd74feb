use Rattle.std.proofs.Common.{sym, ap, ◌∙◌, arith}
use Rattle.clause_store.specs.Lits.{clause_true}
use Rattle.clause_solver.specs.Models.{values_in}
use Rattle.staged_search.proofs.Meeting.{met-more, met-all}
use Rattle.staged_search.proofs.checks.meets_all.Goals as goal

pub loop-place-preserved : goal.loop-place-preserved
loop-place-preserved c =
    let v = values_in c.args.model.now in
    met-more v c.args.clauses.now.entries c.loop-place.place c.in-Some.clause (sym c.in-Some.is ∙ c.in_ok-clause.ensures)
    (ap (clause_true v) (sym c.lits.ensures.value) ∙ sym c.if-not-is_met.ensures) c.loop-place.invariant

pub returns : goal.returns
returns c = λ _. let a = c.loop-place-test.false in let b = c.loop-place.auto.place-end in let e = c.len-place-end.ensures in
    met-all (values_in c.args.model.now) c.args.clauses.now c.loop-place.place (omega (arith, a, b, e)) c.loop-place.invariant
