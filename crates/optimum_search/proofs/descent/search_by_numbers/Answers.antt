use Rattle.std.proofs.Common.{◌++◌, ◌∷◌, [], ◌≤◌, None, ap, ◌∙◌, subst, arith}
use Rattle.clause_store.specs.Clauses.{clauses_of}
use Rattle.proof_log.specs.declared.line.Line.TheVariants as line
use Rattle.proof_log.specs.Lines.{learnt_in}
use Rattle.proof_log.specs.Certificates.{IsRefutation, IsSpentLog, AreOver}
use Rattle.clause_solver.specs.Solvers.{SolverValue, Answers}
use Rattle.optimum_search.proofs.FixingBits.{searching-model, certified, first-refuted, refuted-over, first-spent, over-first, none-first, moved}
use Rattle.optimum_search.proofs.descent.search_by_numbers.Goals as goal

pub returns-in-Refuted-clause-found : goal.returns-in-Refuted-clause-found
returns-in-Refuted-clause-found g c =
    let s = c.args.clauses.now in
    let t = c.in_ok-solver.solver in
    let u = c.solve.new.self in
    let e = c.in_ok-solver.ensures in
    let h = subst (Answers t u None c.args.budget) c.in-Refuted.is c.in_ok-solve.ensures.answers in
    let r = c.in_ok-solve.ensures.in_range in
    let count = ap (λ (w : SolverValue). w.bits) e in
    let given = ap (λ (w : SolverValue). w.given) e in
    let log = c.in_ok-solve.ensures.log in
    moved (λ vars input lines. IsRefutation vars input c.args.bits.now lines × AreOver vars lines × (learnt_in lines ≤ c.args.budget))
    (clauses_of s.entries) s.vars u
    c.into_log.result (over-first s _ t u e (h.0.2.input, h.0.2.vars)) c.into_log.ensures.lines (
      first-refuted c.args.bits.now c.args.budget t u count given (none-first s _ t e) log h.0,
      refuted-over c.args.bits.now c.args.budget t
          u count given (none-first s _ t e) log h.0 r,
      h.1,
    )

pub returns-in-Spent-clause-found : goal.returns-in-Spent-clause-found
returns-in-Spent-clause-found g c =
    let s = c.args.clauses.now in
    let t = c.in_ok-solver.solver in
    let u = c.solve.new.self in
    let e = c.in_ok-solver.ensures in
    let h = subst (Answers t u None c.args.budget) c.in-Spent.is c.in_ok-solve.ensures.answers in
    moved (λ vars input lines. IsSpentLog vars input c.args.bits.now c.args.budget lines) (clauses_of s.entries) s.vars u
    c.into_log-in-Spent.result (over-first s _ t u e (h.0.input, h.0.vars)) c.into_log-in-Spent.ensures.lines
    (first-spent c.args.bits.now c.args.budget t u (ap (λ (w : SolverValue). w.bits) e) (ap (λ (w : SolverValue). w.given) e)
    (none-first s _ t e) c.in_ok-solve.ensures.log h.0 h.1 c.in_ok-solve.ensures.in_range)

pub loop-at-init : goal.loop-at-init
loop-at-init g c =
    let s = c.args.clauses.now in
    let t = c.in_ok-solver.solver in
    let u = c.solve.new.self in
    let e = c.in_ok-solver.ensures in
    let h = subst (Answers t u None c.args.budget) c.in-Model.is c.in_ok-solve.ensures.answers in record {
      over = over-first s _ t u e (h.0.adds.input, h.0.adds.vars);
      searching = searching-model c.args.bits.now c.args.budget 0 t u None (ap (λ (w : SolverValue). w.bits) e)
          (ap (λ (w : SolverValue). w.given) e) h.0 (h.1, h.2) c.in_ok-solve.ensures.ok c.in_ok-solve.ensures.log;
    }

pub returns-clause-found : goal.returns-clause-found
returns-clause-found g c =
    let u = c.loop-at.solver in
    let i = c.loop-at.invariant in
    certified c.args.clauses.now c.args.bits.now c.args.budget c.loop-at.at u c.from_vec-model.result c.push.new.self i.searching
    (omega (arith, c.loop-at-test.false, c.loop-at.auto.at-end)) (c.into_log-log.ensures.sound i.searching.unfailed)
    c.into_log-log.ensures.in_range i.over (c.from_vec-model.ensures ∙ c.in_ok-from_slice.ensures.items ∙ c.model.ensures)
    (c.in_ok-push.ensures.ok ∙ ap (λ ls. ls ++ line.End ∷ []) c.into_log-log.ensures.lines)
