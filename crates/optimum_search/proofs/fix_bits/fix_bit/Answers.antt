use Rattle.std.proofs.Common.{length, sym, ap, ◌∙◌, subst, arith}
use Rattle.std.proofs.lemmas.List.{length-take-le}
use Rattle.std.proofs.lemmas.Option.{slice_get-get_or}
use Rattle.clause_solver.specs.Solvers.{SolverValue, Answers}
use Rattle.optimum_search.proofs.FixingBits.{below-at, told, searching-model, searching-spent, searching-one, searching-zero}
use Rattle.optimum_search.proofs.fix_bits.fix_bit.Goals as goal

pub fix-requires-clause-in_range : goal.fix-requires-clause-in_range
fix-requires-clause-in_range c = below-at _ c.args.at c.args.bits.now _ c.requires.in_range
    (slice_get-get_or c.args.bits.now c.args.at _ c.requires.within)

pub returns-then-not-is_true : goal.returns-then-not-is_true
returns-then-not-is_true c =
    let f = c.in_ok-fix.ensures.ok in (
      (ap (λ (w : SolverValue). w.input) f, ap (λ (w : SolverValue). w.vars) f),
      searching-zero c.args.bits.now c.args.budget c.args.at c.args.solver.now c.fix.new.self c.requires.searching _
          (slice_get-get_or c.args.bits.now c.args.at _ c.requires.within)
          (told _ _ _ _ _ c.model.ensures c.is_true.ensures c.if-not-is_true.true) f c.in_ok-fix.ensures.open_log,
    )

pub solve-requires-clause-in_order : goal.solve-requires-clause-in_order
solve-requires-clause-in_order c = (
  sym (ap length c.requires.searching.given ∙ length-take-le c.args.at c.args.bits.now (omega (arith, c.requires.within))),
  below-at _
      c.args.at c.args.bits.now _ c.requires.in_range (slice_get-get_or c.args.bits.now c.args.at _ c.requires.within),
)

pub returns-in_ok-fix-in-Model : goal.returns-in_ok-fix-in-Model
returns-in_ok-fix-in-Model c =
    let t = c.args.solver.now in
    let u = c.solve.new.self in
    let s = c.requires.searching in
    let h = subst (Answers t u _ c.args.budget) c.in-Model.is c.in_ok-solve.ensures.answers in
    let f = c.in_ok-fix-in-Model.ensures.ok in (
      (ap (λ (w : SolverValue). w.input) f ∙ h.0.adds.input, ap (λ (w : SolverValue). w.vars) f ∙ h.0.adds.vars),
      searching-zero c.args.bits.now c.args.budget c.args.at u c.fix-in-Model.new.self
          (searching-model c.args.bits.now c.args.budget c.args.at t u _ s.count s.given h.0 (h.1, h.2) c.in_ok-solve.ensures.ok
          c.in_ok-solve.ensures.log)
          _ (slice_get-get_or c.args.bits.now c.args.at _ c.requires.within) h.0.assumed f c.in_ok-fix-in-Model.ensures.open_log,
    )

pub returns-in-Refuted : goal.returns-in-Refuted
returns-in-Refuted c =
    let t = c.args.solver.now in
    let u = c.solve.new.self in
    let h = subst (Answers t u _ c.args.budget) c.in-Refuted.is c.in_ok-solve.ensures.answers in (
      (h.0.2.input, h.0.2.vars),
      searching-one c.args.bits.now c.args.budget c.args.at t u c.requires.searching _
          (slice_get-get_or c.args.bits.now c.args.at _ c.requires.within)
          (told _ _ _ _ _ c.model.ensures c.is_true.ensures c.if-not-is_true.false) h.0 (h.1, h.2) c.in_ok-solve.ensures.ok,
    )

pub returns-in-Spent : goal.returns-in-Spent
returns-in-Spent c =
    let t = c.args.solver.now in
    let u = c.solve.new.self in
    let h = subst (Answers t u _ c.args.budget) c.in-Spent.is c.in_ok-solve.ensures.answers in (
      (h.0.input, h.0.vars),
      searching-spent c.args.bits.now c.args.budget c.args.at t u c.requires.searching h.0 h.1 c.in_ok-solve.ensures.log
          c.in_ok-solve.ensures.in_range,
    )
