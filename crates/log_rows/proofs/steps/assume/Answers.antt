use Rattle.std.proofs.Common.{◌<◌, length, ap, sym, ◌∙◌, subst}
use Rattle.clause_store.specs.Lits.{var_of}
use Rattle.clause_solver.specs.Solvers.{Answers}
use Rattle.log_rows.proofs.steps.assume.Goals as goal

pub fix-requires-clause-next : goal.fix-requires-clause-next
fix-requires-clause-next c =
    let h = subst (Answers c.args.solver.now c.solve.new.self _ c.args.budget) c.in-Model.is c.in_ok-second.ensures.answers in
    c.requires.none ∙ sym (ap length h.0.adds.given)

pub fix-requires-clause-in_range : goal.fix-requires-clause-in_range
fix-requires-clause-in_range c =
    let h = subst (Answers c.args.solver.now c.solve.new.self _ c.args.budget) c.in-Model.is c.in_ok-second.ensures.answers in
    subst (λ n. var_of c.args.lit < n) (sym h.0.adds.vars) c.requires.in_range
