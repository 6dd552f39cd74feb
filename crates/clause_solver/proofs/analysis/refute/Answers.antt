use Rattle.std.proofs.Common.{◌∷◌, [], sym, subst}
use Rattle.clause_store.specs.Lits.{AllBelow}
use Rattle.clause_solver.proofs.Steps.{reason-known}
use Rattle.clause_solver.proofs.StepsDone.{known-below, code-resolved, refuted}
use Rattle.clause_solver.proofs.analysis.refute.Goals as goal

pub see_all-requires : goal.see_all-requires
see_all-requires c =
    subst (λ n. AllBelow n c.clause.result.now) (sym c.requires.in_range)
    (known-below c.args.watch.now.vars c.args.id c.args.watch.now.clauses c.clause.result.now c.requires.right.in_order
    c.requires.right.in_range c.clause.ensures)

pub resolve-requires-clause-known : goal.resolve-requires-clause-known
resolve-requires-clause-known c = reason-known c.args.watch.now c.requires.right c.in-Some.before c.at-p.result c.at-p.ensures
    c.in-Some-reason.reason c.in-Some-reason.is

pub loop-before-preserved-in-Continue-branch-3 : goal.loop-before-preserved-in-Continue-branch-3
loop-before-preserved-in-Continue-branch-3 c =
    code-resolved c.args.watch.now c.requires.right c.see_all.new.self c.loop-before.seen (c.args.id ∷ []) c.loop-before.chain c.args.end
    c.loop-before.at c.loop-before.invariant
    c.in-Some.before c.at-p.result c.in-Some.ensures c.at-p.ensures c.in-Some-reason.reason c.resolve.new.seen c.resolve.new.chain
    c.in-Some-reason.is c.in_ok-resolve.ensures.seen c.in_ok-resolve.ensures.chain c.resolve.ensures.same

pub returns-clause-chain : goal.returns-clause-chain
returns-clause-chain c =
    refuted c.args.watch.now c.args.seen.now c.see_all.new.self c.loop-before.seen c.args.id c.args.end c.loop-before.at
    c.loop-before.chain c.clause.result.now c.clause.ensures c.requires.unseen
    c.in_ok-see_all.ensures.is_seen c.loop-before.invariant
    c.in_default.ensures
