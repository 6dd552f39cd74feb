use Rattle.std.proofs.Common.{refl}
use Rattle.clause_watch.proofs.Kept.{IsWatch-grown}
use Rattle.clause_watch.proofs.Propagated.{Grown-trans}
use Rattle.clause_watch.proofs.queue.Queue.visit_added.Goals as goal

pub visit_new-requires-clause-right : goal.visit_new-requires-clause-right
visit_new-requires-clause-right c = IsWatch-grown c.args.clauses.now c.args.clauses.now c.args.trail.now c.loop-alloc.trail refl
    c.requires.right
    c.loop-alloc.invariant.grown

pub returns-in_err-id-clause-grown : goal.returns-in_err-id-clause-grown
returns-in_err-id-clause-grown c = Grown-trans c.args.clauses.now c.args.trail.now c.loop-alloc.trail c.visit_new.new.trail
    c.loop-alloc.invariant.grown c.visit_new.ensures.grown

pub returns-in-Some-clause-grown : goal.returns-in-Some-clause-grown
returns-in-Some-clause-grown c = Grown-trans c.args.clauses.now c.args.trail.now c.loop-alloc.trail c.visit_new.new.trail
    c.loop-alloc.invariant.grown c.visit_new.ensures.grown

pub loop-alloc-preserved : goal.loop-alloc-preserved
loop-alloc-preserved c = record {
  grown = Grown-trans c.args.clauses.now c.args.trail.now c.loop-alloc.trail c.visit_new.new.trail c.loop-alloc.invariant.grown
      c.visit_new.ensures.grown;
  watching = c.visit_new.ensures.watching;
}
