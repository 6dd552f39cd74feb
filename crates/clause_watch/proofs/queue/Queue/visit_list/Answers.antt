use Rattle.std.proofs.Common.{refl, ◌∙◌, subst}
use Rattle.clause_watch.specs.Watching.{IsVisited}
use Rattle.clause_watch.proofs.Kept.{IsWatch-grown}
use Rattle.clause_watch.proofs.Propagated.{Grown-trans}
use Rattle.clause_watch.proofs.queue.Queue.visit_list.Goals as goal

pub next_entry-requires-clause-right : goal.next_entry-requires-clause-right
next_entry-requires-clause-right c = IsWatch-grown c.args.clauses.now c.args.clauses.now c.args.trail.now c.loop-at.trail refl
    c.requires.right
    c.loop-at.invariant.grown

pub visit_entry-requires-clause-right : goal.visit_entry-requires-clause-right
visit_entry-requires-clause-right c = IsWatch-grown c.args.clauses.now c.args.clauses.now c.args.trail.now c.loop-at.trail refl
    c.requires.right
    c.loop-at.invariant.grown

pub returns-in_err-next-clause-grown : goal.returns-in_err-next-clause-grown
returns-in_err-next-clause-grown c = Grown-trans c.args.clauses.now c.args.trail.now c.loop-at.trail c.visit_entry.new.trail
    c.loop-at.invariant.grown c.visit_entry.ensures.grown

pub returns-in-False-clause-grown : goal.returns-in-False-clause-grown
returns-in-False-clause-grown c = Grown-trans c.args.clauses.now c.args.trail.now c.loop-at.trail c.visit_entry.new.trail
    c.loop-at.invariant.grown c.visit_entry.ensures.grown

pub loop-at-preserved : goal.loop-at-preserved
loop-at-preserved c =
    let cs = c.args.clauses.now in
    let n = subst (IsVisited cs c.visit_entry.new.trail.placed c.loop-at.self c.visit_entry.new.self c.args.lit c.in-Some.at) c.in-Next.is
    c.in_ok-next.ensures.visited in record {
      grown = Grown-trans cs c.args.trail.now c.loop-at.trail c.visit_entry.new.trail c.loop-at.invariant.grown c.visit_entry.ensures.grown;
      watching = c.visit_entry.ensures.watching;
      visiting = n.visit_list;
      within = n.within;
      head = c.visit_entry.ensures.head ∙ c.loop-at.invariant.head;
      arrived = c.visit_entry.ensures.arrived ∙ c.loop-at.invariant.arrived;
    }
