use Rattle.std.proofs.Common.{◌<◌, ap, ◌∙◌, sym, refl, subst, arith}
use Rattle.std.specs.Prelude.{IfNone}
use Rattle.clause_store.specs.Lits.{var_of, negation}
use Rattle.clause_store.proofs.Sets.{negation-twice}
use Rattle.clause_watch.specs.Watching.{IsPassed}
use Rattle.clause_watch.proofs.Kept.{IsWatch-grown}
use Rattle.clause_watch.proofs.Places.{place-below}
use Rattle.clause_watch.proofs.Propagated.{Grown-trans}
use Rattle.clause_watch.proofs.WatchingLaws.{longer, visit_list-step, kept-passed, kept-settled}
use Rattle.clause_watch.proofs.ListVisits.{visit_list-start}
use Rattle.clause_watch.proofs.queue.Queue.visit_trail.Goals as goal

pub visit_list-requires-clause-right : goal.visit_list-requires-clause-right
visit_list-requires-clause-right c = IsWatch-grown c.args.clauses.now c.args.clauses.now c.args.trail.now c.loop-self.trail refl
    c.requires.right
    c.loop-self.invariant.grown

pub visit_list-requires-clause-in_range : goal.visit_list-requires-clause-in_range
visit_list-requires-clause-in_range c =
    let t = c.loop-self.trail in
    subst (λ n. n < t.vars) (sym (ap var_of c.negated-lit.ensures))
    (place-below t.vars t.placed c.loop-self.self.head c.at.result c.depth.ensures.orderly.in_table c.at.ensures)

pub visit_list-requires-clause-visiting : goal.visit_list-requires-clause-visiting
visit_list-requires-clause-visiting c =
    let t = c.loop-self.trail in
    let q = c.loop-self.self in
    visit_list-start t.vars c.args.clauses.now t.placed q.lists q.watched_lits.items q.head c.negated-lit.result c.at.result c.at.ensures
    (sym (ap negation c.negated-lit.ensures ∙ negation-twice c.at.result.lit)) c.loop-self.invariant.watching

pub returns-in_err-id-clause-grown : goal.returns-in_err-id-clause-grown
returns-in_err-id-clause-grown c = Grown-trans c.args.clauses.now c.args.trail.now c.loop-self.trail c.visit_list.new.trail
    c.loop-self.invariant.grown c.visit_list.ensures.grown

pub returns-in-Some-clause-grown : goal.returns-in-Some-clause-grown
returns-in-Some-clause-grown c = Grown-trans c.args.clauses.now c.args.trail.now c.loop-self.trail c.visit_list.new.trail
    c.loop-self.invariant.grown c.visit_list.ensures.grown

pub loop-self-smaller : goal.loop-self-smaller
loop-self-smaller c =
    let s = visit_list-step c.args.clauses.now c.loop-self.trail c.visit_list.new.trail c.loop-self.self.head c.visit_list.ensures.grown
    (omega (arith, c.loop-self-test.true, c.len.ensures)) in
    let h = c.visit_list.ensures.head in
    omega (arith, s, h)

pub loop-self-preserved : goal.loop-self-preserved
loop-self-preserved c =
    let cs = c.args.clauses.now in
    let u = c.visit_list.new.trail in
    let q = c.visit_list.new.self in
    let passed = subst (λ o. IfNone o (IsPassed cs u.placed q)) c.in_default.is c.in_ok-id.ensures.passed in
    let g = c.visit_list.ensures.grown in record {
      grown = Grown-trans cs c.args.trail.now c.loop-self.trail u c.loop-self.invariant.grown g;
      watching = kept-passed u.vars cs q.lists q.watched_lits.items u.placed q.head
          (let n = longer cs c.loop-self.trail u g in let h = c.visit_list.ensures.head in
          omega (arith, c.loop-self-test.true, c.len.ensures, n, h)) c.visit_list.ensures.watching passed;
      arrived = c.visit_list.ensures.arrived ∙ c.loop-self.invariant.arrived;
    }

pub returns-clause-settled : goal.returns-clause-settled
returns-clause-settled c =
    let i = c.loop-self.invariant in
    let q = c.loop-self.self in
    kept-settled c.loop-self.trail.vars c.args.clauses.now q.lists q.watched_lits.items c.loop-self.trail.placed q.head
    (omega (arith, i.arrived)) (omega (arith, c.loop-self-test.false, c.len.ensures)) i.watching
