use Rattle.std.proofs.Common.{arith}
use Rattle.clause_watch.proofs.Places.{place-within}
use Rattle.clause_solver.proofs.Steps.{reason-known}
use Rattle.clause_solver.proofs.StepsDone.{code-alone, code-reason, code-left, code-back}
use Rattle.clause_solver.proofs.analysis.resolve_to_first_uip.Goals as goal

pub returns-then-at-p : goal.returns-then-at-p
returns-then-at-p c = (
  c.loop-before.at,
  code-alone c.args.watch.now c.requires.right c.args.seen.now c.loop-before.seen c.args.chain.now c.loop-before.chain c.loop-before.at
      c.loop-before.invariant
      c.in-Some.before c.at.result c.at-p.result c.in-Some.ensures c.at.ensures c.at-p.ensures c.if-at-p.true,
)

pub unreachable-requires : goal.unreachable-requires
unreachable-requires c =
    code-reason c.args.watch.now c.requires.right c.args.seen.now c.loop-before.seen c.args.chain.now c.loop-before.chain c.loop-before.at
    c.loop-before.invariant
    c.in-Some.before c.at.result c.at-p.result c.in-Some.ensures c.at.ensures c.at-p.ensures c.if-at-p.false c.in_default-reason.is

pub resolve-requires-clause-known : goal.resolve-requires-clause-known
resolve-requires-clause-known c = reason-known c.args.watch.now c.requires.right c.loop-before.at c.at-p.result c.at-p.ensures
    c.in-Some-reason.id c.in-Some-reason.is

pub last_seen-requires-in-loop-before-clause-end : goal.last_seen-requires-in-loop-before-clause-end
last_seen-requires-in-loop-before-clause-end c = let h =
    place-within c.args.watch.now.placed c.loop-before.at c.at-p.result c.at-p.ensures in omega (arith, h)

pub unreachable-requires-in_default-last_seen : goal.unreachable-requires-in_default-last_seen
unreachable-requires-in_default-last_seen c =
    code-left c.args.watch.now c.requires.right c.args.seen.now c.loop-before.seen c.args.chain.now c.loop-before.chain c.loop-before.at
    c.loop-before.invariant
    c.in-Some.before c.at.result c.at-p.result c.in-Some.ensures c.at.ensures c.at-p.ensures c.if-at-p.false c.in-Some-reason.id
    c.in-Some-reason.is c.resolve.new.seen c.in_ok-resolve.ensures.seen c.in_default-last_seen.ensures

pub loop-before-preserved : goal.loop-before-preserved
loop-before-preserved c =
    code-back c.args.watch.now c.requires.right c.args.seen.now c.loop-before.seen c.args.chain.now c.loop-before.chain c.loop-before.at
    c.loop-before.invariant
    c.in-Some.before c.at.result c.at-p.result c.in-Some.ensures c.at.ensures c.at-p.ensures c.if-at-p.false c.in-Some-reason.id
    c.in-Some-reason.is c.resolve.new.seen c.in_ok-resolve.ensures.seen
    c.resolve.new.chain c.in-Some-last_seen.next c.in_ok-resolve.ensures.chain c.resolve.ensures.same c.in-Some-last_seen.ensures
