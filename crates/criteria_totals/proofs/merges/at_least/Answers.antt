use Rattle.std.proofs.Common.{arith}
use Rattle.criteria_totals.specs.Merges.{on_clause}
use Rattle.criteria_totals.proofs.MergeLoops.{at_least-built, each-more}
use Rattle.criteria_totals.proofs.merges.at_least.Goals as goal

pub loop-i-preserved : goal.loop-i-preserved
loop-i-preserved c = each-more (on_clause c.args.k c.args.a.now c.args.b.now) c.loop-i.i _ _ c.loop-i.invariant c.in_ok-push_on.ensures

pub returns : goal.returns
returns c = at_least-built _ _ _ c.args.k c.loop-i-2.i _ _ c.by_clauses.ensures c.loop-i-2.invariant.0 c.loop-i-2.invariant.1 (omega arith)
