use Rattle.std.proofs.Common.{rules}
use Rattle.graph_rules.specs.declared.criterion.TheConstants.{CRITERIA}
use Rattle.cost_vector.specs.Terms.{half_sum}
use Rattle.cost_vector.proofs.Filled.{next_filled, all_filled}
use Rattle.cost_vector.proofs.sums.half_sums.Goals as goal

pub loop-place-preserved : goal.loop-place-preserved
loop-place-preserved c = record {
  long = search rules;
  filled =
      next_filled (half_sum c.args.half.now.built c.args.half.now.problem.now c.args.half.now.graph.now) CRITERIA
      c.loop-place.sums c.loop-place.place _ c.in_ok-sums.field-0 c.loop-place-test.true c.loop-place.invariant.long
      c.in_ok-sums.ensures c.loop-place.invariant.filled;
}

pub returns : goal.returns
returns c =
    all_filled (half_sum c.args.half.now.built c.args.half.now.problem.now c.args.half.now.graph.now) CRITERIA
    c.loop-place.sums c.loop-place.place c.loop-place-test.false c.loop-place.invariant.long c.loop-place.invariant.filled
