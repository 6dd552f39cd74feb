use Rattle.run_task.specs.Problems.{each_alone}
use Rattle.run_output.proofs.Apart.{apart_more, solvable, solvable_more}
use Rattle.run_output.proofs.each_found.problems_of.Goals as goal

pub loop-place-preserved : goal.loop-place-preserved
loop-place-preserved c = record {
  so_far =
      apart_more (each_alone c.args.input.now.problem) _ _ c.loop-place.place _ c.in_ok-push.ensures.items c.loop-place.invariant.so_far
      c.in_ok-alone.ensures;
  solvable =
      solvable_more _ _ _ c.in_ok-push.ensures.items c.loop-place.invariant.solvable
      (solvable c.alone_laws.ensures c.args.input.now c.loop-place.place _ c.requires c.in_ok-alone.ensures);
}
