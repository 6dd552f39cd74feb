use Rattle.std.proofs.Common.{◌∙◌, ap, refl, inr, length, arith}
use Rattle.std.proofs.lemmas.List.{length-map}
use Rattle.outside_desk.proofs.Tellings.{both_still, held_still}
use Rattle.run_answers.proofs.ReadOnly.{only_more, so_far}
use Rattle.run_task.specs.Problems.{Problem, alone, each_alone}
use Rattle.run_task.proofs.Checks.{best_done, best_next, best_none, rest_all, rest_done, rest_next, rest_stopped, root_failed}
use Rattle.run_task.proofs.each_check.read_each_check.Goals as goal

pub loop-place-init : goal.loop-place-init
loop-place-init g c = record {
  same = inr refl;
  steady = refl;
  put_faults = refl;
  rest = rest_all _ c.args.dir.now (each_alone c.args.input.now.problem);
  best = best_none _ c.args.dir.now (each_alone c.args.input.now.problem);
}

pub loop-place-preserved : goal.loop-place-preserved
loop-place-preserved g c = record {
  same = both_still _ _ _ c.loop-place.invariant.same c.in-Ok.ensures.only_reads.same;
  steady = c.in-Ok.ensures.only_reads.steady tt ∙ c.loop-place.invariant.steady;
  put_faults = c.in-Ok.ensures.only_reads.put_faults ∙ c.loop-place.invariant.put_faults;
  rest =
      rest_next _ c.args.dir.now c.loop-place.place (each_alone c.args.input.now.problem) c.in_ok-one.one.problem c.in-Ok.task
      c.in_ok-one.ensures.one c.in-Ok.ensures.read (held_still _ _ _ c.in-Ok.ensures.only_reads.same c.loop-place.invariant.rest);
  best =
      best_next _ c.args.dir.now c.loop-place.place (each_alone c.args.input.now.problem) c.in_ok-one.one.problem c.in_ok-one.ensures.one
      c.in-Ok.ensures.shown (held_still _ _ _ c.in-Ok.ensures.only_reads.same c.loop-place.invariant.best);
}

pub returns-in-Err-clause-read : goal.returns-in-Err-clause-read
returns-in-Err-clause-read g c =
    rest_stopped _ c.args.dir.now c.loop-place.place (each_alone c.args.input.now.problem) c.in_ok-one.one.problem c.in-Err.stop
    c.in_ok-one.ensures.one c.in-Err.ensures.read (held_still _ _ _ c.in-Err.ensures.only_reads.same c.loop-place.invariant.rest)

pub returns-in-Err-clause-path : goal.returns-in-Err-clause-path
returns-in-Err-clause-path g c =
    root_failed _ c.args.dir.now c.loop-place.place (each_alone c.args.input.now.problem) c.in_ok-one.one.problem c.in-Err.stop
    c.in_ok-one.ensures.one (held_still _ _ _ c.in-Err.ensures.only_reads.same c.loop-place.invariant.best) c.in-Err.ensures.path

pub returns-in-Err-clause-only_reads : goal.returns-in-Err-clause-only_reads
returns-in-Err-clause-only_reads g c =
    only_more (so_far c.loop-place.invariant.same c.loop-place.invariant.steady c.loop-place.invariant.put_faults)
    c.in-Err.ensures.only_reads

pub returns-clause-read : goal.returns-clause-read
returns-clause-read g c =
    let long = length-map {B = Problem} c.args.input.now.problem.roots (alone c.args.input.now.problem) in
    rest_done _ c.args.dir.now c.loop-place.place (each_alone c.args.input.now.problem)
    (omega (arith, long, ap length c.roots-place-end.ensures)) c.loop-place.invariant.rest

pub returns-clause-shown : goal.returns-clause-shown
returns-clause-shown g c =
    let long = length-map {B = Problem} c.args.input.now.problem.roots (alone c.args.input.now.problem) in
    best_done _ c.args.dir.now c.loop-place.place (each_alone c.args.input.now.problem)
    (omega (arith, long, ap length c.roots-place-end.ensures)) c.loop-place.invariant.best
