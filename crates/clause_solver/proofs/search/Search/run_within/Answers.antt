use Rattle.std.proofs.Common.{None, subst}
use Rattle.std.specs.Prelude.{false}
use Rattle.clause_solver.specs.Searches.{value_of, IsTurn}
use Rattle.clause_solver.proofs.Growing.{Adds-trans}
use Rattle.clause_solver.proofs.Loop.{Ends-after}
use Rattle.clause_solver.proofs.search.Search.run_within.Goals as goal

pub returns-in-Some : goal.returns-in-Some
returns-in-Some c =
    let s = c.args.self.now in
    let h = subst (IsTurn c.args.reach c.loop-outcome.self c.step.new.self c.args.assumption c.args.budget) c.in-Some.is c.in_ok-outcome.ensures in (
      Ends-after c.args.reach (value_of false s) (value_of false c.loop-outcome.self) (value_of false c.step.new.self) c.args.assumption c.args.budget
          c.in-Some.outcome c.loop-outcome.invariant.adds h.0,
      h.1,
    )

pub loop-outcome-preserved : goal.loop-outcome-preserved
loop-outcome-preserved c =
    let s = c.args.self.now in
    let h = subst (IsTurn c.args.reach c.loop-outcome.self c.step.new.self c.args.assumption c.args.budget) c.in_default.is c.in_ok-outcome.ensures in
    record {
      adds = Adds-trans (value_of false s) (value_of false c.loop-outcome.self) (value_of false c.step.new.self) None None
          c.loop-outcome.invariant.adds h.0;
      ready = h.1;
    }
