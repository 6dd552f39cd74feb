use Rattle.std.proofs.Common.{subst}
use Rattle.run_output.specs.Evidence.{IsFor}
use Rattle.run_output.proofs.Comparisons.{not_nothing}
use Rattle.run_output.proofs.comparison.beside.Goals as goal

pub unreachable-requires : goal.unreachable-requires
unreachable-requires c =
    not_nothing c.args.problem.now c.args.numbers.now c.requires.costs _ (subst (IsFor c.args.problem.now) c.in-Nothing.is c.requires.found)
