use Rattle.std.proofs.Common.{◌≡◌, ◌++◌}
use Rattle.trial_input.specs.Recipes.{version_lines}
use Rattle.trial_input.proofs.Counts.{versions_left}
use Rattle.trial_input.proofs.recipes.write_versions.Given as goal

abbrev pub invariant-loop-more : goal.invariant-loop-more
invariant-loop-more l = l.out.items ++ versions_left l.from l.more l.count ≡ l.fn.out.items ++ version_lines l.fn.from l.fn.count
