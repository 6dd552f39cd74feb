use Rattle.std.proofs.Common.{◌≡◌, ◌++◌, drop}
use Rattle.lockfile.proofs.children.all.Given as goal

abbrev pub invariant-loop-dependency : goal.invariant-loop-dependency
invariant-loop-dependency l = l.list ++ drop l.dependency-index l.dependencies ≡ l.dependencies
