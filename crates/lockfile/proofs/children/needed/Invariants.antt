use Rattle.std.proofs.Common.{◌≡◌, ◌++◌, map, filter, drop}
use Rattle.lockfile.specs.Children.{is_link_or_run, without_build}
use Rattle.lockfile.proofs.children.needed.Given as goal

abbrev pub invariant-loop-dependency : goal.invariant-loop-dependency
invariant-loop-dependency l = l.list ++ map without_build (filter is_link_or_run (drop l.dependency-index l.dependencies))
    ≡ map without_build (filter is_link_or_run l.dependencies)
