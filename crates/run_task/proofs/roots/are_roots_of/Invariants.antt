use Rattle.std.proofs.Common.{◌≡◌, drop}
use Rattle.run_task.specs.LockRoots.{are_roots_of}
use Rattle.run_task.proofs.roots.are_roots_of.Given as goal

abbrev pub invariant-loop-spec : goal.invariant-loop-spec
invariant-loop-spec l = are_roots_of l.hashes (drop l.spec-index l.specs) l.left ≡ are_roots_of l.fn.hashes l.fn.specs l.fn.roots
