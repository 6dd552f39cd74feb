use Rattle.std.proofs.Common.{◌≡◌, drop, find, option_map}
use Rattle.std.specs.Option.{is_none}
use Rattle.lockfile.specs.Children.{named_by}
use Rattle.lockfile.specs.Faults.{lost_child}
use Rattle.lockfile.proofs.checks.lost_child.Given as goal

abbrev pub invariant-loop-child : goal.invariant-loop-child
invariant-loop-child l = option_map (λ d. d.hash) (find (λ d. is_none (named_by l.nodes d.hash)) (drop l.child-index l.child-items))
    ≡ lost_child l.nodes l.node
