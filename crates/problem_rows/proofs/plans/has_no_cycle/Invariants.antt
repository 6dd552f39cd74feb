use Rattle.std.proofs.Common.{◌≡◌, ℕ, ◌<◌, false, get_or}
use Rattle.graph_core.specs.declared.node.Node.{Node}
use Rattle.graph_core.specs.Paths.{reaches_in}
use Rattle.problem_rows.proofs.plans.has_no_cycle.Given as goal

abbrev pub invariant-loop-node : goal.invariant-loop-node
invariant-loop-node l = (k : ℕ) (node : Node) → k < l.node-index → node ≡ get_or l.node-items k node
    → reaches_in l.graph node.name node.name ≡ false
