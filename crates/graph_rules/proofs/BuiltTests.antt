-- What is implied, and tests of all nodes to build.
use Rattle.std.proofs.Common.{◌≡◌, refl, Bool, true, false}
use Rattle.problem.specs.OfGraphCore.Graphs.{Content}
use Rattle.problem.specs.OfConditionRules.Words.{implies}
use Rattle.problem.specs.Nodes.{is_built}
use Rattle.problem.specs.OfGraphCore.Node.{Node}
use Rattle.graph_rules.proofs.Lists.{In, list_all-each, list_all-from}
use Rattle.graph_rules.specs.Valid.{each_built}

-- what is implied holds where the premise does
pub implied : (a b : Bool) → implies a b ≡ true → a ≡ true → b ≡ true
implied true b h is = h
implied false b h is = absurd cc

-- an implication, from a proof under its premise
pub implies-from : (a b : Bool) → (a ≡ true → b ≡ true) → implies a b ≡ true
implies-from true b h = h refl
implies-from false b h = refl

-- a test of all built nodes at one of them
pub at_built : (test : Node → Bool) (graph : Content) (node : Node) → each_built test graph ≡ true → In node graph.nodes
    → is_built node ≡ true → test node ≡ true
at_built test graph node all there built =
    implied (is_built node) (test node) (list_all-each (λ n. implies (is_built n) (test n)) graph.nodes node all there) built

pub built_from : (test : Node → Bool) (graph : Content) → ((node : Node) → In node graph.nodes → is_built node ≡ true → test node ≡ true)
    → each_built test graph ≡ true
built_from test graph each = list_all-from (λ n. implies (is_built n) (test n)) graph.nodes
    (λ node there. implies-from (is_built node) (test node) (each node there))
