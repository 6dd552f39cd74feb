use Rattle.lockfile.proofs.Adding.{node_taken}
use Rattle.lockfile.proofs.graph.push_node.Goals as goal

pub returns-clause-nodes : goal.returns-clause-nodes
returns-clause-nodes c =
    (node_taken c.args.graph.now c.add_node.new.self c.args.node c.in_ok-added.added c.in_ok-added.ensures.added
    c.in_ok-added.ensures.new).0

pub returns-clause-edges : goal.returns-clause-edges
returns-clause-edges c =
    (node_taken c.args.graph.now c.add_node.new.self c.args.node c.in_ok-added.added c.in_ok-added.ensures.added
    c.in_ok-added.ensures.new).1

pub returns-clause-providers : goal.returns-clause-providers
returns-clause-providers c =
    (node_taken c.args.graph.now c.add_node.new.self c.args.node c.in_ok-added.added c.in_ok-added.ensures.added
    c.in_ok-added.ensures.new).2
