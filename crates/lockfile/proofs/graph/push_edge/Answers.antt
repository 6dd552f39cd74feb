use Rattle.lockfile.proofs.Adding.{edge_taken}
use Rattle.lockfile.proofs.graph.push_edge.Goals as goal

pub returns-clause-edges : goal.returns-clause-edges
returns-clause-edges c =
    (edge_taken c.args.graph.now c.add_edge.new.self c.args.edge c.in_ok-added.added c.requires c.in_ok-added.ensures.added
    c.in_ok-added.ensures.new).0

pub returns-clause-nodes : goal.returns-clause-nodes
returns-clause-nodes c =
    (edge_taken c.args.graph.now c.add_edge.new.self c.args.edge c.in_ok-added.added c.requires c.in_ok-added.ensures.added
    c.in_ok-added.ensures.new).1

pub returns-clause-providers : goal.returns-clause-providers
returns-clause-providers c =
    (edge_taken c.args.graph.now c.add_edge.new.self c.args.edge c.in_ok-added.added c.requires c.in_ok-added.ensures.added
    c.in_ok-added.ensures.new).2
