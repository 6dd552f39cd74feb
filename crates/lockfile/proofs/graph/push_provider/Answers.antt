use Rattle.lockfile.proofs.Adding.{provider_taken}
use Rattle.lockfile.proofs.graph.push_provider.Goals as goal

pub returns-clause-providers : goal.returns-clause-providers
returns-clause-providers c =
    (provider_taken c.args.graph.now c.set_provider.new.self c.args.name c.args.by c.in_ok-added.added c.requires
    c.in_ok-added.ensures.added c.in_ok-added.ensures.new).0

pub returns-clause-nodes : goal.returns-clause-nodes
returns-clause-nodes c =
    (provider_taken c.args.graph.now c.set_provider.new.self c.args.name c.args.by c.in_ok-added.added c.requires
    c.in_ok-added.ensures.added c.in_ok-added.ensures.new).1

pub returns-clause-edges : goal.returns-clause-edges
returns-clause-edges c =
    (provider_taken c.args.graph.now c.set_provider.new.self c.args.name c.args.by c.in_ok-added.added c.requires
    c.in_ok-added.ensures.added c.in_ok-added.ensures.new).2
