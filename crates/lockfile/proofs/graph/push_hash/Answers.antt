use Rattle.lockfile.proofs.Adding.{hash_taken}
use Rattle.lockfile.proofs.graph.push_hash.Goals as goal

pub returns-clause-order : goal.returns-clause-order
returns-clause-order c =
    (hash_taken c.args.hashes.now.items c.insert.new.items.items (c.args.name, c.args.hash) c.in_ok-added.added c.requires
    c.in_ok-added.ensures.added c.in_ok-added.ensures.new).0

pub returns-clause-found : goal.returns-clause-found
returns-clause-found c =
    (hash_taken c.args.hashes.now.items c.insert.new.items.items (c.args.name, c.args.hash) c.in_ok-added.added c.requires
    c.in_ok-added.ensures.added c.in_ok-added.ensures.new).1
