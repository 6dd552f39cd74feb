use Rattle.clause_watch.proofs.EntryVisits.{stale-kept, stale-next}
use Rattle.clause_watch.proofs.queue.Queue.visit_entry.Goals as goal

pub returns-in_default-clause-watching : goal.returns-in_default-clause-watching
returns-in_default-clause-watching c =
    let t = c.args.trail.now in
    let q = c.args.self.now in
    let n = c.in_default.ensures.none in
    stale-kept t.vars c.args.clauses.now t.placed q.lists q.watched_lits.items q.head c.args.lit c.args.at n.entry
    c.requires.watching c.requires.visiting n.listed c.remove.new.self c.remove.ensures n.none

pub returns-in_default-clause-visited : goal.returns-in_default-clause-visited
returns-in_default-clause-visited c =
    let t = c.args.trail.now in
    let q = c.args.self.now in
    let n = c.in_default.ensures.none in
    stale-next t.vars c.args.clauses.now t.placed q.lists q.watched_lits.items q.head c.args.lit c.args.at n.entry
    c.requires.watching c.requires.visiting n.listed c.remove.new.self c.remove.ensures n.none
