use Rattle.std.proofs.Common.{sym, ◌∙◌}
use Rattle.clause_watch.proofs.Twos.{two-below, two-false, two-grown, two-kept, two-next}
use Rattle.clause_watch.proofs.queue.Queue.follow_other.Goals as goal

pub is_false-requires : goal.is_false-requires
is_false-requires c =
    let q = c.args.self.now in
    two-below c.args.trail.now c.args.clauses.now q.lists q.watched_lits.items q.head c.args.lit c.args.at c.args.entry
    c.requires.right c.requires.watching c.requires.visiting c.requires.here c.requires.two

pub returns-then-is_false-clause-visited : goal.returns-then-is_false-clause-visited
returns-then-is_false-clause-visited c =
    let q = c.args.self.now in
    two-false c.args.trail.now c.args.clauses.now q.lists q.watched_lits.items q.head c.args.lit c.args.at c.args.entry
    c.requires.right c.requires.watching c.requires.visiting c.requires.here c.requires.two (sym c.is_false.ensures ∙ c.if-is_false.true)

pub follow-requires-clause-in_range : goal.follow-requires-clause-in_range
follow-requires-clause-in_range c =
    let q = c.args.self.now in
    two-below c.args.trail.now c.args.clauses.now q.lists q.watched_lits.items q.head c.args.lit c.args.at c.args.entry
    c.requires.right c.requires.watching c.requires.visiting c.requires.here c.requires.two

pub returns-clause-grown : goal.returns-clause-grown
returns-clause-grown c =
    let q = c.args.self.now in
    two-grown c.args.trail.now c.args.clauses.now q.lists q.watched_lits.items q.head c.args.lit c.args.at c.args.entry
    c.requires.right c.requires.watching c.requires.visiting c.requires.here c.requires.two c.follow.new.trail c.in_ok-follow.ensures.ok

pub returns-clause-watching : goal.returns-clause-watching
returns-clause-watching c =
    let q = c.args.self.now in
    two-kept c.args.trail.now c.args.clauses.now q.lists q.watched_lits.items q.head c.args.lit c.args.at c.args.entry
    c.requires.right c.requires.watching c.requires.visiting c.requires.here c.requires.two c.follow.new.trail c.in_ok-follow.ensures.ok

pub returns-clause-visited : goal.returns-clause-visited
returns-clause-visited c =
    let q = c.args.self.now in
    two-next c.args.trail.now c.args.clauses.now q.lists q.watched_lits.items q.head c.args.lit c.args.at c.args.entry
    c.requires.right c.requires.watching c.requires.visiting c.requires.here c.requires.two c.follow.new.trail c.in_ok-follow.ensures.ok
