use Rattle.std.proofs.Common.{◌≡◌, ◌++◌, ◌∷◌, [], length, sym, ap, ◌∙◌, subst, arith}
use Rattle.std.specs.Prelude.{slice_get}
use Rattle.clause_watch.specs.Watching.{IsKept}
use Rattle.clause_watch.proofs.Propagated.{clause-in, has-below}
use Rattle.clause_watch.proofs.WatchingLaws.{watching-grown}
use Rattle.clause_watch.proofs.NewVisits.{single-arrived, single-grown, follow-err}
use Rattle.clause_watch.proofs.queue.Queue.visit_single.Goals as goal

pub follow-requires-clause-in_range : goal.follow-requires-clause-in_range
follow-requires-clause-in_range c =
    let t = c.args.trail.now in
    let q = c.args.self.now in
    let cs = c.args.clauses.now in
    let table = q.lists in
    let watched_lits = q.watched_lits.items in
    let n : c.len-place.result ≡ length watched_lits = omega (arith, c.len-place.ensures, q.watched_lits.ok.0) in
    let p = c.requires.single in
    let is = clause-in t.vars cs (length watched_lits) p.0 c.requires.right.in_order c.requires.right.in_range p.1 in
    has-below t.vars p.0 c.args.first is.1 p.2.has_first

pub follow-requires-clause-not_false : goal.follow-requires-clause-not_false
follow-requires-clause-not_false c =
    let t = c.args.trail.now in
    let q = c.args.self.now in
    let cs = c.args.clauses.now in
    let table = q.lists in
    let watched_lits = q.watched_lits.items in
    let n : c.len-place.result ≡ length watched_lits = omega (arith, c.len-place.ensures, q.watched_lits.ok.0) in
    let p = c.requires.single in
    let is = clause-in t.vars cs (length watched_lits) p.0 c.requires.right.in_order c.requires.right.in_range p.1 in
    p.2.not_false

pub returns-in_err-follow-clause-grown : goal.returns-in_err-follow-clause-grown
returns-in_err-follow-clause-grown c =
    let t = c.args.trail.now in
    let q = c.args.self.now in
    let cs = c.args.clauses.now in
    let table = q.lists in
    let watched_lits = q.watched_lits.items in
    let n : c.len-place.result ≡ length watched_lits = omega (arith, c.len-place.ensures, q.watched_lits.ok.0) in
    follow-err cs t c.follow.new.trail c.in_err-follow.ensures.err

pub returns-in_err-follow-clause-watching : goal.returns-in_err-follow-clause-watching
returns-in_err-follow-clause-watching c =
    let t = c.args.trail.now in
    let q = c.args.self.now in
    let cs = c.args.clauses.now in
    let table = q.lists in
    let watched_lits = q.watched_lits.items in
    let n : c.len-place.result ≡ length watched_lits = omega (arith, c.len-place.ensures, q.watched_lits.ok.0) in
    watching-grown cs t c.follow.new.trail table watched_lits q.head (follow-err cs t c.follow.new.trail c.in_err-follow.ensures.err)
    c.requires.watching

pub returns-in_err-push-clause-grown : goal.returns-in_err-push-clause-grown
returns-in_err-push-clause-grown c =
    let t = c.args.trail.now in
    let q = c.args.self.now in
    let cs = c.args.clauses.now in
    let table = q.lists in
    let watched_lits = q.watched_lits.items in
    let n : c.len-place.result ≡ length watched_lits = omega (arith, c.len-place.ensures, q.watched_lits.ok.0) in
    let p = c.requires.single in
    let is = clause-in t.vars cs (length watched_lits) p.0 c.requires.right.in_order c.requires.right.in_range p.1 in
    single-grown cs t c.follow.new.trail table table watched_lits watched_lits q.head c.len-place.result p.0 c.requires.right
    c.requires.watching n (ap (slice_get cs) n ∙ p.1) c.args.first p.2 c.in_ok-follow.ensures.ok

pub returns-in_err-push-clause-watching : goal.returns-in_err-push-clause-watching
returns-in_err-push-clause-watching c =
    let t = c.args.trail.now in
    let q = c.args.self.now in
    let cs = c.args.clauses.now in
    let table = q.lists in
    let watched_lits = q.watched_lits.items in
    let n : c.len-place.result ≡ length watched_lits = omega (arith, c.len-place.ensures, q.watched_lits.ok.0) in
    let p = c.requires.single in
    let is = clause-in t.vars cs (length watched_lits) p.0 c.requires.right.in_order c.requires.right.in_range p.1 in
    subst (λ xs. IsKept c.follow.new.trail.vars cs c.follow.new.trail.placed table xs q.head) (sym c.in_err-push.ensures.items)
    (watching-grown cs t c.follow.new.trail table watched_lits q.head
    (single-grown cs t c.follow.new.trail table table watched_lits watched_lits q.head c.len-place.result p.0 c.requires.right
    c.requires.watching n (ap (slice_get cs) n ∙ p.1) c.args.first p.2 c.in_ok-follow.ensures.ok) c.requires.watching)

pub returns-clause-grown : goal.returns-clause-grown
returns-clause-grown c =
    let t = c.args.trail.now in
    let q = c.args.self.now in
    let cs = c.args.clauses.now in
    let table = q.lists in
    let watched_lits = q.watched_lits.items in
    let n : c.len-place.result ≡ length watched_lits = omega (arith, c.len-place.ensures, q.watched_lits.ok.0) in
    let p = c.requires.single in
    let is = clause-in t.vars cs (length watched_lits) p.0 c.requires.right.in_order c.requires.right.in_range p.1 in
    single-grown cs t c.follow.new.trail table table watched_lits watched_lits q.head c.len-place.result p.0 c.requires.right
    c.requires.watching n (ap (slice_get cs) n ∙ p.1) c.args.first p.2 c.in_ok-follow.ensures.ok

pub returns-clause-watching : goal.returns-clause-watching
returns-clause-watching c =
    let t = c.args.trail.now in
    let q = c.args.self.now in
    let cs = c.args.clauses.now in
    let table = q.lists in
    let watched_lits = q.watched_lits.items in
    let n : c.len-place.result ≡ length watched_lits = omega (arith, c.len-place.ensures, q.watched_lits.ok.0) in
    let p = c.requires.single in
    let is = clause-in t.vars cs (length watched_lits) p.0 c.requires.right.in_order c.requires.right.in_range p.1 in
    single-arrived cs t c.follow.new.trail table table watched_lits c.push.new.self.items q.head c.len-place.result p.0 c.requires.right
    c.requires.watching n (ap (slice_get cs) n ∙ p.1) c.args.first p.2 c.in_ok-follow.ensures.ok
    (c.in_ok-push.ensures.items ∙ ap (λ o. watched_lits ++ o ∷ []) c.in_ok-order.ensures)
