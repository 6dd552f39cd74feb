use Rattle.std.proofs.Common.{◌≡◌, length, true, sym, ap, ◌∙◌, subst, arith}
use Rattle.std.specs.Prelude.{slice_get}
use Rattle.std.proofs.lemmas.Option.{same_Some}
use Rattle.clause_store.specs.Lits.{has, IsClause}
use Rattle.clause_watch.specs.Picks.{WatchesPair}
use Rattle.clause_watch.specs.Watching.{IsKept}
use Rattle.clause_watch.proofs.Propagated.{clause-in, has-below}
use Rattle.clause_watch.proofs.Rows.{index-below}
use Rattle.clause_watch.proofs.WatchingLaws.{kept-listed, watching-grown}
use Rattle.clause_watch.proofs.NewVisits.{lone-arrived, lone-grown, at-has-at, follow-err}
use Rattle.clause_watch.proofs.queue.Queue.visit_lone.Goals as goal

pub list_pair-requires-clause-first : goal.list_pair-requires-clause-first
list_pair-requires-clause-first c =
    let t = c.args.trail.now in
    let q = c.args.self.now in
    let cs = c.args.clauses.now in
    let table = q.lists in
    let watched_lits = q.watched_lits.items in
    let n : c.len-place.result ≡ length watched_lits = omega (arith, c.len-place.ensures, q.watched_lits.ok.0) in
    let p = c.requires.pair in
    let is = clause-in t.vars cs (length watched_lits) p.0 c.requires.right.in_order c.requires.right.in_range p.1 in
    let h = index-below t.vars c.args.first (has-below t.vars p.0 c.args.first is.1 p.2.has_first) in
    omega (arith, h, c.requires.watching.tables)

pub list_pair-requires-clause-second : goal.list_pair-requires-clause-second
list_pair-requires-clause-second c =
    let t = c.args.trail.now in
    let q = c.args.self.now in
    let cs = c.args.clauses.now in
    let table = q.lists in
    let watched_lits = q.watched_lits.items in
    let n : c.len-place.result ≡ length watched_lits = omega (arith, c.len-place.ensures, q.watched_lits.ok.0) in
    let p = c.requires.pair in
    let is = clause-in t.vars cs (length watched_lits) p.0 c.requires.right.in_order c.requires.right.in_range p.1 in
    let h = index-below t.vars c.args.second (has-below t.vars p.0 c.args.second is.1 p.2.highest.stands) in
    omega (arith, h, c.requires.watching.tables)

pub list_pair-requires-clause-has_first : goal.list_pair-requires-clause-has_first
list_pair-requires-clause-has_first c =
    let t = c.args.trail.now in
    let q = c.args.self.now in
    let cs = c.args.clauses.now in
    let table = q.lists in
    let watched_lits = q.watched_lits.items in
    let n : c.len-place.result ≡ length watched_lits = omega (arith, c.len-place.ensures, q.watched_lits.ok.0) in
    let p = c.requires.pair in
    let is = clause-in t.vars cs (length watched_lits) p.0 c.requires.right.in_order c.requires.right.in_range p.1 in
    at-has-at cs c.len-place.result (length watched_lits) p.0 c.args.first n p.1 p.2.has_first

pub list_pair-requires-clause-has_second : goal.list_pair-requires-clause-has_second
list_pair-requires-clause-has_second c =
    let t = c.args.trail.now in
    let q = c.args.self.now in
    let cs = c.args.clauses.now in
    let table = q.lists in
    let watched_lits = q.watched_lits.items in
    let n : c.len-place.result ≡ length watched_lits = omega (arith, c.len-place.ensures, q.watched_lits.ok.0) in
    let p = c.requires.pair in
    let is = clause-in t.vars cs (length watched_lits) p.0 c.requires.right.in_order c.requires.right.in_range p.1 in
    at-has-at cs c.len-place.result (length watched_lits) p.0 c.args.second n p.1 p.2.highest.stands

pub of_pair-requires-clause-in_order : goal.of_pair-requires-clause-in_order
of_pair-requires-clause-in_order c =
    let t = c.args.trail.now in
    let q = c.args.self.now in
    let cs = c.args.clauses.now in
    let table = q.lists in
    let watched_lits = q.watched_lits.items in
    let n : c.len-place.result ≡ length watched_lits = omega (arith, c.len-place.ensures, q.watched_lits.ok.0) in
    let p = c.requires.pair in
    let is = clause-in t.vars cs (length watched_lits) p.0 c.requires.right.in_order c.requires.right.in_range p.1 in
    let same : c.lits.result.now ≡ p.0 = same_Some _ p.0 (sym c.lits.ensures ∙ ap (slice_get cs) n ∙ p.1) in
    subst IsClause (sym same) is.0

pub of_pair-requires-clause-first : goal.of_pair-requires-clause-first
of_pair-requires-clause-first c =
    let t = c.args.trail.now in
    let q = c.args.self.now in
    let cs = c.args.clauses.now in
    let table = q.lists in
    let watched_lits = q.watched_lits.items in
    let n : c.len-place.result ≡ length watched_lits = omega (arith, c.len-place.ensures, q.watched_lits.ok.0) in
    let p = c.requires.pair in
    let is = clause-in t.vars cs (length watched_lits) p.0 c.requires.right.in_order c.requires.right.in_range p.1 in
    let same : c.lits.result.now ≡ p.0 = same_Some _ p.0 (sym c.lits.ensures ∙ ap (slice_get cs) n ∙ p.1) in
    subst (λ x. has x c.args.first ≡ true) (sym same) p.2.has_first

pub of_pair-requires-clause-second : goal.of_pair-requires-clause-second
of_pair-requires-clause-second c =
    let t = c.args.trail.now in
    let q = c.args.self.now in
    let cs = c.args.clauses.now in
    let table = q.lists in
    let watched_lits = q.watched_lits.items in
    let n : c.len-place.result ≡ length watched_lits = omega (arith, c.len-place.ensures, q.watched_lits.ok.0) in
    let p = c.requires.pair in
    let is = clause-in t.vars cs (length watched_lits) p.0 c.requires.right.in_order c.requires.right.in_range p.1 in
    let same : c.lits.result.now ≡ p.0 = same_Some _ p.0 (sym c.lits.ensures ∙ ap (slice_get cs) n ∙ p.1) in
    subst (λ x. has x c.args.second ≡ true) (sym same) p.2.highest.stands

pub returns-in_err-list_pair-clause-watching : goal.returns-in_err-list_pair-clause-watching
returns-in_err-list_pair-clause-watching c =
    let t = c.args.trail.now in
    let q = c.args.self.now in
    let cs = c.args.clauses.now in
    let table = q.lists in
    let watched_lits = q.watched_lits.items in
    let n : c.len-place.result ≡ length watched_lits = omega (arith, c.len-place.ensures, q.watched_lits.ok.0) in
    kept-listed t.vars cs t.placed table c.list_pair.new.lists watched_lits q.head c.list_pair.ensures.grown c.requires.watching

pub returns-in_err-order-clause-watching : goal.returns-in_err-order-clause-watching
returns-in_err-order-clause-watching c =
    let t = c.args.trail.now in
    let q = c.args.self.now in
    let cs = c.args.clauses.now in
    let table = q.lists in
    let watched_lits = q.watched_lits.items in
    let n : c.len-place.result ≡ length watched_lits = omega (arith, c.len-place.ensures, q.watched_lits.ok.0) in
    kept-listed t.vars cs t.placed table c.list_pair.new.lists watched_lits q.head c.list_pair.ensures.grown c.requires.watching

pub follow-requires-clause-in_range : goal.follow-requires-clause-in_range
follow-requires-clause-in_range c =
    let t = c.args.trail.now in
    let q = c.args.self.now in
    let cs = c.args.clauses.now in
    let table = q.lists in
    let watched_lits = q.watched_lits.items in
    let n : c.len-place.result ≡ length watched_lits = omega (arith, c.len-place.ensures, q.watched_lits.ok.0) in
    let p = c.requires.pair in
    let is = clause-in t.vars cs (length watched_lits) p.0 c.requires.right.in_order c.requires.right.in_range p.1 in
    has-below t.vars p.0 c.args.first is.1 p.2.has_first

pub follow-requires-clause-not_false : goal.follow-requires-clause-not_false
follow-requires-clause-not_false c =
    let t = c.args.trail.now in
    let q = c.args.self.now in
    let cs = c.args.clauses.now in
    let table = q.lists in
    let watched_lits = q.watched_lits.items in
    let n : c.len-place.result ≡ length watched_lits = omega (arith, c.len-place.ensures, q.watched_lits.ok.0) in
    let p = c.requires.pair in
    let is = clause-in t.vars cs (length watched_lits) p.0 c.requires.right.in_order c.requires.right.in_range p.1 in
    p.2.not_false

pub returns-in_err-follow-clause-grown : goal.returns-in_err-follow-clause-grown
returns-in_err-follow-clause-grown c =
    let t = c.args.trail.now in
    let q = c.args.self.now in
    let cs = c.args.clauses.now in
    let table = q.lists in
    let watched_lits = q.watched_lits.items in
    let n : c.len-place.result ≡ length watched_lits = omega (arith, c.len-place.ensures, q.watched_lits.ok.0) in
    follow-err cs t c.follow.new.trail c.in_err-follow.ensures.err

pub returns-in_err-follow-clause-watching : goal.returns-in_err-follow-clause-watching
returns-in_err-follow-clause-watching c =
    let t = c.args.trail.now in
    let q = c.args.self.now in
    let cs = c.args.clauses.now in
    let table = q.lists in
    let watched_lits = q.watched_lits.items in
    let n : c.len-place.result ≡ length watched_lits = omega (arith, c.len-place.ensures, q.watched_lits.ok.0) in
    watching-grown cs t c.follow.new.trail c.list_pair.new.lists watched_lits q.head
    (follow-err cs t c.follow.new.trail c.in_err-follow.ensures.err)
    (kept-listed t.vars cs t.placed table c.list_pair.new.lists watched_lits q.head c.list_pair.ensures.grown c.requires.watching)

pub returns-in_err-push-clause-grown : goal.returns-in_err-push-clause-grown
returns-in_err-push-clause-grown c =
    let t = c.args.trail.now in
    let q = c.args.self.now in
    let cs = c.args.clauses.now in
    let table = q.lists in
    let watched_lits = q.watched_lits.items in
    let n : c.len-place.result ≡ length watched_lits = omega (arith, c.len-place.ensures, q.watched_lits.ok.0) in
    let p = c.requires.pair in
    let is = clause-in t.vars cs (length watched_lits) p.0 c.requires.right.in_order c.requires.right.in_range p.1 in
    lone-grown cs t c.follow.new.trail table c.list_pair.new.lists watched_lits watched_lits q.head c.len-place.result p.0 c.requires.right
    c.requires.watching n (ap (slice_get cs) n ∙ p.1) c.args.first c.args.second p.2 c.in_ok-follow.ensures.ok

pub returns-in_err-push-clause-watching : goal.returns-in_err-push-clause-watching
returns-in_err-push-clause-watching c =
    let t = c.args.trail.now in
    let q = c.args.self.now in
    let cs = c.args.clauses.now in
    let table = q.lists in
    let watched_lits = q.watched_lits.items in
    let n : c.len-place.result ≡ length watched_lits = omega (arith, c.len-place.ensures, q.watched_lits.ok.0) in
    let p = c.requires.pair in
    let is = clause-in t.vars cs (length watched_lits) p.0 c.requires.right.in_order c.requires.right.in_range p.1 in
    subst (λ xs. IsKept c.follow.new.trail.vars cs c.follow.new.trail.placed c.list_pair.new.lists xs q.head)
    (sym c.in_err-push.ensures.items)
    (watching-grown cs t c.follow.new.trail c.list_pair.new.lists watched_lits q.head
    (lone-grown cs t c.follow.new.trail table c.list_pair.new.lists watched_lits watched_lits q.head c.len-place.result p.0 c.requires.right
    c.requires.watching n (ap (slice_get cs) n ∙ p.1) c.args.first c.args.second p.2 c.in_ok-follow.ensures.ok)
    (kept-listed t.vars cs t.placed table c.list_pair.new.lists watched_lits q.head c.list_pair.ensures.grown c.requires.watching))

pub returns-clause-grown : goal.returns-clause-grown
returns-clause-grown c =
    let t = c.args.trail.now in
    let q = c.args.self.now in
    let cs = c.args.clauses.now in
    let table = q.lists in
    let watched_lits = q.watched_lits.items in
    let n : c.len-place.result ≡ length watched_lits = omega (arith, c.len-place.ensures, q.watched_lits.ok.0) in
    let p = c.requires.pair in
    let is = clause-in t.vars cs (length watched_lits) p.0 c.requires.right.in_order c.requires.right.in_range p.1 in
    lone-grown cs t c.follow.new.trail table c.list_pair.new.lists watched_lits watched_lits q.head c.len-place.result p.0 c.requires.right
    c.requires.watching n (ap (slice_get cs) n ∙ p.1) c.args.first c.args.second p.2 c.in_ok-follow.ensures.ok

pub returns-clause-watching : goal.returns-clause-watching
returns-clause-watching c =
    let t = c.args.trail.now in
    let q = c.args.self.now in
    let cs = c.args.clauses.now in
    let table = q.lists in
    let watched_lits = q.watched_lits.items in
    let n : c.len-place.result ≡ length watched_lits = omega (arith, c.len-place.ensures, q.watched_lits.ok.0) in
    let p = c.requires.pair in
    let is = clause-in t.vars cs (length watched_lits) p.0 c.requires.right.in_order c.requires.right.in_range p.1 in
    let same : c.lits.result.now ≡ p.0 = same_Some _ p.0 (sym c.lits.ensures ∙ ap (slice_get cs) n ∙ p.1) in
    lone-arrived cs t c.follow.new.trail table c.list_pair.new.lists watched_lits c.push.new.self.items q.head c.len-place.result p.0
    c.requires.right
    c.requires.watching n (ap (slice_get cs) n ∙ p.1) c.args.first c.args.second p.2 c.in_ok-order.order c.in_ok-follow.ensures.ok
    c.list_pair.ensures.grown
    c.in_ok-list_pair.ensures.first c.in_ok-list_pair.ensures.second
    (subst (λ x. WatchesPair x c.args.first c.args.second c.in_ok-order.order) same c.in_ok-order.ensures) c.in_ok-push.ensures.items
