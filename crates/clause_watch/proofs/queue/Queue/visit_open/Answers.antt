use Rattle.std.proofs.Common.{◌≡◌, length, true, sym, ap, ◌∙◌, subst, arith}
use Rattle.std.specs.Prelude.{slice_get}
use Rattle.std.proofs.lemmas.Option.{same_Some}
use Rattle.clause_store.specs.Lits.{has, IsClause}
use Rattle.clause_watch.specs.Picks.{WatchesPair}
use Rattle.clause_watch.specs.Watching.{IsKept}
use Rattle.clause_watch.proofs.Propagated.{clause-in, has-below}
use Rattle.clause_watch.proofs.Rows.{index-below}
use Rattle.clause_watch.proofs.WatchingLaws.{kept-listed}
use Rattle.clause_watch.proofs.NewVisits.{open-arrived, at-has-at}
use Rattle.clause_watch.proofs.queue.Queue.visit_open.Goals as goal

pub list_pair-requires-clause-first : goal.list_pair-requires-clause-first
list_pair-requires-clause-first c =
    let t = c.args.trail.now in
    let q = c.args.self.now in
    let cs = c.args.clauses.now in
    let table = q.lists in
    let watched_lits = q.watched_lits.items in
    let n : c.len-place.result ≡ length watched_lits = omega (arith, c.len-place.ensures, q.watched_lits.ok.0) in
    let p = c.requires.pair in
    let is = clause-in t.vars cs (length watched_lits) p.0 c.requires.right.in_order c.requires.right.in_range p.1 in
    let h = index-below t.vars c.args.first (has-below t.vars p.0 c.args.first is.1 p.2.has_first) in
    omega (arith, h, c.requires.watching.tables)

pub list_pair-requires-clause-second : goal.list_pair-requires-clause-second
list_pair-requires-clause-second c =
    let t = c.args.trail.now in
    let q = c.args.self.now in
    let cs = c.args.clauses.now in
    let table = q.lists in
    let watched_lits = q.watched_lits.items in
    let n : c.len-place.result ≡ length watched_lits = omega (arith, c.len-place.ensures, q.watched_lits.ok.0) in
    let p = c.requires.pair in
    let is = clause-in t.vars cs (length watched_lits) p.0 c.requires.right.in_order c.requires.right.in_range p.1 in
    let h = index-below t.vars c.args.second (has-below t.vars p.0 c.args.second is.1 p.2.has_second) in
    omega (arith, h, c.requires.watching.tables)

pub list_pair-requires-clause-has_first : goal.list_pair-requires-clause-has_first
list_pair-requires-clause-has_first c =
    let t = c.args.trail.now in
    let q = c.args.self.now in
    let cs = c.args.clauses.now in
    let table = q.lists in
    let watched_lits = q.watched_lits.items in
    let n : c.len-place.result ≡ length watched_lits = omega (arith, c.len-place.ensures, q.watched_lits.ok.0) in
    let p = c.requires.pair in
    let is = clause-in t.vars cs (length watched_lits) p.0 c.requires.right.in_order c.requires.right.in_range p.1 in
    at-has-at cs c.len-place.result (length watched_lits) p.0 c.args.first n p.1 p.2.has_first

pub list_pair-requires-clause-has_second : goal.list_pair-requires-clause-has_second
list_pair-requires-clause-has_second c =
    let t = c.args.trail.now in
    let q = c.args.self.now in
    let cs = c.args.clauses.now in
    let table = q.lists in
    let watched_lits = q.watched_lits.items in
    let n : c.len-place.result ≡ length watched_lits = omega (arith, c.len-place.ensures, q.watched_lits.ok.0) in
    let p = c.requires.pair in
    let is = clause-in t.vars cs (length watched_lits) p.0 c.requires.right.in_order c.requires.right.in_range p.1 in
    at-has-at cs c.len-place.result (length watched_lits) p.0 c.args.second n p.1 p.2.has_second

pub of_pair-requires-clause-in_order : goal.of_pair-requires-clause-in_order
of_pair-requires-clause-in_order c =
    let t = c.args.trail.now in
    let q = c.args.self.now in
    let cs = c.args.clauses.now in
    let table = q.lists in
    let watched_lits = q.watched_lits.items in
    let n : c.len-place.result ≡ length watched_lits = omega (arith, c.len-place.ensures, q.watched_lits.ok.0) in
    let p = c.requires.pair in
    let is = clause-in t.vars cs (length watched_lits) p.0 c.requires.right.in_order c.requires.right.in_range p.1 in
    let same : c.lits.result.now ≡ p.0 = same_Some _ p.0 (sym c.lits.ensures ∙ ap (slice_get cs) n ∙ p.1) in
    subst IsClause (sym same) is.0

pub of_pair-requires-clause-first : goal.of_pair-requires-clause-first
of_pair-requires-clause-first c =
    let t = c.args.trail.now in
    let q = c.args.self.now in
    let cs = c.args.clauses.now in
    let table = q.lists in
    let watched_lits = q.watched_lits.items in
    let n : c.len-place.result ≡ length watched_lits = omega (arith, c.len-place.ensures, q.watched_lits.ok.0) in
    let p = c.requires.pair in
    let is = clause-in t.vars cs (length watched_lits) p.0 c.requires.right.in_order c.requires.right.in_range p.1 in
    let same : c.lits.result.now ≡ p.0 = same_Some _ p.0 (sym c.lits.ensures ∙ ap (slice_get cs) n ∙ p.1) in
    subst (λ x. has x c.args.first ≡ true) (sym same) p.2.has_first

pub of_pair-requires-clause-second : goal.of_pair-requires-clause-second
of_pair-requires-clause-second c =
    let t = c.args.trail.now in
    let q = c.args.self.now in
    let cs = c.args.clauses.now in
    let table = q.lists in
    let watched_lits = q.watched_lits.items in
    let n : c.len-place.result ≡ length watched_lits = omega (arith, c.len-place.ensures, q.watched_lits.ok.0) in
    let p = c.requires.pair in
    let is = clause-in t.vars cs (length watched_lits) p.0 c.requires.right.in_order c.requires.right.in_range p.1 in
    let same : c.lits.result.now ≡ p.0 = same_Some _ p.0 (sym c.lits.ensures ∙ ap (slice_get cs) n ∙ p.1) in
    subst (λ x. has x c.args.second ≡ true) (sym same) p.2.has_second

pub returns-in_err-list_pair-clause-watching : goal.returns-in_err-list_pair-clause-watching
returns-in_err-list_pair-clause-watching c =
    let t = c.args.trail.now in
    let q = c.args.self.now in
    let cs = c.args.clauses.now in
    let table = q.lists in
    let watched_lits = q.watched_lits.items in
    let n : c.len-place.result ≡ length watched_lits = omega (arith, c.len-place.ensures, q.watched_lits.ok.0) in
    kept-listed t.vars cs t.placed table c.list_pair.new.lists watched_lits q.head c.list_pair.ensures.grown c.requires.watching

pub returns-in_err-order-clause-watching : goal.returns-in_err-order-clause-watching
returns-in_err-order-clause-watching c =
    let t = c.args.trail.now in
    let q = c.args.self.now in
    let cs = c.args.clauses.now in
    let table = q.lists in
    let watched_lits = q.watched_lits.items in
    let n : c.len-place.result ≡ length watched_lits = omega (arith, c.len-place.ensures, q.watched_lits.ok.0) in
    kept-listed t.vars cs t.placed table c.list_pair.new.lists watched_lits q.head c.list_pair.ensures.grown c.requires.watching

pub returns-in_err-push-clause-watching : goal.returns-in_err-push-clause-watching
returns-in_err-push-clause-watching c =
    let t = c.args.trail.now in
    let q = c.args.self.now in
    let cs = c.args.clauses.now in
    let table = q.lists in
    let watched_lits = q.watched_lits.items in
    let n : c.len-place.result ≡ length watched_lits = omega (arith, c.len-place.ensures, q.watched_lits.ok.0) in
    subst (λ xs. IsKept t.vars cs t.placed c.list_pair.new.lists xs q.head) (sym c.in_err-push.ensures.items)
    (kept-listed t.vars cs t.placed table c.list_pair.new.lists watched_lits q.head c.list_pair.ensures.grown c.requires.watching)

pub returns-clause-watching : goal.returns-clause-watching
returns-clause-watching c =
    let t = c.args.trail.now in
    let q = c.args.self.now in
    let cs = c.args.clauses.now in
    let table = q.lists in
    let watched_lits = q.watched_lits.items in
    let n : c.len-place.result ≡ length watched_lits = omega (arith, c.len-place.ensures, q.watched_lits.ok.0) in
    let p = c.requires.pair in
    let is = clause-in t.vars cs (length watched_lits) p.0 c.requires.right.in_order c.requires.right.in_range p.1 in
    let same : c.lits.result.now ≡ p.0 = same_Some _ p.0 (sym c.lits.ensures ∙ ap (slice_get cs) n ∙ p.1) in
    open-arrived cs t t table c.list_pair.new.lists watched_lits c.push.new.self.items q.head c.len-place.result p.0 c.requires.right
    c.requires.watching n (ap (slice_get cs) n ∙ p.1) c.args.first c.args.second c.in_ok-order.order p.2 c.list_pair.ensures.grown
    c.in_ok-list_pair.ensures.first c.in_ok-list_pair.ensures.second
    (subst (λ x. WatchesPair x c.args.first c.args.second c.in_ok-order.order) same c.in_ok-order.ensures) c.in_ok-push.ensures.items
