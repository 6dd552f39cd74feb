use Rattle.std.proofs.Common.{◌≡◌, length, Some, sym, ap, ◌∙◌, arith}
use Rattle.std.specs.Prelude.{slice_get}
use Rattle.clause_watch.proofs.Propagated.{clause-in}
use Rattle.clause_watch.proofs.RowPlaces.{at-within}
use Rattle.clause_watch.proofs.NewVisits.{all-names, open-pair}
use Rattle.clause_watch.proofs.queue.Queue.visit_new.Goals as goal

pub first_open-requires : goal.first_open-requires
first_open-requires c =
    let t = c.args.trail.now in
    let q = c.args.self.now in
    let cs = c.args.clauses.now in
    let n : c.len-place.result ≡ length q.watched_lits.items = omega (arith, c.len-place.ensures, q.watched_lits.ok.0) in
    let x = c.lits-lits.result.now in
    let here : slice_get cs c.len-place.result ≡ Some x = c.lits-lits.ensures in
    let at : slice_get cs (length q.watched_lits.items) ≡ Some x = ap (slice_get cs) (sym n) ∙ here in
    let is = clause-in t.vars cs c.len-place.result x c.requires.right.in_order c.requires.right.in_range here in
    is.1

pub returns-in_default-clause-conflict : goal.returns-in_default-clause-conflict
returns-in_default-clause-conflict c =
    let t = c.args.trail.now in
    let q = c.args.self.now in
    let cs = c.args.clauses.now in
    let n : c.len-place.result ≡ length q.watched_lits.items = omega (arith, c.len-place.ensures, q.watched_lits.ok.0) in
    let x = c.lits-lits.result.now in
    let here : slice_get cs c.len-place.result ≡ Some x = c.lits-lits.ensures in
    let at : slice_get cs (length q.watched_lits.items) ≡ Some x = ap (slice_get cs) (sym n) ∙ here in
    let is = clause-in t.vars cs c.len-place.result x c.requires.right.in_order c.requires.right.in_range here in
    all-names cs t.placed c.len-place.result x here c.in_default.ensures.none

pub open_behind-requires : goal.open_behind-requires
open_behind-requires c =
    let t = c.args.trail.now in
    let q = c.args.self.now in
    let cs = c.args.clauses.now in
    let n : c.len-place.result ≡ length q.watched_lits.items = omega (arith, c.len-place.ensures, q.watched_lits.ok.0) in
    let x = c.lits-lits.result.now in
    let here : slice_get cs c.len-place.result ≡ Some x = c.lits-lits.ensures in
    let at : slice_get cs (length q.watched_lits.items) ≡ Some x = ap (slice_get cs) (sym n) ∙ here in
    let is = clause-in t.vars cs c.len-place.result x c.requires.right.in_order c.requires.right.in_range here in
    is.1

pub decoded-second-requires : goal.decoded-second-requires
decoded-second-requires c =
    let t = c.args.trail.now in
    let q = c.args.self.now in
    let cs = c.args.clauses.now in
    let n : c.len-place.result ≡ length q.watched_lits.items = omega (arith, c.len-place.ensures, q.watched_lits.ok.0) in
    let x = c.lits-lits.result.now in
    let here : slice_get cs c.len-place.result ≡ Some x = c.lits-lits.ensures in
    let at : slice_get cs (length q.watched_lits.items) ≡ Some x = ap (slice_get cs) (sym n) ∙ here in
    let is = clause-in t.vars cs c.len-place.result x c.requires.right.in_order c.requires.right.in_range here in
    at-within c.lits-lits.result.now c.in-Some-open_behind.at _ c.in-Some-open_behind.ensures.some.here

pub visit_open-requires-clause-pair : goal.visit_open-requires-clause-pair
visit_open-requires-clause-pair c =
    let t = c.args.trail.now in
    let q = c.args.self.now in
    let cs = c.args.clauses.now in
    let n : c.len-place.result ≡ length q.watched_lits.items = omega (arith, c.len-place.ensures, q.watched_lits.ok.0) in
    let x = c.lits-lits.result.now in
    let here : slice_get cs c.len-place.result ≡ Some x = c.lits-lits.ensures in
    let at : slice_get cs (length q.watched_lits.items) ≡ Some x = ap (slice_get cs) (sym n) ∙ here in
    let is = clause-in t.vars cs c.len-place.result x c.requires.right.in_order c.requires.right.in_range here in (
      x,
      at,
      open-pair t.placed x c.in-Some.first c.decoded-second.result c.in-Some-open_behind.at
          c.in-Some.ensures.stands
          c.in-Some.ensures.not_false c.decoded-second.ensures
          c.in-Some-open_behind.ensures.some,
    )

pub highest-requires : goal.highest-requires
highest-requires c =
    let t = c.args.trail.now in
    let q = c.args.self.now in
    let cs = c.args.clauses.now in
    let n : c.len-place.result ≡ length q.watched_lits.items = omega (arith, c.len-place.ensures, q.watched_lits.ok.0) in
    let x = c.lits-lits.result.now in
    let here : slice_get cs c.len-place.result ≡ Some x = c.lits-lits.ensures in
    let at : slice_get cs (length q.watched_lits.items) ≡ Some x = ap (slice_get cs) (sym n) ∙ here in
    let is = clause-in t.vars cs c.len-place.result x c.requires.right.in_order c.requires.right.in_range here in
    is.1

pub visit_lone-requires-clause-pair : goal.visit_lone-requires-clause-pair
visit_lone-requires-clause-pair c =
    let t = c.args.trail.now in
    let q = c.args.self.now in
    let cs = c.args.clauses.now in
    let n : c.len-place.result ≡ length q.watched_lits.items = omega (arith, c.len-place.ensures, q.watched_lits.ok.0) in
    let x = c.lits-lits.result.now in
    let here : slice_get cs c.len-place.result ≡ Some x = c.lits-lits.ensures in
    let at : slice_get cs (length q.watched_lits.items) ≡ Some x = ap (slice_get cs) (sym n) ∙ here in
    let is = clause-in t.vars cs c.len-place.result x c.requires.right.in_order c.requires.right.in_range here in (
      x,
      at,
      record {
        has_first = c.in-Some.ensures.stands;
        not_false = c.in-Some.ensures.not_false;
        others = c.in_default-open_behind.ensures.none;
        highest = c.in-Some-highest.ensures.some;
      },
    )

pub visit_single-requires-clause-single : goal.visit_single-requires-clause-single
visit_single-requires-clause-single c =
    let t = c.args.trail.now in
    let q = c.args.self.now in
    let cs = c.args.clauses.now in
    let n : c.len-place.result ≡ length q.watched_lits.items = omega (arith, c.len-place.ensures, q.watched_lits.ok.0) in
    let x = c.lits-lits.result.now in
    let here : slice_get cs c.len-place.result ≡ Some x = c.lits-lits.ensures in
    let at : slice_get cs (length q.watched_lits.items) ≡ Some x = ap (slice_get cs) (sym n) ∙ here in
    let is = clause-in t.vars cs c.len-place.result x c.requires.right.in_order c.requires.right.in_range here in (
      x,
      at,
      record {
        has_first = c.in-Some.ensures.stands;
        not_false = c.in-Some.ensures.not_false;
        only = c.in-None.ensures.none;
      },
    )
