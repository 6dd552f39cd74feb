use Rattle.std.proofs.Common.{◌≡◌, ◌<◌, length, Some, sym, ap, ◌∙◌, subst, arith}
use Rattle.std.specs.Prelude.{slice_get}
use Rattle.std.proofs.lemmas.Option.{same_Some}
use Rattle.clause_watch.specs.Picks.{HasNoSlot}
use Rattle.clause_watch.proofs.Below.{at-read}
use Rattle.clause_watch.proofs.queue.Queue.watcher.Goals as goal

pub returns-in_default-clause-none : goal.returns-in_default-clause-none
returns-in_default-clause-none c =
    let os = c.args.self.now.watched_lits in
    let d = c.entry-entry.result in
    let within : d.place < length os.items = omega (arith, c.if-entry-len.false, c.len.ensures, os.ok.0) in
    let o = c.codes-order.result.now in
    let here : slice_get os.items d.place ≡ Some o = at-read os.items d.place c.index.result.now within c.index.ensures
    ∙ ap Some (sym c.codes-order.ensures) in record {
      entry = d;
      listed = c.entry-entry.ensures.here;
      none = λ y e. subst (λ z. HasNoSlot z c.args.lit) (same_Some o y (sym here ∙ e)) c.in_default.ensures.none;
    }

pub returns-clause-some : goal.returns-clause-some
returns-clause-some c =
    let os = c.args.self.now.watched_lits in
    let d = c.entry-entry.result in
    let within : d.place < length os.items = omega (arith, c.if-entry-len.false, c.len.ensures, os.ok.0) in record {
      small = c.entry-entry.ensures.small;
      id = let h = c.len.type_inv in omega (arith, c.if-entry-len.false, h);
      listed = c.entry-entry.ensures.here;
      order = c.codes-order.result.now;
      arrived = at-read os.items d.place c.index.result.now within c.index.ensures ∙ ap Some (sym c.codes-order.ensures);
      slot = c.in-Some.ensures.some;
      other = c.decoded-other.ensures;
    }
