use Rattle.std.proofs.Common.{sym, ap, subst, ◌∙◌}
use Rattle.std.specs.List.{All}
use Rattle.std.proofs.lemmas.List.Elements.{All-push}
use Rattle.clause_watch.specs.Watches.{IsWatcher}
use Rattle.clause_watch.proofs.WatcherLaws.{watcher-watches}
use Rattle.clause_watch.proofs.queue.Queue.watchers.Goals as goal
use Rattle.clause_watch.proofs.queue.Queue.watchers.Goals.{in-Some+in_ok-push, in_default}

pub loop-at-preserved : goal.loop-at-preserved
loop-at-preserved c =
    let t = c.args.trail.now in
    let q = c.args.self.now in
    let P = IsWatcher c.args.clauses.now c.args.lit in
    elim c.match-watcher.branch [
      | in-Some+in_ok-push w ↦
          let watches = watcher-watches t.vars c.args.clauses.now t.placed q.lists q.watched_lits.items q.head c.args.lit c.loop-at.at
          w.in-Some.watcher c.requires.watching w.in-Some.ensures.some in
          subst (All P) (sym (ap (λ ids. ids.items) w.ids-is ∙ w.in_ok-push.ensures.items))
          (All-push P c.loop-at.ids.items w.id.result c.loop-at.invariant (subst P (sym w.id.ensures) watches))
      | in_default w ↦ subst (All P) (sym (ap (λ ids. ids.items) w.ids-is)) c.loop-at.invariant
    ]
