use Rattle.std.proofs.Common.{◌≡◌, ◌+◌, length, ap, ◌∙◌, refl, arith}
use Rattle.proof_log.specs.Lines.{learnt_in}
use Rattle.proof_log.proofs.Logs.{learnt_in-push, learnt_in-le}
use Rattle.clause_watch.specs.Watches.{WatchValue, with_known}
use Rattle.clause_solver.proofs.SearchSteps.{learns, learnt-addable}
use Rattle.clause_solver.proofs.search.Search.learn.Goals as goal

pub add-requires-clause-settled : goal.add-requires-clause-settled
add-requires-clause-settled c = learnt-addable c.args.self.now.watch c.backtrack.new.watch c.in_ok-clause.field-0 c.level-level.result
    c.in_ok-clause.ensures.learnt c.level-level.ensures.either c.backtrack.ensures.kept c.backtrack.ensures.depth

pub overflow_add-self : goal.overflow_add-self
overflow_add-self c =
    let s = c.args.self.now in
    let n : learnt_in c.push.new.self ≡ learnt_in s.log + 1 = ap learnt_in c.in_ok-push.ensures.ok ∙ learnt_in-push s.log _ in
    let m = learnt_in-le c.push.new.self in
    let k : length c.lines.result.now ≡ length c.push.new.self = ap length c.lines.ensures in
    omega (arith, n, m, k, c.lines.type_inv.0, c.requires.search.learnt)

pub returns : goal.returns
returns c =
    let s = c.args.self.now in
    let a = c.backtrack.ensures.kept in
    let l = c.in_ok-clause.field-0 in
    learns s _ l c.next_id-id.result c.level-level.result c.requires.search c.requires.open_log c.in_ok-clause.ensures.learnt
    (c.next_id-id.ensures ∙ ap (λ (w : WatchValue). length w.clauses + 1) a)
    (c.in_ok-add.ensures.ok ∙ ap (λ w. with_known w l.clause) a)
    c.in_ok-push.ensures.ok refl refl refl refl refl c.in_ok-clause.ensures.same c.in_ok-clause.ensures.unseen
