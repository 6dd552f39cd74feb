use Rattle.std.proofs.Common.{◌≡◌, ◌<◌, ◌∙◌, [], length, arith}
use Rattle.std.proofs.lemmas.List.{get_or_default, get_or_read}
use Rattle.install_plan.specs.Numbers.{number_at}
use Rattle.install_plan.proofs.SettleLaws.{settles_wait, settles_number}
use Rattle.install_plan.proofs.numbers.settle.Goals as goal

pub returns-in_ok-push : goal.returns-in_ok-push
returns-in_ok-push c =
    let children = c.as_slice-children.ensures
    ∙ get_or_read c.args.heads.now c.args.waiter.place _ c.requires.waiter.place c.index-heads-place.is [] in
    let settles = settles_wait c.args.heads.now c.requires.within c.args.numbers.now.items c.args.waiting.now.items
    c.args.settled.now.items c.args.waiter
    c.requires.right c.requires.waiter c.as_slice-children.result.now children c.first_missing-next.result
    (rw c.as_slice.ensures.value at c.first_missing-next.ensures.passed) c.if-next-children.true
    (rw c.as_slice.ensures.value at (c.first_missing-next.ensures.stop c.if-next-children.true)) c.index_mut-list.result.now c.push.new.self
    c.index_mut-list.ensures.value c.in_ok-push.ensures.ok in
    record { right = settles.right; kept = settles.kept; work = settles.work; waits = settles.waits }

pub returns-in_ok-push-2 : goal.returns-in_ok-push-2
returns-in_ok-push-2 c =
    let children = c.as_slice-children.ensures
    ∙ get_or_read c.args.heads.now c.args.waiter.place _ c.requires.waiter.place c.index-heads-place.is [] in
    let lt : c.args.waiter.place < length c.args.numbers.now.items = omega (arith, c.requires.waiter.place, c.requires.right.each) in
    let own : c.index.result.now ≡ number_at c.args.numbers.now.items c.args.waiter.place =
    c.index.ensures ∙ get_or_default c.args.numbers.now.items c.args.waiter.place c.index.result.now 0 lt in
    let none : number_at c.args.numbers.now.items c.args.waiter.place ≡ 0 = omega (arith, own, c.if-index-gt0.false) in
    let settles = settles_number c.args.heads.now c.requires.within c.args.numbers.now.items c.args.waiting.now.items
    c.args.settled.now.items c.args.waiter
    c.requires.right c.requires.waiter c.as_slice-children.result.now children c.first_missing-next.result
    (rw c.as_slice.ensures.value at c.first_missing-next.ensures.passed) c.greatest.result c.if-next-children.false none
    (rw c.as_slice-else-next-children.ensures.value at c.greatest.ensures.above)
    (rw c.as_slice-else-next-children.ensures.value at c.greatest.ensures.there) c.push-else-next-children.new.self.items
    c.in_ok-push-2.ensures.items in
    record { right = settles.right; kept = settles.kept; work = settles.work; waits = settles.waits }
