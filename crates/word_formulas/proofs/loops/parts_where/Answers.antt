use Rattle.std.proofs.Common.{◌≡◌, ap, refl, subst, ◌∙◌, IfOk}
use Rattle.std.proofs.lemmas.Fn.{says_at}
use Rattle.std.proofs.lemmas.List.{drop_all}
use Rattle.word_formulas.proofs.Where.{parts, passed, skipped, all_passed}
use Rattle.word_formulas.proofs.loops.parts_where.Goals as goal
use Rattle.word_formulas.proofs.loops.parts_where.Goals.{then-test+in_ok-part+in_ok-push, else-test}

pub loop-item-preserved : goal.loop-item-preserved
loop-item-preserved g c = λ p formula is builds.
    let told = is _ _ (says_at g.P.Fn c.test.ensures refl) in
    let before = c.loop-item.parts.items in
    let x = c.item-item.result in
    elim c.if-test.branch [
      | then-test+in_ok-part+in_ok-push w ↦ passed p formula before c.if-test.parts.items c.args.items.now c.loop-item.item-index x
          c.test.result w.in_ok-part.field-0
          (parts p formula c.args.items.now) c.loop-item-test.true c.item-item.is told w.if-test.true
          (subst (λ r. IfOk r (λ s. s ≡ formula x)) w.in_ok-part.was (builds _ _ (says_at g.F.Fn w.part.ensures refl)))
          (ap (λ s. s.items) w.parts-is ∙ w.in_ok-push.ensures.items) (c.loop-item.invariant p formula is builds)
      | else-test w ↦ skipped p formula before c.if-test.parts.items c.args.items.now c.loop-item.item-index x c.test.result
          (parts p formula c.args.items.now) c.loop-item-test.true c.item-item.is told w.if-test.false
          (ap (λ s. s.items) w.parts-is) (c.loop-item.invariant p formula is builds)
    ]

pub returns : goal.returns
returns g c = λ p formula is builds. all_passed p formula c.loop-item.parts.items c.args.items.now c.loop-item.item-index
    (drop_all c.loop-item.item-index c.args.items.now c.loop-item-test.false) (c.loop-item.invariant p formula is builds)
