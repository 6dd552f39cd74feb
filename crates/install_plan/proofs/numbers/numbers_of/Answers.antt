use Rattle.std.proofs.Common.{◌≡◌, ◌<◌, ◌≤◌, subst, sym, length, inl, inr, ⊎_elim, Contains, arith}
use Rattle.std.proofs.lemmas.Bool.{cases_lt}
use Rattle.std.proofs.lemmas.List.Elements.{All-contains, Contains-push}
use Rattle.install_plan.specs.Numbers.{Waits}
use Rattle.install_plan.proofs.SettleLaws.{all_numbered}
use Rattle.install_plan.proofs.NumbersAlone.{none_before}
use Rattle.install_plan.proofs.numbers.numbers_of.Goals as goal

pub loop-place-preserved : goal.loop-place-preserved
loop-place-preserved c = record {
  right = c.in_ok-settle.ensures.right;
  waits = λ p lt none. ⊎_elim
      (λ (less : p < c.loop-place.place). c.in_ok-settle.ensures.waits p none (inr (c.loop-place.invariant.waits p less
      (none_before c.loop-place.numbers.items c.settle.new.numbers.items p c.in_ok-settle.ensures.kept none))))
      (λ (le : c.loop-place.place ≤ p). let same : p ≡ c.loop-place.place = omega (arith, lt, le) in
      c.in_ok-settle.ensures.waits p none (inl same))
      (cases_lt p c.loop-place.place);
}

pub wake-requires-clause-place : goal.wake-requires-clause-place
wake-requires-clause-place c = All-contains (λ p. p < length c.args.heads.now) c.loop-place-2.settled.items c.in-Some.place
    c.loop-place-2.invariant.right.within
    (subst (λ s. Contains s c.in-Some.place) (sym c.in-Some.ensures.items) (Contains-push c.pop.new.self.items c.in-Some.place))

pub loop-place-2-preserved : goal.loop-place-2-preserved
loop-place-2-preserved c = record {
  right = c.in_ok-wake.ensures.right;
  waits = λ p lt none. c.in_ok-wake.ensures.waits p none
      (subst (λ s. Waits c.args.heads.now c.loop-place-2.numbers.items c.loop-place-2.waiting.items s p) c.in-Some.ensures.items
      (c.loop-place-2.invariant.waits p lt
      (none_before c.loop-place-2.numbers.items c.wake.new.numbers.items p c.in_ok-wake.ensures.kept none)));
}

pub returns : goal.returns
returns c = record {
  each = c.loop-place-2.invariant.right.each;
  right = λ p lt. c.loop-place-2.invariant.right.right p
      (all_numbered c.args.heads.now c.requires.within c.requires.heights c.loop-place-2.numbers.items
      (λ q q_lt none.
      let w = c.loop-place-2.invariant.waits q q_lt none in
      (w.0, w.1, ⊎_elim (λ unset. unset) (λ has. absurd (omega (arith, has.1, c.in_default.ensures.cases.0))) w.2)) p lt);
}
