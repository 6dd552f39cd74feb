use Rattle.std.proofs.Common.{◌∙◌, ◌≡◌, ◌+◌, ℕ, sym, ap, drop, arith}
use Rattle.std.proofs.lemmas.List.{at_drop_all}
use Rattle.log_checker.specs.Signs.{sign_of, strip}
use Rattle.log_checker.proofs.Overlays.{strip-step, strip-pass}
use Rattle.log_checker.proofs.chain.are_within.Goals as goal
use Rattle.log_checker.proofs.chain.are_within.Goals.{then-is_met, else-is_met}

pub loop-lit-preserved : goal.loop-lit-preserved
loop-lit-preserved c = elim c.if-is_met.branch [
  | then-is_met w ↦ λ x. ap (λ m. strip (drop (c.loop-lit.lit-index + 1) c.args.lits.now) (sign_of m) x) w.signs-is
      ∙ strip-step c.args.lits.now c.loop-lit.lit-index _ (sign_of c.loop-lit.signs) (sign_of w.remove.new.self) c.loop-lit-test.true
      (sym c.is_met.ensures ∙ w.if-is_met.true) w.remove.ensures x ∙ c.loop-lit.invariant x
  | else-is_met w ↦ λ x. ap (λ m. strip (drop (c.loop-lit.lit-index + 1) c.args.lits.now) (sign_of m) x) w.signs-is
      ∙ strip-pass c.args.lits.now c.loop-lit.lit-index _ (sign_of c.loop-lit.signs) c.loop-lit-test.true
      (sym c.is_met.ensures ∙ w.if-is_met.false) x ∙ c.loop-lit.invariant x
]

pub returns : goal.returns
returns c =
    let left : (x : ℕ) → sign_of c.loop-lit.signs x ≡ strip c.args.lits.now (sign_of c.args.signs.now) x =
    λ x. sym (at_drop_all (λ ls. strip ls (sign_of c.loop-lit.signs) x) c.args.lits.now c.loop-lit.lit-index
    (omega (arith, c.loop-lit-test.false))) ∙ c.loop-lit.invariant x in
    ((λ e x. sym (left x) ∙ c.is_empty.ensures.0 e x), (λ h. c.is_empty.ensures.1 (λ x. left x ∙ h x)))
