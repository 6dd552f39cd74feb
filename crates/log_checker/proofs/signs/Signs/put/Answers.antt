use Rattle.std.proofs.Common.{◌∙◌, sym, ap, subst, Some, arith}
use Rattle.log_checker.specs.Signs.{sign_of, with_sign, AreTouched}
use Rattle.log_checker.proofs.Marks.{mark-put, above-put, touched-put, above-kept}
use Rattle.log_checker.proofs.Places.{get-index}
use Rattle.log_checker.proofs.signs.Signs.put.Goals as goal

pub invariant_of-self-then-place-len : goal.invariant_of-self-then-place-len
invariant_of-self-then-place-len c = (
  subst (AreTouched _) (sym c.in_ok-touch.ensures.ok)
      (touched-put c.self.inside.marks.items c.self.inside.touched.items c.args.var c.index.result.now (Some c.args.sign)
      (get-index c.self.inside.marks.items c.args.var c.index.result.now (omega (arith, c.if-place-len.true, c.len.ensures))
      ∙ ap Some (sym c.index.ensures)) c.self.invariant.0),
  above-kept c.self.inside.marks.items c.self.inside.above.entries c.args.var (Some c.args.sign) c.self.invariant.1,
)

pub returns-in_ok-touch : goal.returns-in_ok-touch
returns-in_ok-touch c = λ x. mark-put c.self.inside.marks.items c.self.inside.above.entries c.args.var (Some c.args.sign)
    (omega (arith, c.if-place-len.true, c.len.ensures)) x ∙ ap (λ s. with_sign (sign_of s) c.args.var (Some c.args.sign) x) c.self.view_is

pub returns-in_ok-insert : goal.returns-in_ok-insert
returns-in_ok-insert c = λ x. above-put c.self.inside.marks.items c.self.inside.above c.insert.new.self c.args.var (Some c.args.sign)
    (omega (arith, c.if-place-len.false, c.len.ensures)) c.in_ok-insert.ensures.updates x
    ∙ ap (λ s. with_sign (sign_of s) c.args.var (Some c.args.sign) x) c.self.view_is
