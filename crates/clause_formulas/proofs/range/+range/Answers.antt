use Rattle.std.proofs.Common.{◌<◌, length, ap, sym, ◌∙◌, arith}
use Rattle.std.proofs.lemmas.Bool.{false≢true}
use Rattle.clause_formulas.specs.Statements.{any_statement, no, weight}
use Rattle.clause_formulas.specs.Nodes.{said}
use Rattle.clause_formulas.proofs.SpreadSteps.{weight-at, SaidBelow-at}
use Rattle.clause_formulas.proofs.range.+range.Goals as goal

pub is_below-are_below-requires : goal.is_below-are_below-requires
is_below-are_below-requires t c =
    let e = sym c.formula.view_is ∙ ap said c.in-Any.is ∙ ap any_statement (sym c.as_slice.ensures.value) in
    (omega (arith, ap weight e), tt)

pub is_below-are_below-requires-in-NoneOf : goal.is_below-are_below-requires-in-NoneOf
is_below-are_below-requires-in-NoneOf t c =
    let e = sym c.formula.view_is ∙ ap said c.in-NoneOf.is ∙ ap (λ fs. no (any_statement fs)) (sym c.as_slice-in-NoneOf.ensures.value) in
    (omega (arith, ap weight e), tt)

pub are_below-is_below-requires : goal.are_below-is_below-requires
are_below-is_below-requires t c =
    let h : c.loop-formula.formula-index < length c.args.formulas.now = omega arith in
    (omega (arith, weight-at c.args.formulas.now c.loop-formula.formula-index c.formula-item.result h c.formula-item.is), tt)

pub are_below-returns-then-not-is_below : goal.are_below-returns-then-not-is_below
are_below-returns-then-not-is_below t c = (
  λ h. absurd (false≢true h),
  λ b. absurd (false≢true (sym c.if-not-is_below.true
      ∙ c.is_below.ensures.1 (SaidBelow-at c.args.vars c.args.vars c.args.formulas.now c.loop-formula.formula-index c.formula-item.result
      (omega arith) (omega arith) c.formula-item.is b))),
)
