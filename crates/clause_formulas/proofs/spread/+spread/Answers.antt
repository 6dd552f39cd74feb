use Rattle.std.proofs.Common.{◌<◌, length, subst, sym, ap, refl, ◌∙◌, arith}
use Rattle.std.proofs.lemmas.Grind.{common_steps}
use Rattle.clause_store.specs.Lits.{AllBelow}
use Rattle.clause_formulas.specs.Statements.{any_statement, no, weight, SaidBelow}
use Rattle.clause_formulas.specs.Nodes.{said}
use Rattle.clause_formulas.specs.Gated.{gated}
use Rattle.clause_formulas.proofs.GateLaws.{Keeps-refl, Keeps-trans}
use Rattle.clause_formulas.proofs.SpreadSteps.{spread_at, spread-below, weight-at, SaidBelow-at}
use Rattle.clause_formulas.proofs.spread.+spread.Goals as goal

pub spread-spread_any-requires : goal.spread-spread_any-requires
spread-spread_any-requires t c =
    let e = sym c.formula.view_is ∙ ap said c.in-Any.is ∙ ap any_statement (sym c.as_slice.ensures.value) in (
      omega (arith, ap weight e),
      (subst (SaidBelow c.args.clauses.now.vars) e c.requires.formula_below, (c.requires.gates_below, c.requires.draft_below)),
    )

pub spread-spread_any-requires-in-NoneOf : goal.spread-spread_any-requires-in-NoneOf
spread-spread_any-requires-in-NoneOf t c =
    let e = sym c.formula.view_is ∙ ap said c.in-NoneOf.is ∙ ap (λ fs. no (any_statement fs)) (sym c.as_slice-in-NoneOf.ensures.value) in (
      omega (arith, ap weight e),
      (
        subst (SaidBelow c.args.clauses.now.vars) e c.requires.formula_below,
        (c.requires.gates_below, subst (λ d. AllBelow c.args.clauses.now.vars d.lits) (sym c.new-inner.ensures) tt),
      ),
    )

pub spread-named-requires : goal.spread-named-requires
spread-named-requires t c =
    let e = sym c.formula.view_is ∙ ap said c.in-NoneOf.is ∙ ap (λ fs. no (any_statement fs)) (sym c.as_slice-in-NoneOf.ensures.value) in
    record {
      draft_below = spread-below (gated c.args.clauses.now c.args.gates.now) _ c.new-inner.result _
          (any_statement c.as_slice-in-NoneOf.result.now)
          c.new-inner.ensures c.requires.gates_below (subst (SaidBelow c.args.clauses.now.vars) e c.requires.formula_below)
          c.in_ok-spread_any-in-NoneOf.ensures.built;
      gates_below = c.spread_any-in-NoneOf.ensures.keeps.below;
    }

pub spread-returns-in_err-value-in-NoneOf-clause-keeps : goal.spread-returns-in_err-value-in-NoneOf-clause-keeps
spread-returns-in_err-value-in-NoneOf-clause-keeps t c =
    Keeps-trans _ _ _ c.spread_any-in-NoneOf.ensures.keeps c.named.ensures.keeps

pub spread-returns-in-Atom-clause-keeps : goal.spread-returns-in-Atom-clause-keeps
spread-returns-in-Atom-clause-keeps t c = Keeps-refl _ c.requires.gates_below

pub spread-returns-in_ok-value-in-NoneOf-clause-keeps : goal.spread-returns-in_ok-value-in-NoneOf-clause-keeps
spread-returns-in_ok-value-in-NoneOf-clause-keeps t c = Keeps-trans _ _ _ c.spread_any-in-NoneOf.ensures.keeps c.named.ensures.keeps

pub spread_any-spread-requires : goal.spread_any-spread-requires
spread_any-spread-requires t c =
    let h : c.loop-part.part-index < length c.args.parts.now = omega arith in (
      omega (arith, weight-at c.args.parts.now c.loop-part.part-index c.part-item.result h c.part-item.is),
      (
        SaidBelow-at c.args.clauses.now.vars c.loop-part.clauses.vars c.args.parts.now c.loop-part.part-index c.part-item.result
            c.loop-part.invariant.keeps.extends.grows.more h c.part-item.is c.requires.parts_below,
        (c.loop-part.invariant.keeps.below, c.loop-part.invariant.below),
      ),
    )

pub spread_any-loop-part-init : goal.spread_any-loop-part-init
spread_any-loop-part-init t c = record { rest = refl; below = c.requires.draft_below; keeps = Keeps-refl _ c.requires.gates_below }

pub spread_any-returns-in_err-spread-clause-keeps : goal.spread_any-returns-in_err-spread-clause-keeps
spread_any-returns-in_err-spread-clause-keeps t c = Keeps-trans _ _ _ c.loop-part.invariant.keeps c.spread.ensures.keeps

pub spread_any-loop-part-preserved : goal.spread_any-loop-part-preserved
spread_any-loop-part-preserved t c = record {
  rest = grind (arith, common_steps);
  below = (spread_at (gated c.loop-part.clauses c.loop-part.gates) _ c.loop-part.draft _ c.part-item.result c.loop-part.invariant.below
      c.loop-part.invariant.keeps.below
      (SaidBelow-at c.args.clauses.now.vars c.loop-part.clauses.vars c.args.parts.now c.loop-part.part-index c.part-item.result
      c.loop-part.invariant.keeps.extends.grows.more (omega arith) c.part-item.is c.requires.parts_below)
      c.in_ok-spread.ensures.built).below;
  keeps = Keeps-trans _ _ _ c.loop-part.invariant.keeps c.spread.ensures.keeps;
}
