use Rattle.std.proofs.Common.{◌<◌, length, subst, sym, ap, refl, ◌∙◌, arith}
use Rattle.std.proofs.lemmas.Grind.{common_steps}
use Rattle.clause_formulas.specs.Statements.{any_statement, no, weight, SaidBelow}
use Rattle.clause_formulas.specs.Nodes.{said}
use Rattle.clause_formulas.specs.Gated.{gated}
use Rattle.clause_formulas.proofs.GateLaws.{Keeps-refl, Keeps-trans}
use Rattle.clause_formulas.proofs.SpreadSteps.{ask_at, weight-at, SaidBelow-at}
use Rattle.clause_formulas.proofs.asked.+ask.Goals as goal

pub ask-ask_any-requires : goal.ask-ask_any-requires
ask-ask_any-requires t c =
    let e = sym c.formula.view_is ∙ ap said c.in-Any.is ∙ ap any_statement (sym c.as_slice.ensures.value) in (
      omega (arith, ap weight e),
      (subst (SaidBelow c.args.clauses.now.vars) e c.requires.formula_below, (c.requires.gates_below, c.requires.draft_below)),
    )

pub ask-ask_none-requires : goal.ask-ask_none-requires
ask-ask_none-requires t c =
    let e = sym c.formula.view_is ∙ ap said c.in-NoneOf.is ∙ ap (λ fs. no (any_statement fs)) (sym c.as_slice-in-NoneOf.ensures.value) in
    record { parts_below = subst (SaidBelow c.args.clauses.now.vars) e c.requires.formula_below; gates_below = c.requires.gates_below }

pub ask_any-ask-requires : goal.ask_any-ask-requires
ask_any-ask-requires t c =
    let h : c.loop-part.part-index < length c.args.parts.now = omega arith in (
      omega (arith, weight-at c.args.parts.now c.loop-part.part-index c.part-item.result h c.part-item.is),
      (
        SaidBelow-at c.args.clauses.now.vars c.loop-part.clauses.vars c.args.parts.now c.loop-part.part-index c.part-item.result
            c.loop-part.invariant.keeps.extends.grows.more h c.part-item.is c.requires.parts_below,
        (c.loop-part.invariant.keeps.below, c.loop-part.invariant.below),
      ),
    )

pub ask_any-loop-part-preserved : goal.ask_any-loop-part-preserved
ask_any-loop-part-preserved t c =
    let a = ask_at (gated c.loop-part.clauses c.loop-part.gates) _ c.loop-part.draft _ c.part-item.result c.loop-part.invariant.below
    c.loop-part.invariant.keeps.below
    (SaidBelow-at c.args.clauses.now.vars c.loop-part.clauses.vars c.args.parts.now c.loop-part.part-index c.part-item.result
    c.loop-part.invariant.keeps.extends.grows.more (omega arith) c.part-item.is c.requires.parts_below)
    c.in_ok-ask.ensures.built in
    record {
      rest = grind (arith, common_steps);
      below = a.below;
      keeps = Keeps-trans _ _ _ c.loop-part.invariant.keeps c.ask.ensures.keeps;
    }

pub ask-returns-in-Atom-clause-keeps : goal.ask-returns-in-Atom-clause-keeps
ask-returns-in-Atom-clause-keeps t c = Keeps-refl _ c.requires.gates_below

pub ask_any-loop-part-init : goal.ask_any-loop-part-init
ask_any-loop-part-init t c = record { rest = refl; below = c.requires.draft_below; keeps = Keeps-refl _ c.requires.gates_below }

pub ask_any-returns-in_err-ask-clause-keeps : goal.ask_any-returns-in_err-ask-clause-keeps
ask_any-returns-in_err-ask-clause-keeps t c = Keeps-trans _ _ _ c.loop-part.invariant.keeps c.ask.ensures.keeps
