use Rattle.std.proofs.Common.{◌∙◌}
use Rattle.std.proofs.lemmas.Result.{IfOk-weaker}
use Rattle.clause_formulas.specs.Gated.{gated}
use Rattle.clause_formulas.proofs.GateLaws.{Keeps-trans}
use Rattle.clause_formulas.proofs.SpreadSteps.{spread-below}
use Rattle.clause_formulas.proofs.CallSteps.{define-step, define_at}
use Rattle.clause_formulas.proofs.values.define_in.Goals as goal

pub named-requires : goal.named-requires
named-requires c = record {
  draft_below = spread-below (gated c.args.clauses.now c.args.gates.now) _ c.new-draft.result _ c.args.formula.now c.new-draft.ensures
      c.requires.gates_below c.requires.formula_below c.in_ok-spread.ensures.built;
  gates_below = c.spread.ensures.keeps.below;
}

pub returns-clause-built : goal.returns-clause-built
returns-clause-built c =
    IfOk-weaker c.named.result _ _ (λ x e. define-step (gated c.args.clauses.now c.args.gates.now) _ c.new-draft.result _ c.args.formula.now
    c.new-draft.ensures c.in_ok-spread.ensures.built ∙ e) c.named.ensures.built

pub returns-clause-value : goal.returns-clause-value
returns-clause-value c =
    IfOk-weaker c.named.result _ _ (λ x e. define_at (gated c.args.clauses.now c.args.gates.now) _ c.args.formula.now x
    c.requires.gates_below c.requires.formula_below
    (define-step (gated c.args.clauses.now c.args.gates.now) _ c.new-draft.result _ c.args.formula.now c.new-draft.ensures
    c.in_ok-spread.ensures.built ∙ e)) c.named.ensures.built

pub returns-clause-keeps : goal.returns-clause-keeps
returns-clause-keeps c = Keeps-trans _ _ _ c.spread.ensures.keeps c.named.ensures.keeps
