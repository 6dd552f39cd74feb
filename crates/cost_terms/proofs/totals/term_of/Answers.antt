use Rattle.std.proofs.lemmas.Result.{IfOk-weaker}
use Rattle.clause_formulas.specs.Gated.{gated}
use Rattle.clause_formulas.proofs.GateLaws.{Keeps-trans, Keeps-extends}
use Rattle.cost_terms.proofs.Steps.{one-step}
use Rattle.cost_terms.proofs.totals.term_of.Goals as goal

pub returns-clause-built : goal.returns-clause-built
returns-clause-built c = IfOk-weaker c.term_for.result _ _
    (λ r e. one-step (gated c.args.clauses.now c.args.gates.now) _ _ _ c.args.one.now _ r c.in_ok-value.ensures.built e)
    c.term_for.ensures.built

pub returns-clause-keeps : goal.returns-clause-keeps
returns-clause-keeps c = Keeps-trans _ _ _ c.define_in.ensures.keeps
    (Keeps-extends _ _ _ c.define_in.ensures.keeps.below c.term_for.ensures.extends)
