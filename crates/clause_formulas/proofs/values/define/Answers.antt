use Rattle.std.proofs.lemmas.Result.{IfOk-weaker}
use Rattle.clause_formulas.proofs.CallSteps.{define-alone, define_at-alone}
use Rattle.clause_formulas.proofs.values.define.Goals as goal

pub define_in-requires : goal.define_in-requires
define_in-requires c = record { formula_below = c.requires; gates_below = c.new-gates.ensures.below _ }

pub returns-clause-built : goal.returns-clause-built
returns-clause-built c =
    IfOk-weaker c.define_in.result _ _ (λ x e. define-alone c.args.clauses.now _ c.new-gates.result _ c.args.formula.now x
    c.new-gates.ensures.value e) c.define_in.ensures.built

pub returns-clause-value : goal.returns-clause-value
returns-clause-value c =
    IfOk-weaker c.define_in.result _ _ (λ x e. define_at-alone c.args.clauses.now _ c.args.formula.now x c.requires
    (define-alone c.args.clauses.now _ c.new-gates.result _ c.args.formula.now x c.new-gates.ensures.value e)) c.define_in.ensures.built

pub returns-clause-extends : goal.returns-clause-extends
returns-clause-extends c = c.define_in.ensures.keeps.extends
