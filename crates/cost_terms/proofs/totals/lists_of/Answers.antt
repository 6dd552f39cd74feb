use Rattle.std.proofs.lemmas.Result.{IfOk-weaker}
use Rattle.cost_terms.proofs.Steps.{lists-alone}
use Rattle.cost_terms.proofs.totals.lists_of.Goals as goal

pub returns-clause-built : goal.returns-clause-built
returns-clause-built c = IfOk-weaker c.lists_in.result _ _
    (λ terms e. lists-alone c.args.clauses.now _ _ _ c.args.lists.now terms.items c.new-gates.ensures.value e) c.lists_in.ensures.built

pub returns-clause-extends : goal.returns-clause-extends
returns-clause-extends c = c.lists_in.ensures.keeps.extends
