use Rattle.std.proofs.lemmas.Result.{on_ok_weaker}
use Rattle.clause_formulas.specs.Gated.{gated}
use Rattle.clause_formulas.proofs.CallSteps.{demand-step, demand_at}
use Rattle.clause_formulas.proofs.AllowLaws.{demand-called}
use Rattle.clause_formulas.proofs.claims.demand_in.Goals as goal

pub returns-clause-built : goal.returns-clause-built
returns-clause-built c =
    on_ok_weaker c.add_draft.result (demand-step (gated c.args.clauses.now c.args.gates.now) _ _ c.args.formula.now c.args.id
    c.in_ok-value.value c.new-draft.result _ c.in_ok-value.ensures.built c.new-draft.ensures c.in_ok-put.ensures) c.add_draft.ensures.built

pub returns-clause-says : goal.returns-clause-says
returns-clause-says c = on_ok_weaker c.add_draft.result (demand_at (gated c.args.clauses.now c.args.gates.now) _ c.args.formula.now
    c.args.id c.requires.gates_below c.requires.formula_below) (returns-clause-built c)

pub returns-clause-allows : goal.returns-clause-allows
returns-clause-allows c =
    demand-called c.add_draft.result (gated c.args.clauses.now c.args.gates.now) (gated c.define_in.new.clauses c.define_in.new.gates) _
    c.args.formula.now c.args.id c.requires.gates_below c.requires.formula_below c.define_in.ensures.keeps
    (returns-clause-built c) c.add_draft.ensures.err
