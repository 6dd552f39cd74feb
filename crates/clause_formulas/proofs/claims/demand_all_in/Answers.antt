use Rattle.std.proofs.lemmas.Grind.{common_steps}
use Rattle.std.proofs.Common.{refl, arith}
use Rattle.clause_formulas.specs.Gated.{gated}
use Rattle.clause_formulas.proofs.SpreadSteps.{SaidBelow-at}
use Rattle.clause_formulas.proofs.CallSteps.{demand_all_at}
use Rattle.clause_formulas.proofs.AllowLaws.{AllowsIn-refl, AllowsIn-then, demanded}
use Rattle.clause_formulas.proofs.claims.demand_all_in.Goals as goal

pub demand_in-requires : goal.demand_in-requires
demand_in-requires c = record {
  formula_below = SaidBelow-at c.args.clauses.now.vars c.loop-i.clauses.vars c.args.formulas.now c.loop-i.i c.index-formulas-i.result
      c.loop-i.invariant.allows.grows.more (omega arith) c.index-formulas-i.is c.requires.formulas_below;
  gates_below = c.loop-i.invariant.allows.below;
}

pub returns-clause-says : goal.returns-clause-says
returns-clause-says c =
    demand_all_at (gated c.args.clauses.now c.args.gates.now) (gated c.loop-i.clauses c.loop-i.gates) c.args.formulas.now
    c.requires.gates_below c.requires.formulas_below
    (grind (arith, common_steps))

pub loop-i-init : goal.loop-i-init
loop-i-init c = record { rest = refl; allows = AllowsIn-refl _ _ c.requires.gates_below }

pub loop-i-preserved : goal.loop-i-preserved
loop-i-preserved c = record {
  rest = grind (arith, common_steps);
  allows =
      AllowsIn-then _ _ _ _ _ c.requires.gates_below c.loop-i.invariant.allows c.demand_in.ensures.allows
      (demanded c.args.clauses.now.vars c.args.formulas.now c.loop-i.i c.index-formulas-i.result (omega arith) c.index-formulas-i.is
      c.requires.formulas_below);
}

pub returns-in_err-demand_in-clause-allows : goal.returns-in_err-demand_in-clause-allows
returns-in_err-demand_in-clause-allows c =
    AllowsIn-then _ _ _ _ _ c.requires.gates_below c.loop-i.invariant.allows c.demand_in.ensures.allows
    (demanded c.args.clauses.now.vars c.args.formulas.now c.loop-i.i c.index-formulas-i.result (omega arith) c.index-formulas-i.is
    c.requires.formulas_below)
