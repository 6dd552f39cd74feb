use Rattle.std.proofs.lemmas.Grind.{common_steps}
use Rattle.std.proofs.Common.{ap, arith}
use Rattle.clause_formulas.specs.Gated.{gated}
use Rattle.clause_formulas.specs.Built.{define_all_in}
use Rattle.clause_formulas.proofs.GateLaws.{Keeps-refl, Keeps-trans}
use Rattle.clause_formulas.proofs.SpreadSteps.{SaidBelow-at}
use Rattle.clause_formulas.proofs.CallSteps.{after, define_all_at}
use Rattle.clause_formulas.proofs.values.define_all_in.Goals as goal

pub loop-formula-init : goal.loop-formula-init
loop-formula-init c = record {
  rest = ap (λ ds. after ds (define_all_in (gated c.args.clauses.now c.args.gates.now) c.args.formulas.now)) c.new-values.ensures.items;
  keeps = Keeps-refl _ c.requires.gates_below;
}

pub define_in-requires : goal.define_in-requires
define_in-requires c = record {
  formula_below = SaidBelow-at c.args.clauses.now.vars c.loop-formula.clauses.vars c.args.formulas.now c.loop-formula.formula-index
      c.formula-item.result c.loop-formula.invariant.keeps.extends.grows.more (omega arith) c.formula-item.is c.requires.formulas_below;
  gates_below = c.loop-formula.invariant.keeps.below;
}

pub returns-in_err-define_in-clause-keeps : goal.returns-in_err-define_in-clause-keeps
returns-in_err-define_in-clause-keeps c = Keeps-trans _ _ _ c.loop-formula.invariant.keeps c.define_in.ensures.keeps

pub returns-in_err-push-clause-keeps : goal.returns-in_err-push-clause-keeps
returns-in_err-push-clause-keeps c = Keeps-trans _ _ _ c.loop-formula.invariant.keeps c.define_in.ensures.keeps

pub loop-formula-preserved : goal.loop-formula-preserved
loop-formula-preserved c =
    record {
      rest = grind (arith, common_steps);
      keeps = Keeps-trans _ _ _ c.loop-formula.invariant.keeps c.define_in.ensures.keeps;
    }

pub returns-clause-values : goal.returns-clause-values
returns-clause-values c =
    define_all_at (gated c.args.clauses.now c.args.gates.now) (gated c.loop-formula.clauses c.loop-formula.gates) c.args.formulas.now
    c.loop-formula.values.items c.requires.gates_below c.requires.formulas_below
    (grind (arith, common_steps))
