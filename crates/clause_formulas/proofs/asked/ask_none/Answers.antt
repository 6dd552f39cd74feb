use Rattle.std.proofs.Common.{subst, sym}
use Rattle.clause_store.specs.Lits.{AllBelow}
use Rattle.clause_formulas.specs.Statements.{any_statement}
use Rattle.clause_formulas.specs.Gated.{gated}
use Rattle.clause_formulas.proofs.GateLaws.{Keeps-trans, Keeps-extends}
use Rattle.clause_formulas.proofs.SpreadSteps.{spread-below}
use Rattle.clause_formulas.proofs.asked.ask_none.Goals as goal

pub spread_any-requires : goal.spread_any-requires
spread_any-requires c = record {
  parts_below = c.requires.parts_below;
  gates_below = c.requires.gates_below;
  draft_below = subst (λ d. AllBelow c.args.clauses.now.vars d.lits) (sym c.new-inner.ensures) tt;
}

pub covered-requires : goal.covered-requires
covered-requires c = spread-below (gated c.args.clauses.now c.args.gates.now) _ c.new-inner.result _ (any_statement c.args.parts.now)
    c.new-inner.ensures c.requires.gates_below c.requires.parts_below c.in_ok-spread_any.ensures.built

pub returns-in_err-value-clause-keeps : goal.returns-in_err-value-clause-keeps
returns-in_err-value-clause-keeps c = Keeps-trans _ _ _ c.spread_any.ensures.keeps
    (Keeps-extends _ _ _ c.spread_any.ensures.keeps.below c.covered.ensures.extends)

pub returns-clause-keeps : goal.returns-clause-keeps
returns-clause-keeps c = Keeps-trans _ _ _ c.spread_any.ensures.keeps
    (Keeps-extends _ _ _ c.spread_any.ensures.keeps.below c.covered.ensures.extends)
