use Rattle.std.proofs.Common.{sym, ◌∙◌, arith}
use Rattle.clause_store.proofs.Order.{IsClause-with_lit, with_lits-step}
use Rattle.clause_store.proofs.clause.put_all.Goals as goal

pub loop-lit-preserved : goal.loop-lit-preserved
loop-lit-preserved c =
    let e = c.in_ok-put.ensures.fits c.if-not-branch.false in (
      IsClause-with_lit _ _ _ c.loop-lit.invariant.0 e,
      sym (with_lits-step _ _ c.args.lits.now c.loop-lit.lit-index _ (omega arith) e)
          ∙ c.loop-lit.invariant.1,
    )
