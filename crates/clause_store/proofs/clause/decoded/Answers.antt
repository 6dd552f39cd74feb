use Rattle.std.proofs.Common.{◌∙◌, arith}
use Rattle.clause_store.specs.Kept.{lit_of_code}
use Rattle.clause_store.proofs.Kept.{map-step, map-done}
use Rattle.clause_store.proofs.clause.decoded.Goals as goal

pub loop-code-preserved : goal.loop-code-preserved
loop-code-preserved c =
    map-step lit_of_code _ _ c.args.codes.now c.loop-code.code-index _ _ (omega arith) c.in_ok-push.ensures.ok c.lit_of_code.ensures
    ∙ c.loop-code.invariant

pub returns : goal.returns
returns c = map-done lit_of_code _ _ c.args.codes.now c.loop-code.code-index (omega arith) c.loop-code.invariant
