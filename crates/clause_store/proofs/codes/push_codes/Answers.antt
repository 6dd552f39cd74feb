use Rattle.std.proofs.Common.{◌∙◌, arith}
use Rattle.clause_store.specs.Kept.{code_of}
use Rattle.clause_store.proofs.Kept.{AllBelow-at, map-step, map-done}
use Rattle.clause_store.proofs.codes.push_codes.Goals as goal

pub code_of-requires : goal.code_of-requires
code_of-requires c = AllBelow-at _ c.args.lits.now c.loop-lit.lit-index _ c.requires.below (omega arith)

pub loop-lit-preserved : goal.loop-lit-preserved
loop-lit-preserved c = (
  map-step code_of _ _ c.args.lits.now c.loop-lit.lit-index _ _ (omega arith) c.push_within.ensures.items c.code_of.ensures
      ∙ c.loop-lit.invariant.0,
  omega (arith, c.push_within.ensures.len, c.push_within.ensures.room, c.loop-lit.invariant.1),
  omega (arith, c.push_within.ensures.len, c.loop-lit.invariant.2),
  omega (arith, c.push_within.ensures.room, c.loop-lit.invariant.3),
)

pub returns-clause-items : goal.returns-clause-items
returns-clause-items c = map-done code_of _ _ c.args.lits.now c.loop-lit.lit-index (omega arith) c.loop-lit.invariant.0
