use Rattle.std.proofs.Common.{ap, ◌∙◌, ◌^◌, arith}
use Rattle.clause_store.specs.Kept.{code_of, lits_of_codes}
use Rattle.clause_store.proofs.Range.{AllBelow-le}
use Rattle.clause_store.proofs.Kept.{AllBelow-at, map-step, map-done}
use Rattle.clause_formulas.proofs.KeyLaws.{lits-codes}
use Rattle.clause_formulas.proofs.gates.codes_of.Goals as goal

pub code_of-requires : goal.code_of-requires
code_of-requires c =
    AllBelow-at _ c.args.lits.now c.loop-lit.lit-index _
    (AllBelow-le c.args.clauses.now.vars (2 ^ 63) c.args.lits.now (omega (arith, c.vars-below.ensures.value, c.vars-below.ensures.small))
    c.requires)
    (omega arith)

pub loop-lit-preserved : goal.loop-lit-preserved
loop-lit-preserved c =
    map-step code_of _ _ c.args.lits.now c.loop-lit.lit-index _ _ (omega arith) c.in_ok-push.ensures.items c.code_of.ensures
    ∙ c.loop-lit.invariant

pub returns : goal.returns
returns c =
    ap lits_of_codes (map-done code_of _ _ c.args.lits.now c.loop-lit.lit-index (omega arith) c.loop-lit.invariant)
    ∙ lits-codes c.args.lits.now
