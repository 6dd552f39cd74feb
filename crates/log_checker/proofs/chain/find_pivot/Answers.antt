use Rattle.std.proofs.Common.{◌∙◌, ◌≡◌, ◌+◌, Option, None, sym, subst, drop}
use Rattle.clause_store.specs.declared.Lit.{Lit}
use Rattle.log_checker.specs.Signs.{sign_of}
use Rattle.log_checker.specs.Uses.{only_pivot}
use Rattle.log_checker.proofs.Parts.{pivot-twice, pivot-found, pivot-passed}
use Rattle.log_checker.proofs.chain.find_pivot.Goals as goal
use Rattle.log_checker.proofs.chain.find_pivot.Goals.{then-is_opposed+else-is_other, else-is_opposed}

pub returns-then-is_other : goal.returns-then-is_other
returns-then-is_other c = pivot-twice
    (sign_of c.args.signs.now) c.loop-lit.pivot c.args.lits.now c.loop-lit.lit-index _ c.loop-lit-test.true c.loop-lit.invariant
    (sym c.is_opposed.ensures ∙ c.if-is_opposed.true) (sym c.is_other.ensures ∙ c.if-is_other.true)

pub loop-lit-preserved : goal.loop-lit-preserved
loop-lit-preserved c =
    let f = sign_of c.args.signs.now in
    let P : Option Lit → Type 0 = λ p. only_pivot f p (drop (c.loop-lit.lit-index + 1) c.args.lits.now)
    ≡ only_pivot f None c.args.lits.now in
    elim c.if-is_opposed.branch [
      | then-is_opposed+else-is_other w ↦ subst P (sym w.pivot-is)
          (pivot-found f c.loop-lit.pivot c.args.lits.now c.loop-lit.lit-index _ c.loop-lit-test.true c.loop-lit.invariant
          (sym c.is_opposed.ensures ∙ w.if-is_opposed.true) (sym w.is_other.ensures ∙ w.if-is_other.false))
      | else-is_opposed w ↦ subst P (sym w.pivot-is)
          (pivot-passed f c.loop-lit.pivot c.args.lits.now c.loop-lit.lit-index _ c.loop-lit-test.true c.loop-lit.invariant
          (sym c.is_opposed.ensures ∙ w.if-is_opposed.false))
    ]
