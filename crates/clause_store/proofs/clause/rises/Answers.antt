use Rattle.std.proofs.Common.{◌≡◌, ◌-◌, ◌+◌, [], ◌∷◌, ◌++◌, drop, length, refl, ap, ◌∙◌, arith}
use Rattle.std.proofs.Math.Seq.{drop-length}
use Rattle.clause_store.proofs.Headed.{rises-step, rises-end}
use Rattle.clause_store.proofs.clause.rises.Goals as goal

pub loop-i-init : goal.loop-i-init
loop-i-init c =
    let z : length c.args.lits.now - 0 ≡ length c.args.lits.now = omega arith in (
      [],
      ap (λ n. drop n c.args.lits.now ++ c.args.last ∷ []) z ∙ ap (λ ls. ls ++ c.args.last ∷ []) (drop-length c.args.lits.now),
      (tt, tt),
    )

pub loop-i-preserved : goal.loop-i-preserved
loop-i-preserved c =
    rises-step c.args.lits.now c.loop-i.invariant.0 c.args.last c.loop-i.next _ _ (length c.args.lits.now - c.loop-i.i)
    (length c.args.lits.now - (c.loop-i.i + 1)) (omega arith) (omega arith) refl c.loop-i.invariant.1 c.loop-i.invariant.2 (omega arith)

pub returns : goal.returns
returns c _ = rises-end c.args.lits.now c.loop-i.invariant.0 c.args.last c.loop-i.next (length c.args.lits.now - c.loop-i.i) (omega arith)
    c.loop-i.invariant.1 c.loop-i.invariant.2
