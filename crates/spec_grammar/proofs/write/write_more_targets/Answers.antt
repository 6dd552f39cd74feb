use Rattle.std.proofs.Common.{refl, [], ◌∷◌}
use Rattle.spec_grammar.specs.Canonical.{more_targets, target_text}
use Rattle.spec_grammar.proofs.LoopLaws.{written}
use Rattle.spec_grammar.proofs.write.write_more_targets.Goals as goal

pub loop-target-preserved : goal.loop-target-preserved
loop-target-preserved c =
    rw (c.in_ok-write_target.ensures, c.in_ok-write_bytes.ensures)
    (written more_targets (44 ∷ []) target_text (λ t targets. refl) c.args.targets.now c.loop-target.target-index c.target-item.result
    c.loop-target.out.items _ c.loop-target-test.true c.target-item.is c.loop-target.invariant)
