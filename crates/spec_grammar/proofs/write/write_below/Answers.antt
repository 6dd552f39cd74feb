use Rattle.std.proofs.Common.{refl, [], ◌∷◌}
use Rattle.spec_grammar.specs.Canonical.{below_text, part_text}
use Rattle.spec_grammar.proofs.LoopLaws.{written}
use Rattle.spec_grammar.proofs.write.write_below.Goals as goal

pub loop-part-preserved : goal.loop-part-preserved
loop-part-preserved c =
    rw (c.in_ok-write_part.ensures, c.in_ok-write_bytes.ensures)
    (written below_text (32 ∷ 94 ∷ []) part_text (λ p parts. refl) c.args.below.now c.loop-part.part-index c.part-item.result
    c.loop-part.out.items _ c.loop-part-test.true c.part-item.is c.loop-part.invariant)
