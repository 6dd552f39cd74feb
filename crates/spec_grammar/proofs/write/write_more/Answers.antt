use Rattle.std.proofs.Common.{refl, [], ◌∷◌}
use Rattle.spec_grammar.specs.Items.{spell_more_values}
use Rattle.spec_grammar.proofs.LoopLaws.{written}
use Rattle.spec_grammar.proofs.write.write_more.Goals as goal

pub loop-value-preserved : goal.loop-value-preserved
loop-value-preserved c =
    rw (c.in_ok-write_word.ensures, c.in_ok-write_bytes.ensures)
    (written spell_more_values (44 ∷ []) (λ w. w) (λ w words. refl) c.args.values.now c.loop-value.value-index c.value-item.result
    c.loop-value.out.items _ c.loop-value-test.true c.value-item.is c.loop-value.invariant)
