use Rattle.std.proofs.Common.{refl, [], ◌∷◌}
use Rattle.spec_grammar.specs.Canonical.{variants_text, variant_text}
use Rattle.spec_grammar.proofs.LoopLaws.{written}
use Rattle.spec_grammar.proofs.write.write_variants.Goals as goal

pub loop-variant-preserved : goal.loop-variant-preserved
loop-variant-preserved c =
    rw (c.in_ok-write_variant.ensures, c.values.ensures.texts, c.in_ok-write_bytes.ensures)
    (written variants_text (32 ∷ []) (λ v. variant_text v.0 v.1) (λ v variants. refl) c.args.variants.now c.loop-variant.variant-index
    c.variant-item.result c.loop-variant.out.items _ c.loop-variant-test.true c.variant-item.is c.loop-variant.invariant)
