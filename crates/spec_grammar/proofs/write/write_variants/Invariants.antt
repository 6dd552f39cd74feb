use Rattle.std.proofs.Common.{◌≡◌, ◌++◌, drop}
use Rattle.spec_grammar.specs.Canonical.{variants_text}
use Rattle.spec_grammar.proofs.write.write_variants.Given as goal

abbrev pub invariant-loop-variant : goal.invariant-loop-variant
invariant-loop-variant l = l.out.items ++ variants_text (drop l.variant-index l.variants) ≡ l.initial.out.items ++ variants_text l.variants
