use Rattle.std.proofs.Common.{◌≡◌, ◌++◌, take}
use Rattle.std.specs.List.{flat_map}
use Rattle.dimacs_text.specs.Choices.{value_lines}
use Rattle.dimacs_text.proofs.choices.write_variants.Given as goal

abbrev pub invariant-loop-variant : goal.invariant-loop-variant
invariant-loop-variant l = l.out.items ≡ l.fn.out.items ++ flat_map (value_lines l.name) (take l.variant-index l.variants)
