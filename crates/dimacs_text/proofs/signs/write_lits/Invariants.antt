use Rattle.std.proofs.Common.{◌≡◌, ◌++◌, take}
use Rattle.std.specs.List.{flat_map}
use Rattle.dimacs_text.specs.Signs.{lit_text}
use Rattle.dimacs_text.proofs.signs.write_lits.Given as goal

abbrev pub invariant-loop-lit : goal.invariant-loop-lit
invariant-loop-lit l = l.out.items ≡ l.fn.out.items ++ flat_map lit_text (take l.lit-index l.lits)
