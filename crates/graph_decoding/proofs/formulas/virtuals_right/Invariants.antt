use Rattle.std.proofs.Common.{◌≡◌, map, take}
use Rattle.graph_decoding.specs.Structure.{virtual_needs}
use Rattle.graph_decoding.proofs.formulas.virtuals_right.Given as goal

abbrev pub invariant-loop-choice : goal.invariant-loop-choice
invariant-loop-choice l = l.parts.items ≡ map (virtual_needs l.edge) (take l.choice-index l.choice-items)
