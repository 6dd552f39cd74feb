use Rattle.std.proofs.Common.{◌≡◌, ◌++◌, map, take}
use Rattle.graph_decoding.specs.Structure.{virtuals_right}
use Rattle.graph_decoding.proofs.formulas.push_virtuals.Given as goal

abbrev pub invariant-loop-edge : goal.invariant-loop-edge
invariant-loop-edge l = l.formulas.items ≡ l.fn.formulas.items ++ map virtuals_right (take l.edge-index l.edges)
