use Rattle.std.proofs.Common.{◌≡◌, ◌++◌, flat_map, drop}
use Rattle.std.specs.Str.{bytes_eq}
use Rattle.node_formulas.specs.Rows.{only_if}
use Rattle.node_formulas.proofs.children.children_in.Given as goal

abbrev pub invariant-loop-edge : goal.invariant-loop-edge
invariant-loop-edge l =
    l.names.items ++ flat_map (λ e. only_if (bytes_eq e.parent l.fn.name) e.child) (drop l.edge-index l.fn.edges)
    ≡ flat_map (λ e. only_if (bytes_eq e.parent l.fn.name) e.child) l.fn.edges
