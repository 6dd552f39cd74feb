use Rattle.std.proofs.Common.{◌≡◌, ◌++◌, take, map}
use Rattle.table_building.specs.Parts.{edge_by}
use Rattle.table_building.proofs.edges.add_children.Given as goal

abbrev pub invariant-loop-child : goal.invariant-loop-child
invariant-loop-child l = l.edges ≡ l.initial.edges ++ map (edge_by l.answers l.parent) (take l.child-index l.children)
