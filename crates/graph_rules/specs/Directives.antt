-- The rules of roots and directives: each is said of one root, or of one directive at one node to build.
use Rattle.std.specs.Prelude.{Bool, ◌&&◌, ◌==◌, not, count_by, if◌then◌else◌}
use Rattle.std.specs.List.{list_any}
use Rattle.problem.specs.OfSpecGrammar.Spec.{Spec}
use Rattle.problem.specs.OfConditionRules.Words.{implies, if_written, is_one_text, is_some_and}
use Rattle.problem.specs.OfGraphCore.Graphs.{Content, edge_of}
use Rattle.problem.specs.Nodes.{covers}
use Rattle.problem.specs.OfGraphCore.Node.{Node}
use Rattle.problem.specs.OfGraphCore.Edge.{Edge}
use Rattle.problem.specs.OfVirtuals.Virtuals.{is_virtual}
use Rattle.problem.specs.OfConditionRules.Holds.{holds, asked_node, suits}
use Rattle.problem.specs.OfRecipeData.DependRow.{DependRow}
use Rattle.problem.specs.OfRecipeData.ConflictRow.{ConflictRow}
use Rattle.problem.specs.OfRecipeData.RequireRow.{RequireRow}
use Rattle.problem.specs.Problems.{world_of, applies, asked_by, Problem}

-- Root: the spec's name is a node, and the spec holds there
unfoldable pub keeps_root : Problem → Content → Spec → Bool
keeps_root problem graph spec = is_some_and spec.top.name (holds (world_of problem) spec graph)

-- the edge has all kinds of the directive, and names the virtual where the directive asks for one
abbrev pub answers : Problem → DependRow → Edge → Bool
answers problem row e =
    covers e.kinds row.kinds && if_written row.part.name (λ name. implies (is_virtual problem.recipes name) (is_one_text e.virtuals name))

-- Edge: where the directive holds, an edge that answers it goes to the node that it asks for
unfoldable pub keeps_edge : Problem → Content → Node → DependRow → Bool
keeps_edge problem graph node row =
    implies (applies problem graph row.when node)
    (is_some_and (asked_by problem graph row) (λ child. is_some_and (edge_of graph node.name child.name) (answers problem row)))

-- Constraint: where the directive holds, its part holds at the node that it asks for
unfoldable pub keeps_constraint : Problem → Content → Node → DependRow → Bool
keeps_constraint problem graph node row =
    implies (applies problem graph row.when node)
    (is_some_and row.part.name (λ name. is_some_and (asked_node (world_of problem) graph name) (suits (world_of problem) row.part name)))

-- Conflict: the directive and its spec do not both hold
unfoldable pub keeps_conflict : Problem → Content → Node → ConflictRow → Bool
keeps_conflict problem graph node row = not (applies problem graph row.when node && holds (world_of problem) row.spec graph node.name)

-- exactly one of the specs holds, or at least one
abbrev pub has_choice : Problem → Content → Node → RequireRow → Bool
has_choice problem graph node row =
    if row.one_of then count_by (λ spec. holds (world_of problem) spec graph node.name) row.specs == 1
    else list_any (λ spec. holds (world_of problem) spec graph node.name) row.specs

-- Requirement: where the directive holds, so do as many of its specs as it asks for
unfoldable pub keeps_requirement : Problem → Content → Node → RequireRow → Bool
keeps_requirement problem graph node row = implies (applies problem graph row.when node) (has_choice problem graph node row)
