-- Terms of the nodes to build, and of the others.
use Rattle.std.specs.Prelude.{Bool, true, false, not, List, [], map, if◌then◌else◌}
use Rattle.std.specs.List.{list_any, list_all}
use Rattle.clause_formulas.specs.Statements.{Statement, no, both_statements}
use Rattle.graph_core.specs.declared.node.Origin.{Origin}
use Rattle.problem.specs.Nodes.{builds}
use Rattle.literal_table.specs.Choices.{Choices, any_choice}
use Rattle.cost_terms.specs.declared.weighted.Weighted.{Weighted}

-- the origin is that of the nodes to build, or of the others
abbrev pub is_of : Bool → Origin → Bool
is_of true origin = builds origin
is_of false origin = not (builds origin)

abbrev pub part_said : Bool → Choices Origin → Statement
part_said true origins = any_choice builds origins
part_said false origins = no (any_choice builds origins)

abbrev pub only_where : Statement → Weighted → Weighted
only_where part t = record { weight = t.weight; formula = both_statements part t.formula }

-- the terms where the node is of the part: none where it cannot be, and as they are where it must be
unfoldable pub in_part : Bool → Choices Origin → List Weighted → List Weighted
in_part built origins ts =
    if list_all (λ c. is_of built c.0) origins then ts
    else (if list_any (λ c. is_of built c.0) origins then map (only_where (part_said built origins)) ts else [])
