-- What one row of `depends_on` adds to the virtuals that an edge names.
use Rattle.std.specs.Prelude.{◌&&◌, List, [], if◌then◌else◌}
use Rattle.std.specs.Option.{option_to_list}
use Rattle.problem.specs.OfGraphCore.Graphs.{Text, Content}
use Rattle.problem.specs.OfGraphCore.Node.{Node}
use Rattle.problem.specs.OfRecipeData.DependRow.{DependRow}
use Rattle.problem.specs.Problems.{Problem}
use Rattle.graph_rules.specs.Built.{asks}
use Rattle.graph_rules.specs.Named.{is_on_virtual}

-- its virtual, where it is on one, holds at the node and asks for the child
abbrev pub answered : Problem → Content → Node → Text → DependRow → List Text
answered problem graph node child row =
    if is_on_virtual problem row && asks problem graph node child row then option_to_list row.part.name else []
