use Rattle.std.proofs.Common.{refl}
use Rattle.keyed_lists.specs.OfReachability.Paths.{spread, reached, reaches}
use Rattle.graph_core.specs.Graphs.{is_graph}
use Rattle.graph_core.proofs.theorems.worked_graphs.Goals as goal

pub returns : goal.returns
unfolding spread reached reaches is_graph
returns c = record { graph = refl; over = refl; itself = refl; node = refl; no_node = refl; again = refl; edges = refl }
