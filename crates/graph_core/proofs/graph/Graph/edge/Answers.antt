use Rattle.std.proofs.Common.{sym}
use Rattle.graph_core.specs.Graphs.{ends_of}
use Rattle.graph_core.proofs.PairLaws.{pair_total, pair_exact}
use Rattle.keyed_lists.proofs.KeyedLaws.{find_place, find_gap}
use Rattle.graph_core.proofs.graph.Graph.edge.Goals as goal

pub returns-in-Ok : goal.returns-in-Ok
returns-in-Ok c =
    let at = rw (← c.self.view_is) at c.in-Ok.ensures.place in
    rw (← c.self.view_is) (sym (find_place pair_total pair_exact ends_of _ _ _ _ c.self.invariant.edges at c.index.ensures))

pub returns-in-Err : goal.returns-in-Err
returns-in-Err c = sym (find_gap pair_total pair_exact ends_of _ _ _ c.in-Err.ensures.place)
