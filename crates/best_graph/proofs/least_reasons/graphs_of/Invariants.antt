use Rattle.std.proofs.Common.{◌≡◌, List, Bool, map, take}
use Rattle.clause_solver.specs.Models.{values_in}
use Rattle.graph_decoding.specs.Decoding.{decode}
use Rattle.best_graph.proofs.least_reasons.graphs_of.Given as goal

abbrev pub invariant-loop-model : goal.invariant-loop-model
invariant-loop-model l = l.graphs.items ≡ map (λ (model : List Bool). decode (values_in model) l.table) (take l.model-index l.models)
