use Rattle.std.proofs.Common.{List, Bool}
use Rattle.clause_solver.specs.Models.{values_in}
use Rattle.graph_decoding.specs.Decoding.{IsStructured}
use Rattle.best_graph.proofs.LeastShown.{all_at}
use Rattle.best_graph.proofs.least_reasons.graphs_of.Goals as goal

pub graph_of-requires : goal.graph_of-requires
graph_of-requires c =
    all_at (λ (model : List Bool). IsStructured (values_in model) c.args.table.now) c.args.models.now c.loop-model.model-index
    c.model-item.result c.requires c.loop-model-test.true c.model-item.is
