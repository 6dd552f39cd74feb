use Rattle.std.proofs.Common.{◌≡◌, sym, subst, List, Bool}
use Rattle.std.specs.Prelude.{IfOk}
use Rattle.clause_solver.specs.Models.{values_in}
use Rattle.graph_decoding.specs.Decoding.{decode, IsStructured}
use Rattle.best_graph.proofs.least_reasons.graph_of.Goals as goal

pub decode-requires : goal.decode-requires
decode-requires c = subst (λ (xs : List Bool). IsStructured (values_in xs) c.args.table.now) (sym c.as_slice.ensures) c.requires

pub returns : goal.returns
returns c = subst (λ (xs : List Bool). IfOk c.decode.result (λ graph. graph ≡ decode (values_in xs) c.args.table.now)) c.as_slice.ensures
    c.decode.ensures
