use Rattle.std.proofs.Common.{arith}
use Rattle.clause_store.specs.Clauses.{clauses_of}
use Rattle.best_graph.proofs.best.is_writable.Goals as goal

pub returns : goal.returns
returns c = let small = c.vars-count.ensures.small in let same = c.vars-count.ensures.value in
    λ bits sound over. c.written_laws.ensures c.args.clauses.now.vars (clauses_of c.args.clauses.now.entries) bits c.args._log.now
    (omega (arith, small, same)) sound over
