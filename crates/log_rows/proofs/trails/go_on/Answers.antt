use Rattle.std.proofs.Common.{sym}
use Rattle.clause_store.specs.Lits.{var_of}
use Rattle.clause_watch.proofs.Meaning.{value-free}
use Rattle.log_rows.proofs.trails.go_on.Goals as goal

pub decide-requires-clause-free : goal.decide-requires-clause-free
decide-requires-clause-free c = value-free c.propagate.new.self.placed (var_of c.args.lit) (sym c.in-None.ensures)
