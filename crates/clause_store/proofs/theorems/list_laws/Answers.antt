use Rattle.clause_store.proofs.Entries.{Meets-all}
use Rattle.clause_store.proofs.theorems.list_laws.Goals as goal

pub returns-clause-all : goal.returns-clause-all
returns-clause-all c = Meets-all
