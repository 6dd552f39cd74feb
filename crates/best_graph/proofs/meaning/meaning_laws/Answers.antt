use Rattle.best_graph.proofs.Least.{optimal, nothing}
use Rattle.best_graph.proofs.meaning.meaning_laws.Goals as goal

pub returns : goal.returns
returns c = record { optimal = optimal; nothing = nothing }
