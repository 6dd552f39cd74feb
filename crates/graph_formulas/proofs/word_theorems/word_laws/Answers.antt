use Rattle.graph_formulas.proofs.WordsSaid.{word-said}
use Rattle.graph_formulas.proofs.word_theorems.word_laws.Goals as goal

pub returns : goal.returns
returns c = word-said
