use Rattle.graph_formulas.proofs.Parts.{meets-said, provides-said, holds-said, condition-said}
use Rattle.graph_formulas.proofs.word_theorems.part_laws.Goals as goal

pub returns : goal.returns
returns c = record { meets = meets-said; provides = provides-said; holds = holds-said; condition = condition-said }
