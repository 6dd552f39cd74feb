use Rattle.cost_terms.proofs.PartLaws.{in_part-none, in_part-some}
use Rattle.cost_terms.proofs.choice_theorems.part_laws.Goals as goal

pub returns : goal.returns
returns c = record { none = in_part-none; some = in_part-some }
