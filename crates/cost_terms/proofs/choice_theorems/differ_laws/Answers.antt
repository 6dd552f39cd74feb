use Rattle.cost_terms.proofs.DifferLaws.{differ-none, differ-some}
use Rattle.cost_terms.proofs.choice_theorems.differ_laws.Goals as goal

pub returns : goal.returns
returns g c = record { none = differ-none; some = differ-some }
