use Rattle.clause_formulas.proofs.FewLaws.{few-said, one-said, few-below, one_among-below}
use Rattle.clause_formulas.proofs.list_laws.few_laws.Goals as goal

pub returns : goal.returns
returns c = record { few = few-said; one = one-said; few_below = few-below; one_below = one_among-below }
