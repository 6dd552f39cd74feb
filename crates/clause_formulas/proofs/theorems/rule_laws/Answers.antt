use Rattle.clause_formulas.proofs.RuleLaws.{rule-said, rule-below}
use Rattle.clause_formulas.proofs.theorems.rule_laws.Goals as goal

pub returns : goal.returns
returns g c = record {
  said = λ v f p h r. rule-said v f p h r;
  in_range = λ n f h r. rule-below n f h r;
}
