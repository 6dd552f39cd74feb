use Rattle.valid_models.proofs.Right.{rules-right}
use Rattle.valid_models.proofs.rule_theorems.right_rules.Goals as goal

pub returns : goal.returns
returns c = rules-right
