use Rattle.recipe_statements.proofs.NestLaws.{items_nested}
use Rattle.recipe_statements.proofs.OrderLaws.{items_in_order}
use Rattle.recipe_statements.proofs.theorems.laws.Goals as goal

pub returns-clause-nested : goal.returns-clause-nested
returns-clause-nested c = items_nested

pub returns-clause-in_order : goal.returns-clause-in_order
returns-clause-in_order c = items_in_order
