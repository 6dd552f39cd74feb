use Rattle.table_plan.proofs.Tables.{spelled, others_stay}
use Rattle.table_plan.proofs.TableOrder.{table_right}
use Rattle.table_plan.proofs.RangeLaws.{table_below}
use Rattle.table_plan.proofs.spelling_theorems.spelling_laws.Goals as goal

pub returns-clause-spelled : goal.returns-clause-spelled
returns-clause-spelled c = spelled

pub returns-clause-others : goal.returns-clause-others
returns-clause-others c = others_stay

pub returns-clause-table : goal.returns-clause-table
returns-clause-table c = table_right

pub returns-clause-below : goal.returns-clause-below
returns-clause-below c = table_below
