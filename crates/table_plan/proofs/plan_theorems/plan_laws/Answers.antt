use Rattle.std.proofs.lemmas.Bool.{and_parts}
use Rattle.graph_rules.specs.Valid.{valid_for}
use Rattle.table_plan.proofs.PlanLaws.{offers}
use Rattle.table_plan.proofs.RightPlans.{plan_right}
use Rattle.table_plan.proofs.ValueLaws.{have_all_values}
use Rattle.table_plan.proofs.plan_theorems.plan_laws.Goals as goal

pub returns-clause-offers : goal.returns-clause-offers
unfolding valid_for
returns-clause-offers c = λ problem names asked graph closure has w v. offers problem graph w (and_parts _ _ v).0 names closure has

pub returns-clause-plan : goal.returns-clause-plan
returns-clause-plan c = plan_right

pub returns-clause-values : goal.returns-clause-values
returns-clause-values c = λ problem names assembled right. have_all_values problem assembled right names
