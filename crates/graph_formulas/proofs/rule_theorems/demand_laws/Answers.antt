use Rattle.graph_formulas.proofs.DemandsSaid.{demand-said, root-said, edge-said, constraint-said, conflict-said, requirement-said}
use Rattle.graph_formulas.proofs.rule_theorems.demand_laws.Goals as goal

pub returns : goal.returns
returns c = record {
  demand = demand-said;
  root = root-said;
  edge = edge-said;
  constraint = constraint-said;
  conflict =
      conflict-said;
  requirement = requirement-said;
}
