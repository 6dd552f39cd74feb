use Rattle.graph_formulas.proofs.RulesSaid.{all-buildable, all-version, all-variant, all-compiler, all-machine, all-extra_edge, all-kept, all-provider, all-used, all-together, all-no_cycle, all-reachable}
use Rattle.graph_formulas.proofs.rule_theorems.structure_laws.Goals as goal

pub returns : goal.returns
returns c = record {
  buildable = all-buildable;
  version = all-version;
  variant = all-variant;
  compiler = all-compiler;
  machine = all-machine;
  extra_edge = all-extra_edge;
  kept = all-kept;
  provider = all-provider;
  used = all-used;
  together = all-together;
  no_cycle = all-no_cycle;
  reachable = all-reachable;
}
