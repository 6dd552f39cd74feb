use Rattle.std.proofs.lemmas.Bool.{and_parts}
use Rattle.problem.specs.OfConditionRules.Words.{is_one_text}
use Rattle.graph_rules.proofs.Lists.{list_all-from}
use Rattle.graph_rules.specs.Valid.{valid_for}
use Rattle.graph_rules.proofs.ClosureLaws.{node-closed}
use Rattle.graph_rules.proofs.theorems.closure_laws.Goals as goal

pub returns : goal.returns
unfolding valid_for
returns c = λ problem graph asked names g v closure. list_all-from (λ node. is_one_text names node.name) graph.nodes
    (λ node there. node-closed problem graph g (and_parts _ _ v).0 names closure.closed node there)
