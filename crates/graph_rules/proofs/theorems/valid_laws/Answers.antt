use Rattle.std.proofs.Common.{◌≡◌, refl, ℕ, true, []}
use Rattle.problem.specs.OfGraphCore.Graphs.{Content, no_content}
use Rattle.problem.specs.Problems.{Problem, with_budget, package_entry_of, record_at}
use Rattle.graph_rules.specs.Built.{keeps_buildable, keeps_version, keeps_variant, keeps_compiler, keeps_machine, keeps_extra_edge}
use Rattle.graph_rules.specs.Directives.{keeps_root, keeps_edge, keeps_constraint, keeps_conflict, keeps_requirement}
use Rattle.graph_rules.specs.Kept.{external_node, keeps_kept}
use Rattle.graph_rules.specs.Whole.{keeps_provider, keeps_used, keeps_together, keeps_reachable}
use Rattle.graph_rules.specs.Valid.{keeps, valid, valid_for}
use Rattle.graph_rules.proofs.ValidLaws.{valid-for_any, valid-from_demands}
use Rattle.graph_rules.proofs.theorems.valid_laws.Goals as goal

none : (problem : Problem) → valid_for [] problem no_content ≡ true
unfolding valid_for keeps
none problem = refl

budget_valid : (problem : Problem) (budget : ℕ) (graph : Content) → valid (with_budget budget problem) graph ≡ valid problem graph
unfolding valid keeps package_entry_of record_at keeps_buildable keeps_version keeps_variant keeps_compiler keeps_machine keeps_extra_edge
    keeps_root keeps_edge keeps_constraint keeps_conflict keeps_requirement external_node keeps_kept keeps_provider keeps_used
    keeps_together keeps_reachable
budget_valid problem budget graph = refl

pub returns : goal.returns
returns c = record { fewer = valid-for_any; all = valid-from_demands; none = none; budget_valid = budget_valid }
