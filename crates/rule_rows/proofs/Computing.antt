-- One name that opens all definitions that a row computes with.
use Rattle.version_order.specs.Pieces.{pieces}
use Rattle.version_order.specs.Component.{word_of, number_of, rank_of}
use Rattle.version_order.specs.Order.{stage_of, staged, pre_release, release, version_cmp}
use Rattle.version_order.specs.Prefix.{is_same}
use Rattle.version_order.specs.Sets.{is_under, item_contains, items_overlap}
use Rattle.variant_values.specs.Texts.{with_texts}
use Rattle.reachability.specs.Paths.{spread, reached, reaches}
use Rattle.graph_core.specs.Graphs.{is_graph}
use Rattle.virtuals.specs.Virtuals.{provides_name, is_virtual}
use Rattle.condition_rules.specs.Worlds.{recipe_of}
use Rattle.condition_rules.specs.Meets.{meets_rest, meets, provides}
use Rattle.condition_rules.specs.Holds.{asked_node, suits, holds, all_hold, governing}
use Rattle.problem.specs.Problems.{package_entry_of, record_at}
use Rattle.problem.specs.Demands.{demands}
use Rattle.recipe_data.specs.Right.{is_right_recipe}
use Rattle.problem.specs.Assembled.{is_assembled}
use Rattle.problem.specs.Closure.{is_known, next_names, is_closed}
use Rattle.problem.specs.Roots.{roots_fault}
use Rattle.graph_rules.specs.Built.{keeps_buildable, keeps_version, keeps_variant, keeps_compiler, keeps_machine, keeps_extra_edge}
use Rattle.graph_rules.specs.Directives.{keeps_root, keeps_edge, keeps_constraint, keeps_conflict, keeps_requirement}
use Rattle.graph_rules.specs.Kept.{same_attributes, external_node, keeps_kept}
use Rattle.reuse_db.specs.Installed.{installed_node}
use Rattle.graph_rules.specs.Whole.{keeps_provider, keeps_used, keeps_together, keeps_no_cycle, keeps_reachable}
use Rattle.graph_rules.specs.Named.{answered_virtuals, named_graph}
use Rattle.graph_rules.specs.Valid.{keeps, valid, keeps_demand, valid_for}
use Rattle.graph_rules.specs.Verdict.{breaks_of, verdict_of}
use Rattle.graph_rules.specs.Weights.{row_cmp, version_weight, is_deprecated}
use Rattle.graph_rules.specs.Costs.{other_values, unused_defaults, provider_weights, summed_cost, criteria, vector}

unfoldable pub computing : Unit {0}
unfolding pieces word_of number_of rank_of stage_of staged pre_release release version_cmp is_same is_under item_contains items_overlap
    with_texts spread reached reaches is_graph provides_name is_virtual recipe_of meets_rest meets provides asked_node suits holds all_hold
    governing package_entry_of record_at demands is_right_recipe is_assembled is_known next_names is_closed roots_fault keeps_buildable
    keeps_version keeps_variant keeps_compiler keeps_machine keeps_extra_edge keeps_root keeps_edge keeps_constraint keeps_conflict
    keeps_requirement same_attributes external_node installed_node keeps_kept keeps_provider keeps_used keeps_together keeps_no_cycle
    keeps_reachable keeps
    valid keeps_demand valid_for breaks_of verdict_of row_cmp version_weight is_deprecated other_values unused_defaults provider_weights
    summed_cost criteria vector answered_virtuals named_graph
computing = tt
