use Rattle.std.proofs.Common.{◌≡◌, take, map}
use Rattle.std.specs.List.{flat_map, filter}
use Rattle.condition_rules.specs.Words.{is_one_text}
use Rattle.problem.specs.Closure.{next_names}
use Rattle.table_plan.specs.Plans.{possible_edge}
use Rattle.table_building.proofs.edges.named_edges.Given as goal

abbrev pub invariant-loop-parent : goal.invariant-loop-parent
invariant-loop-parent l = l.edges ≡ flat_map (λ parent. map (λ child. possible_edge l.problem (parent, child))
    (filter (is_one_text (next_names l.problem parent)) l.names)) (take l.parent-index l.parent-items)
