use Rattle.std.proofs.Common.{◌∙◌, map}
use Rattle.std.specs.List.{filter}
use Rattle.std.proofs.lemmas.List.{take_all}
use Rattle.graph_core.specs.Graphs.{Text}
use Rattle.condition_rules.specs.Words.{is_one_text}
use Rattle.problem.specs.Closure.{next_names}
use Rattle.table_plan.specs.Plans.{possible_edge}
use Rattle.table_building.proofs.Steps.{named_are}
use Rattle.table_building.proofs.Indexed.{joined_next}
use Rattle.table_building.proofs.edges.named_edges.Goals as goal

pub loop-parent-preserved : goal.loop-parent-preserved
loop-parent-preserved c =
    let problem = c.args.problem.now in
    rw (c.in_ok-add_edges.ensures, c.loop-parent.invariant)
    (joined_next (λ (parent : Text). map (λ child. possible_edge problem (parent, child))
    (filter (is_one_text (next_names problem parent)) c.args.names.now)) c.names-parent-items.result.now c.loop-parent.parent-index
    c.parent-item.result c.loop-parent-test.true c.parent-item.is)

pub returns : goal.returns
returns c =
    let all = rw (
      take_all c.loop-parent.parent-index c.names-parent-items.result.now c.loop-parent-test.false,
      c.names-parent-items.ensures.names,
    )
    at c.loop-parent.invariant in
    all ∙ named_are c.args.problem.now c.args.names.now
