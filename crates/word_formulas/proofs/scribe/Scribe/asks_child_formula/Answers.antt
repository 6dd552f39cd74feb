use Rattle.std.proofs.Common.{sym, ap, ◌∙◌, Option}
use Rattle.condition_rules.specs.Worlds.{World}
use Rattle.graph_core.specs.Graphs.{Text}
use Rattle.problem.specs.Problems.{world_of}
use Rattle.graph_formulas.specs.Lists.{one_keeps}
use Rattle.graph_formulas.specs.Edges.{asked_child}
use Rattle.word_formulas.specs.Asked.{asks_child}
use Rattle.word_formulas.specs.Builders.{plain_said}
use Rattle.word_formulas.proofs.Steps.{ok-same}
use Rattle.word_formulas.proofs.scribe.Scribe.asks_child_formula.Goals as goal

pub returns-in-Some : goal.returns-in-Some
returns-in-Some c =
    let table = c.args.self.now.table.now in
    let problem = c.args.problem.now in
    let child = c.args.child.now in
    let said = λ (w : World) (asked : Text). plain_said table (asked_child w child asked) in
    ok-same c.asked_child_formula.result (said c.world-world.result c.as_str.result.now)
    (plain_said table (asks_child problem child c.args.row.now))
    (ap (λ (w : World). said w c.as_str.result.now) c.world-world.ensures ∙ ap (said (world_of problem)) c.as_str.ensures
    ∙ sym (ap (λ (o : Option Text). plain_said table (one_keeps o (asked_child (world_of problem) child))) c.in-Some.is))
    c.asked_child_formula.ensures
