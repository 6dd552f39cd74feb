use Rattle.std.proofs.Common.{ap, ◌∙◌, Option}
use Rattle.graph_core.specs.Graphs.{Text}
use Rattle.graph_formulas.specs.Kept.{joined_rule}
use Rattle.graph_formulas.specs.Lists.{one_keeps}
use Rattle.reuse_db.specs.declared.record.Record.{Record}
use Rattle.word_formulas.specs.Builders.{plain_said}
use Rattle.word_formulas.proofs.Steps.{ok-same}
use Rattle.node_formulas.specs.Attributes.{dependency_rule}
use Rattle.node_formulas.proofs.kept.child_formula.Goals as goal

pub returns-in-Some : goal.returns-in-Some
returns-in-Some c =
    let table = c.args.table.now in
    let name = c.args.name.now in
    let d = c.args.dependency.now in
    ok-same c.installed_child.result _ (plain_said table (dependency_rule c.args.problem.now name d))
    (ap (λ (n : Text). plain_said table (joined_rule name n d)) c.as_str.ensures
    ∙ ap (λ (o : Option Record). plain_said table (one_keeps o (λ child. joined_rule name child.name d))) c.in-Some.ensures)
    c.installed_child.ensures

pub returns-in-None : goal.returns-in-None
returns-in-None c =
    let table = c.args.table.now in
    let name = c.args.name.now in
    let d = c.args.dependency.now in
    c.given.ensures ∙ ap (λ (o : Option Record). plain_said table (one_keeps o (λ child. joined_rule name child.name d))) c.in-None.ensures
