use Rattle.std.proofs.Common.{ap, ◌∙◌, Option}
use Rattle.graph_core.specs.Graphs.{Text}
use Rattle.graph_core.specs.declared.node.Origin.TheVariants.{Installed}
use Rattle.graph_formulas.specs.Lists.{one_keeps}
use Rattle.graph_formulas.specs.Kept.{origin_rule}
use Rattle.reuse_db.specs.declared.record.Record.{Record}
use Rattle.word_formulas.specs.Builders.{plain_said}
use Rattle.word_formulas.proofs.Steps.{ok-same}
use Rattle.node_formulas.specs.Attributes.{record_rule}
use Rattle.node_formulas.proofs.kept.installed_formula.Goals as goal

pub returns-in-Some : goal.returns-in-Some
returns-in-Some c =
    let table = c.args.table.now in
    let problem = c.args.problem.now in
    let children = c.args.children.now in
    ok-same c.record_formula.result _ (plain_said table (origin_rule problem children c.args.name.now (Installed c.args.hash.now)))
    (ap (λ (n : Text). plain_said table (record_rule problem children n c.in-Some.entry.now)) c.as_str.ensures
    ∙ ap (λ (o : Option Record). plain_said table (one_keeps o (record_rule problem children c.args.name.now))) c.in-Some.ensures)
    c.record_formula.ensures

pub returns-in-None : goal.returns-in-None
returns-in-None c =
    c.given.ensures
    ∙ ap (λ (o : Option Record). plain_said c.args.table.now
    (one_keeps o (record_rule c.args.problem.now c.args.children.now c.args.name.now))) c.in-None.ensures
