use Rattle.std.proofs.Common.{rules, ap, ◌∙◌, List}
use Rattle.graph_core.specs.Graphs.{Text}
use Rattle.graph_formulas.specs.Facts.{has_origin}
use Rattle.graph_formulas.specs.Kept.{installs, provided_rule, joined_rule}
use Rattle.word_formulas.specs.Builders.{node_said, plain_said}
use Rattle.word_formulas.proofs.Steps.{ok-same, ok-is, both-same}
use Rattle.node_formulas.proofs.kept.installed_child.Goals as goal

pub returns : goal.returns
returns c =
    let table = c.args.table.now in
    let child = c.args.child.now in
    let hash = c.args.dependency.now.hash in
    let installed = ok-is c.origin_passes.result c.in_ok-installed.installed (node_said table child (has_origin (installs hash)))
    c.in_ok-installed.was
    (c.origin_passes.ensures (installs hash) (λ x b says. search rules)) in
    let joined = c.in_ok-joined.ensures ∙ both-same _ _ _ _ installed c.in_ok-recorded.ensures in
    let provided = c.in_ok-provided.ensures ∙ ap (λ (virtuals : List Text). plain_said table (provided_rule child virtuals))
    c.values.ensures.texts in
    ok-same c.both-2.result _ (plain_said table (joined_rule c.args.name.now child c.args.dependency.now))
    (both-same _ _ _ _ joined provided) c.both-2.ensures
