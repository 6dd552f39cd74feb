use Rattle.std.proofs.Common.{ap, ◌∙◌, Option, slice_get}
use Rattle.graph_core.specs.Graphs.{Text}
use Rattle.graph_rules.specs.Kept.{external_node}
use Rattle.graph_formulas.specs.Lists.{one_keeps}
use Rattle.graph_formulas.specs.Kept.{same_rule}
use Rattle.problem.specs.Problems.{package_entry_of, externals_in}
use Rattle.site_settings.specs.declared.settings.ExternalEntry.{ExternalEntry}
use Rattle.word_formulas.specs.Builders.{plain_said}
use Rattle.word_formulas.proofs.Steps.{ok-same}
use Rattle.node_formulas.proofs.externals.listed_external.Goals as goal

pub returns-in-Some : goal.returns-in-Some
returns-in-Some c =
    let said = λ (o : Option ExternalEntry). plain_said c.args.table.now
    (one_keeps o (λ entry. same_rule c.args.name.now (external_node c.args.problem.now c.args.name.now c.args.place entry))) in
    let at = λ (n : Text). slice_get (externals_in (package_entry_of c.args.problem.now n)) c.args.place in
    ok-same c.same_external.result _ (said (at c.args.name.now)) (ap said (c.in-Some.ensures ∙ ap at c.as_str.ensures))
    c.same_external.ensures

pub returns-in-None : goal.returns-in-None
returns-in-None c =
    let said = λ (o : Option ExternalEntry). plain_said c.args.table.now
    (one_keeps o (λ entry. same_rule c.args.name.now (external_node c.args.problem.now c.args.name.now c.args.place entry))) in
    let at = λ (n : Text). slice_get (externals_in (package_entry_of c.args.problem.now n)) c.args.place in
    c.given.ensures ∙ ap said (c.in-None.ensures ∙ ap at c.as_str.ensures)
