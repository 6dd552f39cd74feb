use Rattle.std.proofs.Common.{ap, ◌∙◌, map}
use Rattle.clause_store.specs.declared.Lit.{Lit}
use Rattle.clause_formulas.specs.Statements.{all_statements}
use Rattle.graph_core.specs.Graphs.{Text}
use Rattle.literal_table.specs.Choices.{Choices}
use Rattle.literal_table.specs.Tables.{packages_of}
use Rattle.graph_formulas.specs.Built.{provider_rule}
use Rattle.word_formulas.specs.Builders.{plain_said}
use Rattle.word_formulas.proofs.Steps.{ok-same}
use Rattle.node_formulas.specs.Rows.{provided_said, providers_said}
use Rattle.node_formulas.proofs.Steps.{map-map}
use Rattle.node_formulas.proofs.provider_rows.providers_at.Goals as goal

pub returns : goal.returns
returns c =
    let table = c.args.table.now in
    let v = c.as_str-virtual_name.result.now in
    let said = λ (p : Text × Text). plain_said table (provider_rule c.args.problem.now p) in
    let part = λ (n : Text). provided_said table v n (said (v, n)) in
    ok-same c.providers_in.result _ (providers_said table said c.args.virtual_name.now)
    (ap (λ (cs : Choices Text). all_statements (map (λ p. part p.0) cs)) c.packages-packages.ensures
    ∙ ap all_statements (map-map part (λ (p : Text × Lit). p.0) (packages_of table v))
    ∙ ap (providers_said table said) c.as_str-virtual_name.ensures) c.providers_in.ensures
