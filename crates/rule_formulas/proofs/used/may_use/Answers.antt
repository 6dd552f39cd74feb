use Rattle.std.proofs.Common.{ap, ◌∙◌}
use Rattle.std.specs.List.{list_any}
use Rattle.std.specs.Option.{option_copied}
use Rattle.std.specs.Str.{bytes_eq}
use Rattle.graph_core.specs.Graphs.{Text}
use Rattle.literal_table.specs.Choices.{choice_values}
use Rattle.literal_table.specs.Tables.{edge_virtuals}
use Rattle.rule_formulas.proofs.Lists.{any-found, some-copied}
use Rattle.rule_formulas.proofs.used.may_use.Goals as goal

pub returns : goal.returns
returns c =
    let table = c.args.scribe.now.table.now in
    let name = c.args.name.now in
    let provider = c.args.provider.now in
    let among = λ (n p v : Text). list_any (bytes_eq v) (choice_values (edge_virtuals table n p)) in
    c.is_some.ensures ∙ some-copied c.virtual_choice-choice.result
    ∙ any-found c.as_str-3.result.now (edge_virtuals table c.as_str.result.now c.as_str-2.result.now)
    (option_copied c.virtual_choice-choice.result)
    c.virtual_choice-choice.ensures
    ∙ ap (λ (n : Text). among n c.as_str-2.result.now c.as_str-3.result.now) c.as_str.ensures
    ∙ ap (λ (p : Text). among name p c.as_str-3.result.now) c.as_str-2.ensures
    ∙ ap (among name provider) c.as_str-3.ensures
