use Rattle.std.proofs.Common.{sym, ap, subst, ◌∙◌, List}
use Rattle.variant_values.specs.Texts.{byte_cmp}
use Rattle.keyed_lists.specs.Keyed.{IsInOrder, find_key}
use Rattle.graph_core.specs.Graphs.{Text}
use Rattle.literal_table.specs.Choices.{Choices}
use Rattle.literal_table.specs.Tables.{variant_of, variant_choices_in}
use Rattle.literal_table.proofs.table.variant_values.Goals as goal

pub find-requires : goal.find-requires
find-requires c = subst (λ (vs : List (Text × Choices Text)). IsInOrder byte_cmp variant_of vs) (sym c.as_slice.ensures) c.requires.names

pub returns-in-Some : goal.returns-in-Some
returns-in-Some c = c.as_slice-in-Some.ensures ∙ ap variant_choices_in
    (c.in-Some.ensures ∙ ap (λ (vs : List (Text × Choices Text)). find_key byte_cmp variant_of vs c.args.variant.now) c.as_slice.ensures)

pub returns-in-None : goal.returns-in-None
returns-in-None c = ap variant_choices_in
    (c.in-None.ensures ∙ ap (λ (vs : List (Text × Choices Text)). find_key byte_cmp variant_of vs c.args.variant.now) c.as_slice.ensures)
