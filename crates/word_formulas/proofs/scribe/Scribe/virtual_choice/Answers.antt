use Rattle.std.proofs.Common.{sym, ap, subst, ◌∙◌}
use Rattle.std.specs.Option.{option_to_list}
use Rattle.variant_values.specs.Texts.{byte_cmp}
use Rattle.keyed_lists.specs.Keyed.{IsInOrder, find_key}
use Rattle.graph_core.specs.Graphs.{Text}
use Rattle.literal_table.specs.Choices.{Choices}
use Rattle.literal_table.specs.Tables.{edge_virtuals, value_of}
use Rattle.word_formulas.proofs.Choices.{found-passes, virtuals-in-order}
use Rattle.word_formulas.proofs.scribe.Scribe.virtual_choice.Goals as goal

pub find-requires : goal.find-requires
find-requires c = subst (λ (choices : Choices Text). IsInOrder byte_cmp value_of choices) (sym c.virtuals.ensures)
    (virtuals-in-order c.args.self.now.table.now c.edges-edges.ensures.table c.args.parent.now c.args.child.now)

pub returns : goal.returns
returns c =
    let table = c.args.self.now.table.now in
    let virtuals = edge_virtuals table c.args.parent.now c.args.child.now in
    let text = c.args.virtual_name.now in
    found-passes text virtuals (virtuals-in-order table c.edges-edges.ensures.table c.args.parent.now c.args.child.now)
    ∙ sym (ap option_to_list (c.find.ensures
    ∙ ap (λ (choices : Choices Text). find_key byte_cmp value_of choices text) c.virtuals.ensures))
