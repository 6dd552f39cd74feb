use Rattle.std.proofs.Common.{sym, ap, ◌∙◌, List, Option}
use Rattle.std.specs.Cmp.Lexicographic.{nat_list_cmp_total}
use Rattle.std.proofs.lemmas.List.Elements.{All-contains}
use Rattle.variant_values.specs.Texts.{byte_cmp}
use Rattle.keyed_lists.specs.Keyed.{find_key}
use Rattle.keyed_lists.proofs.OfVariantValues.Texts2.{ties_are_equal}
use Rattle.keyed_lists.proofs.LookupLaws.{find_sound}
use Rattle.literal_table.specs.Tables.{AreVariantsInOrder, block_name, block_choices}
use Rattle.literal_table.specs.declared.block.Block.{Block}
use Rattle.literal_table.proofs.table.LiteralTable.values.Goals as goal

pub variant_values-requires : goal.variant_values-requires
variant_values-requires c =
    let blocks = c.self.inside.blocks.items in
    let at = c.in-Some.ensures ∙ ap (λ (bs : List Block). find_key byte_cmp block_name bs c.args.name.now) c.as_slice.ensures.value in
    All-contains AreVariantsInOrder blocks c.in-Some.block.now c.self.invariant.variants
    (find_sound nat_list_cmp_total ties_are_equal block_name blocks c.args.name.now c.in-Some.block.now (sym at)).0

pub returns-in-Some : goal.returns-in-Some
returns-in-Some c = rw (← c.self.view_is) (c.variant_values.ensures
    ∙ ap (λ (b : Option Block). block_choices b c.args.variant.now)
    (c.in-Some.ensures ∙ ap (λ (bs : List Block). find_key byte_cmp block_name bs c.args.name.now) c.as_slice.ensures.value))

pub returns-in-None : goal.returns-in-None
returns-in-None c = rw (← c.self.view_is) (ap (λ (b : Option Block). block_choices b c.args.variant.now)
    (c.in-None.ensures ∙ ap (λ (bs : List Block). find_key byte_cmp block_name bs c.args.name.now) c.as_slice.ensures.value))
