use Rattle.std.proofs.Common.{refl}
use Rattle.literal_table.specs.Choices.{any_choice}
use Rattle.graph_formulas.specs.Facts.{has_prefix}
use Rattle.word_formulas.proofs.Steps.{at_block}
use Rattle.word_formulas.proofs.scribe.Scribe.prefix_passes.Goals as goal

pub returns-in-Some : goal.returns-in-Some
returns-in-Some g c = λ p is. at_block c.any_choice.result c.args.self.now.table.now c.args.name.now c.in-Some.block.now (has_prefix p)
    (any_choice p)
    c.as_slice.result.now c.in-Some.block.now.prefixes c.in-Some.ensures c.as_slice.ensures refl (c.any_choice.ensures p is)
