use Rattle.std.proofs.Common.{ap, ◌∙◌}
use Rattle.literal_table.specs.Choices.{any_choice}
use Rattle.literal_table.specs.Tables.{block_of}
use Rattle.graph_formulas.specs.Facts.{has_value}
use Rattle.word_formulas.specs.Builders.{node_said}
use Rattle.word_formulas.proofs.Steps.{ok-same, value-said}
use Rattle.word_formulas.proofs.scribe.Scribe.value_passes.Goals as goal

pub returns : goal.returns
returns g c = λ p is.
    let variant = c.args.variant.now in
    ok-same c.any_choice.result (any_choice p c.values.result.now) (node_said c.args.self.now.table.now c.args.name.now (has_value variant p))
    (ap (any_choice p) c.values.ensures ∙ value-said variant p (block_of c.args.self.now.table.now c.args.name.now)) (c.any_choice.ensures p is)
