use Rattle.std.proofs.Common.{◌≡◌, sym, ap, ◌∙◌, Option}
use Rattle.clause_formulas.specs.Few.{one_among}
use Rattle.literal_table.specs.Choices.{choice_lits}
use Rattle.literal_table.specs.Tables.{block_choices}
use Rattle.literal_table.specs.declared.block.Block.{Block}
use Rattle.graph_formulas.specs.Facts.{has_single, fact_said, said_in}
use Rattle.word_formulas.specs.Builders.{node_said}
use Rattle.word_formulas.proofs.AskedSteps.{ok-at}
use Rattle.word_formulas.proofs.Steps.{ok-same}
use Rattle.word_formulas.proofs.scribe.Scribe.has_single.Goals as goal

pub returns-in_ok-lits-in-Some : goal.returns-in_ok-lits-in-Some
returns-in_ok-lits-in-Some c =
    let variant = c.args.variant.now in
    let made = ok-at c.lits_of.result c.in_ok-lits-in-Some.lits (λ l. l.items ≡ choice_lits c.values.result.now) c.in_ok-lits-in-Some.was
    c.lits_of.ensures in
    ok-same c.exactly_one.result (one_among c.as_slice.result.now) (node_said c.args.self.now.table.now c.args.name.now (has_single variant))
    (ap one_among (c.as_slice.ensures.value ∙ made ∙ ap choice_lits (c.values.ensures
    ∙ sym (ap (λ (b : Option Block). block_choices b variant) c.in-Some.ensures)))
    ∙ ap (said_in (λ b. fact_said b (has_single variant))) c.in-Some.ensures) c.exactly_one.ensures
