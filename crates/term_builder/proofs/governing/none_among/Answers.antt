use Rattle.std.proofs.Common.{◌≡◌, ◌++◌, ap, ◌∙◌, List}
use Rattle.clause_formulas.specs.Statements.{Statement, any_statement, opposite}
use Rattle.cost_terms.specs.Blocks.{blocks_of}
use Rattle.cost_terms.proofs.PartLaws.{opposite-any}
use Rattle.term_builder.proofs.governing.none_among.Goals as goal

pub returns : goal.returns
returns c =
    let blocks = blocks_of 25 134217728 c.args.parts.items in
    let made : c.push_blocks.new.blocks.items ≡ blocks = c.in_ok-push_blocks.ensures
    ∙ ap (λ (start : List Statement). start ++ blocks) c.new-blocks.ensures.items in
    c.negated.ensures ∙ ap opposite (c.any.ensures ∙ ap any_statement made) ∙ opposite-any blocks
