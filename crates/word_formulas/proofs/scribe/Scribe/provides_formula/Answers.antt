use Rattle.std.proofs.Common.{rules, sym, ap, ◌∙◌, List, map}
use Rattle.clause_formulas.specs.Statements.{any_statement}
use Rattle.recipe_data.specs.declared.recipe.ProvideRow.{ProvideRow}
use Rattle.graph_formulas.specs.Facts.{word_said}
use Rattle.graph_formulas.specs.Parts.{row_rule, rows_naming, provides_rule}
use Rattle.word_formulas.specs.Builders.{no_paths, plain_said}
use Rattle.word_formulas.proofs.Steps.{ok-same, some-said}
use Rattle.word_formulas.proofs.scribe.Scribe.provides_formula.Goals as goal

pub returns : goal.returns
unfolding provides_rule
returns c =
    let table = c.args.self.now.table.now in
    let world = c.args.world.now in
    let name = c.args.name.now in
    let virtual = c.args.virtual_name.now in
    let rule = λ (row : ProvideRow). row_rule world name virtual c.args.wanted.now row in
    let formula = λ (row : ProvideRow). plain_said table (row_rule world name virtual c.args.wanted.now row) in
    let said = some-said (word_said no_paths table) rule (rows_naming world name virtual) in
    ok-same c.some.result (any_statement (map formula c.provided.result.now))
    (plain_said table (provides_rule world name virtual c.args.wanted.now))
    (ap (λ (rows : List ProvideRow). any_statement (map formula rows)) c.provided.ensures ∙ sym said)
    (c.some.ensures formula (λ x r says. search rules))
