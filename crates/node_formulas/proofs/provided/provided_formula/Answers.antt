use Rattle.std.proofs.Common.{rules, sym, map}
use Rattle.clause_formulas.specs.Rules.{fact}
use Rattle.clause_formulas.specs.Statements.{all_statements}
use Rattle.graph_core.specs.Graphs.{Text}
use Rattle.graph_formulas.specs.Facts.{word_said, provides_as}
use Rattle.graph_formulas.specs.Kept.{provided_rule}
use Rattle.word_formulas.specs.Builders.{no_paths, plain_said}
use Rattle.word_formulas.proofs.Steps.{ok-same, each-said}
use Rattle.node_formulas.proofs.provided.provided_formula.Goals as goal

pub returns : goal.returns
returns c =
    let table = c.args.table.now in
    let rule = λ (virtual : Text). fact (provides_as virtual c.args.provider.now) in
    let formula = λ (virtual : Text). plain_said table (fact (provides_as virtual c.args.provider.now)) in
    ok-same c.each.result (all_statements (map formula c.args.virtuals.now))
    (plain_said table (provided_rule c.args.provider.now c.args.virtuals.now))
    (sym (each-said (word_said no_paths table) rule c.args.virtuals.now)) (c.each.ensures formula (λ x r says. search rules))
