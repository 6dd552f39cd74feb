use Rattle.std.proofs.Common.{rules, sym, map}
use Rattle.clause_formulas.specs.Rules.{fact, isnt}
use Rattle.clause_formulas.specs.Statements.{all_statements}
use Rattle.graph_core.specs.Graphs.{Text, no_kinds}
use Rattle.graph_formulas.specs.Facts.{word_said, has_edge}
use Rattle.graph_formulas.specs.Lists.{each_keeps}
use Rattle.word_formulas.specs.Builders.{no_paths, plain_said}
use Rattle.word_formulas.proofs.Steps.{ok-same, each-said}
use Rattle.node_formulas.proofs.kept.no_edges.Goals as goal

pub returns : goal.returns
returns c =
    let table = c.args.table.now in
    let rule = λ (child : Text). isnt (fact (has_edge c.args.name.now child no_kinds)) in
    let formula = λ (child : Text). plain_said table (isnt (fact (has_edge c.args.name.now child no_kinds))) in
    ok-same c.each.result (all_statements (map formula c.args.children.now)) (plain_said table (each_keeps rule c.args.children.now))
    (sym (each-said (word_said no_paths table) rule c.args.children.now))
    (c.each.ensures formula (λ x r says. search rules))
