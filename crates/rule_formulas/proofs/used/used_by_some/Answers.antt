use Rattle.std.proofs.Common.{rules, sym, ap, ◌∙◌, map, filter, List}
use Rattle.clause_formulas.specs.Statements.{any_statement}
use Rattle.graph_core.specs.Graphs.{Text}
use Rattle.literal_table.specs.Tables.{block_name, table_names}
use Rattle.literal_table.specs.declared.block.Block.{Block}
use Rattle.graph_formulas.specs.Laws.{may_use}
use Rattle.graph_formulas.specs.Terms.{term_said}
use Rattle.graph_formulas.specs.Edges.{use_rule, used_rule}
use Rattle.word_formulas.specs.Builders.{no_paths}
use Rattle.word_formulas.proofs.Steps.{ok-same, some-said}
use Rattle.rule_formulas.specs.Terms.{plain_term, no_conditions}
use Rattle.rule_formulas.proofs.Lists.{filter-mapped}
use Rattle.rule_formulas.proofs.used.used_by_some.Goals as goal

pub returns : goal.returns
returns c =
    let table = c.args.scribe.now.table.now in
    let p : Text × Text = (c.args.virtual_name.now, c.args.provider.now) in
    let rule = λ (name : Text). use_rule p name in
    let said = λ (name : Text). plain_term table no_conditions (use_rule p name) in
    let may = λ (b : Block). may_use table p b.name in
    let formula = λ (b : Block). plain_term table no_conditions (use_rule p b.name) in
    ok-same c.some_where.result (any_statement (map formula (filter may c.blocks-2.result.now)))
    (plain_term table no_conditions (used_rule (may_use table) (table_names table) p))
    (ap (λ (l : List Block). any_statement (map formula (filter may l))) c.blocks-2.ensures.blocks
    ∙ ap any_statement (filter-mapped said block_name (may_use table p) table.blocks)
    ∙ sym (some-said (term_said no_paths no_conditions table) rule (filter (may_use table p) (table_names table))))
    (c.some_where.ensures may formula (λ x b says. search rules) (λ x r says. search rules))
