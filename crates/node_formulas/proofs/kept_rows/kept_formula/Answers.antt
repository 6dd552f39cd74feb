use Rattle.std.proofs.Common.{ap, ◌∙◌, Option}
use Rattle.clause_formulas.specs.Statements.{all_statements}
use Rattle.literal_table.specs.Tables.{block_of}
use Rattle.literal_table.specs.declared.block.Block.{Block}
use Rattle.graph_formulas.specs.Kept.{kept_rule, origins_in, origins_of}
use Rattle.graph_formulas.specs.Laws.{children_of}
use Rattle.word_formulas.specs.Builders.{plain_said}
use Rattle.word_formulas.proofs.Steps.{ok-same}
use Rattle.node_formulas.proofs.kept_rows.kept_formula.Goals as goal

pub returns-in-Some : goal.returns-in-Some
returns-in-Some c =
    let table = c.args.table.now in
    let problem = c.args.problem.now in
    let name = c.args.name.now in
    let said = λ (o : Option Block). plain_said table (kept_rule problem (children_of table name) (origins_in o) name) in
    ok-same c.kept_in.result _ (plain_said table (kept_rule problem (children_of table name) (origins_of table name) name))
    (ap said (c.in-Some.ensures ∙ ap (block_of table) c.as_str.ensures)) c.kept_in.ensures

pub returns-in-None : goal.returns-in-None
returns-in-None c =
    let table = c.args.table.now in
    let problem = c.args.problem.now in
    let name = c.args.name.now in
    let said = λ (o : Option Block). plain_said table (kept_rule problem (children_of table name) (origins_in o) name) in
    ok-same c.all.result _ (plain_said table (kept_rule problem (children_of table name) (origins_of table name) name))
    (ap all_statements c.new.ensures.items ∙ ap said (c.in-None.ensures ∙ ap (block_of table) c.as_str.ensures)) c.all.ensures
