use Rattle.std.proofs.Common.{◌≡◌, ap, ◌∙◌, map}
use Rattle.clause_formulas.specs.Statements.{all_statements}
use Rattle.graph_formulas.specs.Laws.{table_names}
use Rattle.literal_table.specs.Tables.{block_name}
use Rattle.word_formulas.proofs.AskedSteps.{ok-at}
use Rattle.word_formulas.proofs.Steps.{ok-same}
use Rattle.node_formulas.proofs.Steps.{map-map}
use Rattle.node_formulas.proofs.names.each_name.Goals as goal

pub returns : goal.returns
returns g c = λ formula builds.
    let table = c.args.table.now in
    let made = ok-at c.name_parts.result c.in_ok-parts.parts (λ parts. parts.items ≡ map (λ b. formula b.name) c.blocks-2.result.now)
    c.in_ok-parts.was (c.name_parts.ensures formula builds) in
    ok-same c.all.result _ (all_statements (map formula (table_names table)))
    (ap all_statements (made ∙ ap (map (λ b. formula b.name)) c.blocks-2.ensures.blocks ∙ map-map formula block_name table.blocks))
    c.all.ensures
