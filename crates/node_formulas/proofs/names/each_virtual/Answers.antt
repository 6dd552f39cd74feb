use Rattle.std.proofs.Common.{◌≡◌, ap, ◌∙◌, map}
use Rattle.clause_formulas.specs.Statements.{all_statements}
use Rattle.graph_formulas.specs.Laws.{virtuals_of}
use Rattle.literal_table.specs.Tables.{provider_virtual}
use Rattle.word_formulas.proofs.AskedSteps.{ok-at}
use Rattle.word_formulas.proofs.Steps.{ok-same}
use Rattle.node_formulas.proofs.Steps.{map-map}
use Rattle.node_formulas.proofs.names.each_virtual.Goals as goal

pub returns : goal.returns
returns g c = λ formula builds.
    let table = c.args.table.now in
    let made = ok-at c.virtual_parts.result c.in_ok-parts.parts (λ parts. parts.items ≡ map (λ p. formula p.name) c.providers.result.now)
    c.in_ok-parts.was (c.virtual_parts.ensures formula builds) in
    ok-same c.all.result _ (all_statements (map formula (virtuals_of table)))
    (ap all_statements (made ∙ ap (map (λ p. formula p.name)) c.providers.ensures.providers
    ∙ map-map formula provider_virtual table.providers)) c.all.ensures
