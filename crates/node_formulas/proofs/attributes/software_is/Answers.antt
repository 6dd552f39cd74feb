use Rattle.std.proofs.Common.{ap, ◌∙◌}
use Rattle.std.specs.Str.{bytes_eq}
use Rattle.graph_formulas.specs.Facts.{word_said}
use Rattle.word_formulas.specs.Builders.{no_paths, plain_said, given_said}
use Rattle.word_formulas.proofs.Steps.{ok-same, given-said, both-same}
use Rattle.node_formulas.specs.Attributes.{software_rule}
use Rattle.node_formulas.proofs.attributes.software_is.Goals as goal

pub returns : goal.returns
returns c =
    let table = c.args.table.now in
    let named = c.given-named.ensures ∙ ap given_said c.eq.ensures
    ∙ given-said (word_said no_paths table) (bytes_eq c.args.name.now c.args.own.now) in
    ok-same c.both-2.result _ (plain_said table (software_rule c.args.name.now c.args.own.now c.args.version.now c.args.variants.now))
    (both-same _ _ _ _ (c.in_ok-first.ensures ∙ both-same _ _ _ _ named c.in_ok-version.ensures) c.in_ok-variants.ensures) c.both-2.ensures
