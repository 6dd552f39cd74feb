use Rattle.std.proofs.Common.{ap, ◌∙◌}
use Rattle.std.specs.Str.{bytes_eq}
use Rattle.clause_formulas.specs.Statements.{both_statements}
use Rattle.condition_rules.specs.Words.{if_written}
use Rattle.graph_formulas.specs.Facts.{word_said}
use Rattle.graph_formulas.specs.Parts.{there_rule, asks_fact, meets_rule}
use Rattle.word_formulas.specs.Builders.{given_said, no_paths, plain_said}
use Rattle.word_formulas.proofs.Steps.{ok-same, ok-is, given-said, unless-said, both-same}
use Rattle.word_formulas.proofs.scribe.Scribe.meets_formula.Goals as goal

pub returns : goal.returns
unfolding meets_rule
returns c =
    let table = c.args.self.now.table.now in
    let name = c.args.name.now in
    let part = c.args.part.now in
    let named = c.given-named.ensures ∙ ap given_said c.is_named.ensures
    ∙ given-said (word_said no_paths table) (if_written part.name (bytes_eq name)) in
    let versions = ok-is c.versions_formula.result c.in_ok-versions.versions _ c.in_ok-versions.was (c.versions_formula.ensures) in
    let rest = ok-is c.rest_formula.result c.in_ok-rest.rest _ c.in_ok-rest.was (c.rest_formula.ensures) in
    let with_name = c.in_ok-with_name.ensures ∙ both-same _ _ _ _ (c.node_of_part-there.ensures
    ∙ unless-said (word_said no_paths table) (asks_fact part) (there_rule name)) named in
    let with_versions = c.in_ok-with_versions.ensures ∙ both-same _ _ _ _ with_name versions in
    ok-same c.both-3.result (both_statements c.in_ok-with_versions.with_versions c.in_ok-rest.rest)
    (plain_said table (meets_rule c.args.world.now name part))
    (both-same _ _ _ _ with_versions rest) c.both-3.ensures
