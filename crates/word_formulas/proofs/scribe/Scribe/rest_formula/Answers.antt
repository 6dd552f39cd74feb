use Rattle.std.proofs.Common.{rules, sym, ap, ◌∙◌, map}
use Rattle.clause_formulas.specs.Statements.{all_statements, both_statements}
use Rattle.condition_rules.specs.Meets.{meets_platform}
use Rattle.graph_formulas.specs.Facts.{word_said}
use Rattle.graph_formulas.specs.Parts.{values_rule, rest_rule}
use Rattle.word_formulas.specs.Builders.{given_said, no_paths, plain_said}
use Rattle.word_formulas.proofs.Steps.{ok-same, ok-is, each-said, given-said, both-same}
use Rattle.word_formulas.proofs.scribe.Scribe.rest_formula.Goals as goal

pub returns : goal.returns
unfolding rest_rule
returns c =
    let table = c.args.self.now.table.now in
    let name = c.args.name.now in
    let part = c.args.part.now in
    let said = word_said no_paths table in
    let formula = λ (wanted : _). plain_said table (values_rule name wanted) in
    let variants = ok-is c.each.result c.in_ok-variants.variants (all_statements (map formula c.as_slice.result.now)) c.in_ok-variants.was
    (c.each.ensures formula (λ x r says. search rules))
    ∙ ap (λ l. all_statements (map formula l)) c.as_slice.ensures ∙ sym (each-said said (values_rule name) part.variants) in
    let compiler = ok-is c.wanted_compiler.result c.in_ok-compiler.compiler _ c.in_ok-compiler.was (c.wanted_compiler.ensures) in
    let platform = c.given-platform.ensures ∙ ap given_said c.meets_platform.ensures
    ∙ given-said said (meets_platform c.args.world.now part) in
    let os = ok-is c.os_formula.result c.in_ok-os.os _ c.in_ok-os.was (c.os_formula.ensures) in
    let targets = ok-is c.targets_formula.result c.in_ok-targets.targets _ c.in_ok-targets.was (c.targets_formula.ensures) in
    let with_compiler = c.in_ok-with_compiler.ensures ∙ both-same _ _ _ _ variants compiler in
    let with_platform = c.in_ok-with_platform.ensures ∙ both-same _ _ _ _ with_compiler platform in
    let with_os = c.in_ok-with_os.ensures ∙ both-same _ _ _ _ with_platform os in
    ok-same c.both-4.result (both_statements c.in_ok-with_os.with_os c.in_ok-targets.targets)
    (plain_said table (rest_rule c.args.world.now name part))
    (both-same _ _ _ _ with_os targets) c.both-4.ensures
