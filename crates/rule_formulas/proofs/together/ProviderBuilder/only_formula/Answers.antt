use Rattle.std.proofs.Common.{ap, ◌∙◌}
use Rattle.std.specs.Str.{bytes_eq}
use Rattle.clause_formulas.specs.Statements.{implication_of}
use Rattle.clause_formulas.specs.Rules.{fact, if_so}
use Rattle.graph_core.specs.Graphs.{Text}
use Rattle.graph_formulas.specs.Facts.{word_said, provides_as}
use Rattle.graph_formulas.specs.Lists.{settled_test}
use Rattle.graph_formulas.specs.Terms.{known_rule}
use Rattle.word_formulas.specs.Builders.{given_said, no_paths, plain_said}
use Rattle.word_formulas.proofs.Steps.{ok-same, ok-is, implies-same, given-said}
use Rattle.rule_formulas.specs.Terms.{plain_term, no_conditions}
use Rattle.rule_formulas.proofs.together.ProviderBuilder.only_formula.Goals as goal

pub returns : goal.returns
returns c =
    let table = c.args.self.now.scribe.table.now in
    let virtual_name = c.args.virtual_name.now in
    let other = c.args.choice.now.0 in
    let name = c.args.name.now in
    let provides = ok-is c.provider_formula.result c.in_ok-provides.provides (plain_said table (fact (provides_as virtual_name other)))
    c.in_ok-provides.was c.provider_formula.ensures in
    let same = c.given-same.ensures
    ∙ ap given_said (c.eq.ensures ∙ ap (λ (a : Text). bytes_eq a c.as_str-2.result.now) c.as_str.ensures
    ∙ ap (bytes_eq other) c.as_str-2.ensures)
    ∙ given-said (word_said no_paths table) (bytes_eq other name) in
    ok-same c.implies.result (implication_of c.in_ok-provides.provides c.given-same.result)
    (plain_term table no_conditions
    (if_so (known_rule (fact (provides_as virtual_name other))) (known_rule (settled_test (bytes_eq other name)))))
    (implies-same _ _ _ _ provides same) c.implies.ensures
