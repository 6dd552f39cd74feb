use Rattle.std.proofs.Common.{rules, sym, ap, ◌∙◌, map, List}
use Rattle.std.specs.Str.{bytes_eq}
use Rattle.clause_formulas.specs.Statements.{all_statements}
use Rattle.clause_formulas.specs.Rules.{fact, if_so}
use Rattle.clause_store.specs.declared.Lit.{Lit}
use Rattle.graph_core.specs.Graphs.{Text}
use Rattle.literal_table.specs.Tables.{packages_of}
use Rattle.graph_formulas.specs.Facts.{provides_as}
use Rattle.graph_formulas.specs.Lists.{settled_test}
use Rattle.graph_formulas.specs.Words.{names_for}
use Rattle.graph_formulas.specs.Terms.{term_said, known_rule}
use Rattle.graph_formulas.specs.Together.{no_other_rule}
use Rattle.word_formulas.specs.Builders.{no_paths}
use Rattle.word_formulas.proofs.Steps.{ok-same, each-said}
use Rattle.rule_formulas.specs.Terms.{plain_term, no_conditions}
use Rattle.rule_formulas.proofs.Lists.{over-mapped}
use Rattle.rule_formulas.proofs.together.ProviderBuilder.no_other_formula.Goals as goal

pub returns : goal.returns
returns c =
    let table = c.args.self.now.scribe.table.now in
    let virtual_name = c.args.virtual_name.now in
    let name = c.args.name.now in
    let rule = λ (n : Text). if_so (known_rule (fact (provides_as virtual_name n))) (known_rule (settled_test (bytes_eq n name))) in
    let said = λ (n : Text). plain_term table no_conditions
    (if_so (known_rule (fact (provides_as virtual_name n))) (known_rule (settled_test (bytes_eq n name)))) in
    let formula = λ (choice : Text × Lit). plain_term table no_conditions
    (if_so (known_rule (fact (provides_as virtual_name choice.0))) (known_rule (settled_test (bytes_eq choice.0 name)))) in
    let first = λ (choice : Text × Lit). choice.0 in
    ok-same c.each.result (all_statements (map formula c.packages.result.now))
    (plain_term table no_conditions (no_other_rule (names_for table) name virtual_name))
    (ap (λ (l : List (Text × Lit)). all_statements (map formula l)) (c.packages.ensures ∙ ap (packages_of table) c.as_str.ensures)
    ∙ ap all_statements (over-mapped said first (packages_of table virtual_name))
    ∙ sym (each-said (term_said no_paths no_conditions table) rule (names_for table virtual_name)))
    (c.each.ensures formula (λ x r says. search rules))
