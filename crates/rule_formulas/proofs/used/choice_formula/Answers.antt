use Rattle.clause_formulas.specs.Statements.{implication_of}
use Rattle.clause_formulas.specs.Rules.{fact, if_so}
use Rattle.graph_formulas.specs.Facts.{provides_as}
use Rattle.graph_formulas.specs.Terms.{known_rule}
use Rattle.graph_formulas.specs.Laws.{may_use}
use Rattle.graph_formulas.specs.Edges.{used_rule}
use Rattle.literal_table.specs.Tables.{table_names}
use Rattle.word_formulas.specs.Builders.{plain_said}
use Rattle.word_formulas.proofs.Steps.{ok-same, ok-is, implies-same}
use Rattle.rule_formulas.specs.Terms.{plain_term, no_conditions}
use Rattle.rule_formulas.proofs.used.choice_formula.Goals as goal

pub returns : goal.returns
returns c =
    let table = c.args.scribe.now.table.now in
    let virtual_name = c.args.virtual_name.now in
    let package_name = c.args.choice.now.0 in
    let provides = ok-is c.provider_formula.result c.in_ok-provides.provides
    (plain_said table (fact (provides_as virtual_name package_name))) c.in_ok-provides.was c.provider_formula.ensures in
    let used = ok-is c.used_by_some.result c.in_ok-used.used
    (plain_term table no_conditions (used_rule (may_use table) (table_names table) (virtual_name, package_name))) c.in_ok-used.was
    c.used_by_some.ensures in
    ok-same c.implies.result (implication_of c.in_ok-provides.provides c.in_ok-used.used)
    (plain_term table no_conditions (if_so (known_rule (fact (provides_as virtual_name package_name)))
    (used_rule (may_use table) (table_names table) (virtual_name, package_name))))
    (implies-same _ _ _ _ provides used) c.implies.ensures
