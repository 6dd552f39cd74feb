use Rattle.clause_formulas.specs.Statements.{implication_of}
use Rattle.clause_formulas.specs.Rules.{fact, if_so}
use Rattle.graph_formulas.specs.Facts.{provides_as}
use Rattle.graph_formulas.specs.Words.{names_for}
use Rattle.graph_formulas.specs.Terms.{known_rule}
use Rattle.graph_formulas.specs.Together.{together_rule}
use Rattle.word_formulas.specs.Builders.{plain_said}
use Rattle.word_formulas.proofs.Steps.{ok-same, ok-is, implies-same}
use Rattle.rule_formulas.specs.Terms.{plain_term, no_conditions}
use Rattle.rule_formulas.proofs.together.ProviderBuilder.choice_formula.Goals as goal

pub returns : goal.returns
returns c =
    let table = c.args.self.now.scribe.table.now in
    let problem = c.args.self.now.problem.now in
    let virtual_name = c.args.virtual_name.now in
    let provider = c.args.choice.now.0 in
    let provides = ok-is c.provider_formula.result c.in_ok-provides.provides (plain_said table (fact (provides_as virtual_name provider)))
    c.in_ok-provides.was c.provider_formula.ensures in
    let together = ok-is c.provider_together.result c.in_ok-together.together
    (plain_term table no_conditions (together_rule problem (names_for table) (virtual_name, provider))) c.in_ok-together.was
    c.provider_together.ensures in
    ok-same c.implies.result (implication_of c.in_ok-provides.provides c.in_ok-together.together)
    (plain_term table no_conditions (if_so (known_rule (fact (provides_as virtual_name provider)))
    (together_rule problem (names_for table) (virtual_name, provider)))) (implies-same _ _ _ _ provides together) c.implies.ensures
