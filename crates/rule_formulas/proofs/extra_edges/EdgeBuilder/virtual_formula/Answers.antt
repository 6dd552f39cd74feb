use Rattle.std.proofs.Common.{ap, ◌∙◌, filter}
use Rattle.clause_formulas.specs.Statements.{implication_of}
use Rattle.clause_formulas.specs.Rules.{fact}
use Rattle.graph_core.specs.Graphs.{Text}
use Rattle.problem.specs.Problems.{depends_at}
use Rattle.graph_formulas.specs.Facts.{has_virtual, provides_as}
use Rattle.graph_formulas.specs.Edges.{names_virtual, virtual_rule}
use Rattle.graph_formulas.specs.Lists.{some}
use Rattle.graph_formulas.specs.Terms.{met_rule}
use Rattle.graph_formulas.specs.Words.{names_for}
use Rattle.word_formulas.specs.Builders.{plain_said}
use Rattle.word_formulas.proofs.Steps.{ok-same, ok-is, both-same, implies-same}
use Rattle.rule_formulas.specs.Terms.{plain_term}
use Rattle.rule_formulas.proofs.extra_edges.EdgeBuilder.virtual_formula.Goals as goal

pub returns : goal.returns
returns g c =
    let table = c.args.self.now.scribe.table.now in
    let condition = g.C.MetConditions.condition_of c.args.self.now.conditions.now in
    let problem = c.args.self.now.named.now.0 in
    let name = c.args.self.now.named.now.1 in
    let own = c.name-name.result.now in
    let child = c.args.child.now in
    let text = c.as_str-virtual_name.result.now in
    let same = c.as_str-virtual_name.ensures in
    let names = λ (n v : Text). plain_said table (fact (has_virtual n child v)) in
    let provider = λ (v : Text). plain_said table (fact (provides_as v child)) in
    let asked_by = λ (v : Text). plain_term table condition
    (some (λ row. met_rule name row.when) (filter (names_virtual problem v) (depends_at problem name))) in
    let named = ok-is c.has_virtual.result c.in_ok-named.named (names own text) c.in_ok-named.was c.has_virtual.ensures
    ∙ ap (names own) same
    ∙ ap (λ (n : Text). names n c.args.choice.now.0) c.name-name.ensures in
    let provides = ok-is c.provides_as.result c.in_ok-provides.provides (provider text) c.in_ok-provides.was c.provides_as.ensures
    ∙ ap provider same in
    let met = ok-is c.rows_formula.result c.in_ok-met.met (asked_by text) c.in_ok-met.was c.rows_formula.ensures
    ∙ ap asked_by same in
    let asked = c.in_ok-asked.ensures ∙ both-same _ _ _ _ provides met in
    ok-same c.implies.result (implication_of c.in_ok-named.named c.in_ok-asked.asked)
    (plain_term table condition (virtual_rule problem (names_for table) name child c.args.choice.now.0))
    (implies-same _ _ _ _ named asked) c.implies.ensures
