use Rattle.std.proofs.Common.{refl}
use Rattle.clause_formulas.specs.Statements.{both_statements}
use Rattle.graph_formulas.specs.Words.{names_for}
use Rattle.graph_formulas.specs.Edges.{asks_rule}
use Rattle.word_formulas.specs.Asked.{asks_child}
use Rattle.word_formulas.specs.Builders.{plain_said}
use Rattle.word_formulas.proofs.Steps.{ok-same, ok-is, both-same}
use Rattle.rule_formulas.specs.Terms.{plain_term}
use Rattle.rule_formulas.proofs.extra_edges.EdgeBuilder.row_formula.Goals as goal

pub returns : goal.returns
returns g c =
    let table = c.args.self.now.scribe.table.now in
    let problem = c.args.self.now.problem.now in
    let condition = g.C.MetConditions.condition_of c.args.self.now.conditions.now in
    let name = c.args.self.now.name.now in
    let row = c.args.row.now in
    let asks = plain_said table (asks_child problem c.args.child.now row) in
    let met = ok-is c.met.result c.in_ok-met.met (condition name row.when) c.in_ok-met.was c.met.ensures in
    ok-same c.asks_formula.result (both_statements c.in_ok-met.met asks)
    (plain_term table condition (asks_rule problem (names_for table) name c.args.child.now row))
    (both-same c.in_ok-met.met asks (condition name row.when) asks met refl) c.asks_formula.ensures
