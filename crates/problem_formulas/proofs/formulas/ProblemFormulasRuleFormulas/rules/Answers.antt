use Rattle.std.proofs.Common.{ap, sym}
use Rattle.clause_formulas.specs.Drafts.{statement_at}
use Rattle.clause_formulas.specs.Statements.{all_statements}
use Rattle.valid_models.specs.Joined.{condition_said}
use Rattle.rule_formulas.proofs.OfWordFormulas.Steps.{ok-same}
use Rattle.rule_formulas.specs.Paths.{path_by}
use Rattle.problem_formulas.specs.Given.{formulas_given}
use Rattle.problem_formulas.specs.Rows.{rows_said}
use Rattle.problem_formulas.proofs.RowsSame.{rows-same}
use Rattle.problem_formulas.proofs.formulas.ProblemFormulasRuleFormulas.rules.Goals as goal

pub returns : goal.returns
returns c =
    let table = c.args.table.now in
    let problem = c.args.self.now.problem.now in
    let path = path_by table c.args.paths.now in
    let condition = condition_said problem table path in
    ok-same c.all_rules.result (all_statements (rows_said problem table condition))
    ((formulas_given problem table).rules path (statement_at c.args._values.now))
    (sym (ap all_statements (rows-same path condition table problem))) c.all_rules.ensures
