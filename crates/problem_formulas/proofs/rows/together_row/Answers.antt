use Rattle.std.proofs.Common.{rules}
use Rattle.problem_formulas.specs.Rows.{together_said}
use Rattle.problem_formulas.proofs.rows.together_row.Goals as goal

pub returns : goal.returns
returns c = c.each_virtual.ensures (together_said c.args.problem.now c.args.table.now) (λ x r says. search rules)
