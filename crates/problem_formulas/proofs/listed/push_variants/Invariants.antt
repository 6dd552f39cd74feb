use Rattle.std.proofs.Common.{◌≡◌, ◌++◌, take, map}
use Rattle.valid_models.specs.Joined.{condition_said}
use Rattle.rule_formulas.specs.Paths.{path_by}
use Rattle.problem_formulas.proofs.listed.push_variants.Given as goal

abbrev pub invariant-loop-row : goal.invariant-loop-row
invariant-loop-row l = l.formulas.items ≡ l.initial.formulas.items
    ++ map (λ row. condition_said l.problem l.table (path_by l.table l.paths) l.name row.when) (take l.row-index l.rows)
