-- What the directives of a package ask for, list by list.
use Rattle.std.specs.Prelude.{List, map}
use Rattle.clause_formulas.specs.Statements.{Statement}
use Rattle.graph_core.specs.Graphs.{Text}
use Rattle.problem.specs.Problems.{Problem}
use Rattle.literal_table.specs.Tables.{Table}
use Rattle.graph_encoding.specs.Formulas.{PathFormulas}
use Rattle.valid_models.specs.Targets.{conditions_at, conditions_of}
use Rattle.valid_models.specs.Joined.{condition_said}

-- the formulas of the conditions of a package's directives
abbrev pub formulas_at : Problem → Table → PathFormulas → Text → List Statement
formulas_at problem t path name = map (condition_said problem t path name) (conditions_at problem name)

-- and of all packages of the table
abbrev pub formulas_of : Problem → Table → PathFormulas → List Statement
formulas_of problem t path = map (λ c. condition_said problem t path c.0 c.1) (conditions_of problem t)
