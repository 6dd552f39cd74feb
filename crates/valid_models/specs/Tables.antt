-- The table of a problem, with its decoding.
use Rattle.std.specs.Prelude.{◌≡◌, ℕ, true, List}
use Rattle.graph_core.specs.Graphs.{Text}
use Rattle.problem.specs.Problems.{Problem}
use Rattle.problem.specs.Closure.{IsClosure}
use Rattle.literal_table.specs.Tables.{Table}
use Rattle.table_plan.specs.Plans.{plan_of}
use Rattle.table_plan.specs.Kept.{have_values}
use Rattle.table_plan.specs.Numbers.{table_from, variables_of}
use Rattle.graph_decoding.specs.Structure.{structure}
use Rattle.graph_decoding.specs.Decoding.{decode}
use Rattle.graph_encoding.specs.Formulas.{Formulas, IsRightTable}

-- the table of what is possible at these names, from variable 0 on
abbrev pub table_for : Problem → List Text → Table
table_for problem names = table_from 0 (plan_of problem names)

abbrev pub size_for : Problem → List Text → ℕ
size_for problem names = variables_of (plan_of problem names)

-- the table of the closure is right, with the formulas of its structure and its decoding
abbrev pub ClosureTableIsRight : Type 0
ClosureTableIsRight = (problem : Problem) (names : List Text) (f : Formulas) → IsClosure problem names → have_values problem names ≡ true
    → f.structure ≡ structure (table_for problem names)
    → IsRightTable problem (table_for problem names) (size_for problem names) f (λ v. decode v (table_for problem names))
