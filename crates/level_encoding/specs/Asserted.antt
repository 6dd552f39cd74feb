-- Formulas asserted one after the other, and lists with more variables.
use Rattle.std.specs.Prelude.{ℕ, true, List, [], ◌∷◌}
use Rattle.clause_store.specs.declared.Label.TheVariants.{Structure}
use Rattle.clause_store.specs.Clauses.{Clauses}
use Rattle.clause_formulas.specs.Statements.{Statement}
use Rattle.clause_formulas.specs.Built.{assert_on}
use Rattle.level_encoding.specs.Input.{LevelData}
use Rattle.level_encoding.specs.Encoding.{constraints, end}

unfoldable pub assert_all : Clauses → List Statement → Clauses
assert_all s [] = s
assert_all s (f ∷ fs) = assert_all (assert_on Structure s true f) fs

abbrev pub with_vars : Clauses → ℕ → Clauses
with_vars s n = record s { vars = n }

-- the list with the new variables and the clauses of the formulas
unfoldable pub levels_on : LevelData → Clauses → Clauses
levels_on s old = assert_all (with_vars old (end s)) (constraints s)
