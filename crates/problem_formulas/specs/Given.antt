-- The formulas of a problem over a table, where each condition stands with its own formula.
use Rattle.std.specs.Prelude.{None}
use Rattle.problem.specs.Problems.{Problem}
use Rattle.literal_table.specs.Tables.{Table}
use Rattle.graph_decoding.specs.Structure.{structure}
use Rattle.graph_encoding.specs.Formulas.{Formulas}
use Rattle.valid_models.specs.Targets.{conditions_of}
use Rattle.valid_models.specs.Joined.{Places, formulas_for}

-- no condition is looked up
abbrev pub no_place : Places
no_place = λ name when. None

abbrev pub formulas_given : Problem → Table → Formulas
formulas_given problem t = formulas_for problem t (structure t) (conditions_of problem t) no_place
