-- The conditions of definitions of variants, out of those of all directives.
use Rattle.std.specs.Prelude.{List, [], ◌∷◌, length, take, drop}
use Rattle.clause_formulas.specs.declared.defined.Defined.{Defined}
use Rattle.graph_core.specs.Graphs.{Text}
use Rattle.problem.specs.Problems.{Problem, variants_at, depends_at, conflicts_at, requirements_at, required_at}
use Rattle.literal_table.specs.Tables.{Table, block_name}
use Rattle.std.specs.Prelude.{map}
use Rattle.term_builder.specs.Held.{HeldRow}

-- what is behind the values of a package's directives and of what the settings ask of it
abbrev pub passed : Problem → Text → List Defined → List Defined
passed problem name values =
    drop (length (required_at problem name)) (drop (length (requirements_at problem name)) (drop (length (conflicts_at problem name))
    (drop (length (depends_at problem name)) (drop (length (variants_at problem name)) values))))

-- name by name, the values of a package's definitions of variants
abbrev pub held_from : Problem → List Text → List Defined → List HeldRow
held_from problem [] values = []
held_from problem (name ∷ names) values =
    (name, take (length (variants_at problem name)) values) ∷ held_from problem names (passed problem name values)

abbrev pub held_for : Problem → Table → List Defined → List HeldRow
held_for problem t values = held_from problem (map block_name t.blocks) values
