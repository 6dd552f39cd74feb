-- The rows of rules of one node, as formulas.
use Rattle.std.specs.Prelude.{Bool, List, [], ◌∷◌, map, if◌then◌else◌}
use Rattle.clause_formulas.specs.Statements.{Statement, all_statements, implication_of}
use Rattle.clause_formulas.specs.Rules.{fact}
use Rattle.graph_core.specs.Graphs.{Text}
use Rattle.literal_table.specs.Tables.{Table}
use Rattle.graph_formulas.specs.Facts.{is_there, has_origin, provides_as}
use Rattle.graph_formulas.specs.Words.{names_for}
use Rattle.problem.specs.Nodes.{builds}
use Rattle.graph_formulas.specs.Laws.{table_names, virtuals_of}
use Rattle.word_formulas.specs.Builders.{node_said, plain_said}

-- what counts, in a list
abbrev pub only_if : {T : Type 0} → Bool → T → List T
only_if counts x = if counts then x ∷ [] else []

-- where the node of the name is to be built, the formula is true
abbrev pub built_said : Table → Text → Statement → Statement
built_said t name rule = implication_of (node_said t name (has_origin builds)) rule

-- where the node of the name is there
abbrev pub there_said : Table → Text → Statement → Statement
there_said t name rule = implication_of (node_said t name is_there) rule

-- at all names of the table
abbrev pub built_row : Table → (Text → Statement) → Statement
built_row t said = all_statements (map (λ name. built_said t name (said name)) (table_names t))

abbrev pub there_row : Table → (Text → Statement) → Statement
there_row t said = all_statements (map (λ name. there_said t name (said name)) (table_names t))

-- where the package provides the virtual, the formula is true
abbrev pub provided_said : Table → Text → Text → Statement → Statement
provided_said t virtual name rule = implication_of (plain_said t (fact (provides_as virtual name))) rule

-- of each package that may provide the virtual
abbrev pub providers_said : Table → (Text × Text → Statement) → Text → Statement
providers_said t said virtual = all_statements (map (λ name. provided_said t virtual name (said (virtual, name))) (names_for t virtual))

-- of all virtuals of the table
abbrev pub provided_row : Table → (Text × Text → Statement) → Statement
provided_row t said = all_statements (map (providers_said t said) (virtuals_of t))
