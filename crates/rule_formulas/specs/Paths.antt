-- The formulas of paths that literals say, and the rule of a node that a path reaches.
use Rattle.clause_formulas.specs.Statements.{Statement}
use Rattle.clause_formulas.specs.Rules.{Proposition, fact, both_of}
use Rattle.spec_grammar.specs.declared.part.Part.{Part}
use Rattle.graph_core.specs.Graphs.{Text}
use Rattle.condition_rules.specs.Worlds.{World}
use Rattle.literal_table.specs.Tables.{Table, table_names}
use Rattle.graph_levels.specs.Levels.{PathTable, path_said}
use Rattle.graph_formulas.specs.Facts.{GraphWord, has_path}
use Rattle.graph_formulas.specs.Parts.{suits_rule}

-- the formulas of paths that a table of literals knows
abbrev pub path_by : Table → PathTable → Text → Text → Statement
path_by t p = path_said (table_names t) p.targets p.paths

-- the part, which has this name, holds at the node, and a path leads to it
abbrev pub reached_rule : World → Text → Part → Text → Text → Proposition GraphWord
reached_rule world from part asked name = both_of (suits_rule world part asked name) (fact (has_path from name))
