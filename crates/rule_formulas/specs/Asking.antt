-- Rows of dependencies with the packages that each may ask for, and the formulas of edges over them.
use Rattle.std.specs.Prelude.{Bool, ◌&&◌, List, Option, Some, None, map, filter, if◌then◌else◌}
use Rattle.std.specs.List.{list_any}
use Rattle.std.specs.Option.{option_and_then}
use Rattle.std.specs.Str.{bytes_eq}
use Rattle.clause_formulas.specs.Rules.{fact}
use Rattle.clause_formulas.specs.Statements.{Statement, any_statement, both_statements, implication_of}
use Rattle.graph_core.specs.Graphs.{Text}
use Rattle.condition_rules.specs.Words.{is_some_and}
use Rattle.condition_rules.specs.Worlds.{World}
use Rattle.virtuals.specs.Virtuals.{is_virtual}
use Rattle.recipe_data.specs.OfSpecGrammar.Condition.{Condition}
use Rattle.recipe_data.specs.declared.recipe.DependRow.{DependRow}
use Rattle.literal_table.specs.Choices.{Choices}
use Rattle.literal_table.specs.Tables.{Table, packages_of}
use Rattle.problem.specs.Problems.{Problem, world_of}
use Rattle.graph_formulas.specs.Edges.{asks_rule, virtual_rule}
use Rattle.graph_formulas.specs.Facts.{has_edge}
use Rattle.graph_formulas.specs.Laws.{virtuals_on}
use Rattle.graph_formulas.specs.Lists.{each_keeps}
use Rattle.graph_formulas.specs.Words.{names_for}
use Rattle.word_formulas.specs.Builders.{plain_said}
use Rattle.rule_formulas.specs.Terms.{plain_term, kinds_of, has_of}
use Rattle.rule_formulas.specs.declared.extra_edges.EdgeKind.{EdgeKind}
use Rattle.rule_formulas.specs.declared.extra_edges.EdgeKind.TheVariants as edge

-- the packages that may provide a virtual: None of a name that is no virtual
abbrev pub packages_asked : World → Table → Text → Option (Choices Text)
packages_asked world table asked = if is_virtual world.recipes asked then Some (packages_of table asked) else None

-- a row, with the packages that may provide the virtual that it names
abbrev pub asking_row : Problem → Table → DependRow → DependRow × Option (Choices Text)
asking_row problem table row = (row, option_and_then (packages_asked (world_of problem) table) row.part.name)

-- the child is one of these packages, or, where there are none, has the name that is asked for
abbrev pub may_name : Option (Choices Text) → Option Text → Text → Bool
may_name (Some packages) asked child = list_any (λ choice. bytes_eq child choice.0) packages
may_name None asked child = is_some_and asked (λ name. bytes_eq name child)

abbrev pub may_name_as : EdgeKind → Text → DependRow × Option (Choices Text) → Bool
may_name_as kind child asking = has_of kind asking.0.kinds && may_name asking.1 asking.0.part.name child

module _ (problem : Problem) (table : Table) (condition : Text → Condition → Statement) (rows : List (DependRow × Option (Choices Text))) where
  -- some row asks for the child as this kind
  abbrev pub asking_said : EdgeKind → Text → Text → Statement
  asking_said kind name child = any_statement (map (λ asking. plain_term table condition (asks_rule problem (names_for table) name child asking.0))
      (filter (may_name_as kind child) rows))

  -- where the edge has the kind, some row asks for it
  abbrev pub kind_said : EdgeKind → Text → Text → Statement
  kind_said kind name child = implication_of (plain_said table (fact (has_edge name child (kinds_of kind)))) (asking_said kind name child)

  -- the edge has no kind that none of the rows asks for, and no virtual that none of those of the named package does
  abbrev pub extra_edge_said : Problem × Text → Text → Text → Statement
  extra_edge_said named name child = both_statements
      (both_statements (both_statements (kind_said edge.Build name child) (kind_said edge.Link name child)) (kind_said edge.Run name child))
      (plain_term table condition
      (each_keeps (virtual_rule named.0 (names_for table) named.1 child) (virtuals_on table named.1 child)))
