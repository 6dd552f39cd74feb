-- The rule of providers by directives that name several virtuals.
use Rattle.std.specs.Prelude.{◌==◌, List, None, filter, not}
use Rattle.std.specs.Str.{bytes_eq}
use Rattle.clause_formulas.specs.Rules.{Proposition, if_so}
use Rattle.graph_core.specs.Graphs.{Text}
use Rattle.recipe_data.specs.declared.recipe.ProvideRow.{ProvideRow}
use Rattle.problem.specs.Problems.{Problem, world_of, provides_at}
use Rattle.graph_formulas.specs.Lists.{settled_test, each_keeps, asked_unless}
use Rattle.graph_formulas.specs.Parts.{row_rule}
use Rattle.graph_formulas.specs.Terms.{Term, known_rule}
use Rattle.graph_formulas.specs.Edges.{of_provider}

-- the virtual has no provider but this package
abbrev pub no_other_rule : (Text → List Text) → Text → Text → Proposition Term
no_other_rule packages name virtual = of_provider packages (λ q. known_rule (settled_test (bytes_eq q.1 name))) virtual

module _ (problem : Problem) (packages : Text → List Text) where
  -- so it is of each name of the row's directive
  abbrev pub each_name_rule : Text → ProvideRow → Proposition Term
  each_name_rule name row =
      each_keeps (λ other. no_other_rule packages name other.name) (filter (λ other. other.number == row.number) (provides_at problem name))

  -- where the provider provides the virtual by the row
  abbrev pub by_row_rule : Text × Text → ProvideRow → Proposition Term
  by_row_rule p row = if_so (known_rule (row_rule (world_of problem) p.1 p.0 None row)) (each_name_rule p.1 row)

  -- of a virtual and its provider, where the settings ask for it
  abbrev pub together_rule : Text × Text → Proposition Term
  together_rule p = asked_unless (not problem.settings.provided_together)
      (each_keeps (by_row_rule p) (filter (λ row. bytes_eq row.name p.0) (provides_at problem p.1)))
