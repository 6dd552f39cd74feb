-- The rows of rules, as they are built.
use Rattle.std.specs.Prelude.{List, [], ◌∷◌, ◌++◌, map}
use Rattle.clause_formulas.specs.Statements.{Statement, all_statements}
use Rattle.graph_core.specs.Graphs.{Text}
use Rattle.recipe_data.specs.OfSpecGrammar.Condition.{Condition}
use Rattle.problem.specs.Problems.{Problem}
use Rattle.literal_table.specs.Tables.{Table, table_names, children_of}
use Rattle.graph_formulas.specs.Words.{names_for}
use Rattle.graph_formulas.specs.Terms.{where_built}
use Rattle.graph_formulas.specs.Built.{buildable_rule, version_rule, compiler_rule, machine_rule, provider_rule}
use Rattle.graph_formulas.specs.Edges.{extra_edges_rule, used_rule, of_provider}
use Rattle.graph_formulas.specs.Together.{together_rule}
use Rattle.graph_formulas.specs.Variants.{variants_rule}
use Rattle.graph_formulas.specs.Kept.{kept_rule, origins_of}
use Rattle.graph_formulas.specs.Laws.{virtuals_of, virtuals_on, may_use, variants_of}
use Rattle.rule_formulas.specs.OfWordFormulas.Builders.{plain_said}
use Rattle.node_formulas.specs.Rows.{built_row, there_row, provided_row}
use Rattle.rule_formulas.specs.Terms.{plain_term, no_conditions}

-- some edge names each virtual that has a provider
abbrev pub used_row : Table → Statement
used_row t =
    all_statements (map (λ name. plain_term t no_conditions (of_provider (names_for t) (used_rule (may_use t) (table_names t)) name))
    (virtuals_of t))

-- a provider of the virtual by a directive is that of each name of it that has one
unfoldable pub together_said : Problem → Table → Text → Statement
together_said problem t name = plain_term t no_conditions (of_provider (names_for t) (together_rule problem (names_for t)) name)

abbrev pub together_row : Problem → Table → Statement
together_row problem t = all_statements (map (together_said problem t) (virtuals_of t))

module _ (problem : Problem) (t : Table) (condition : Text → Condition → Statement) where
  abbrev pub variant_row : Statement
  variant_row =
      all_statements (map (λ name. plain_term t condition (where_built name (variants_rule problem (variants_of t name) name)))
      (table_names t))

  abbrev pub extra_row : Statement
  extra_row = all_statements
      (map (λ name. plain_term t condition (where_built name
      (extra_edges_rule problem (names_for t) (virtuals_on t name) (children_of t name) name)))
      (table_names t))

  abbrev pub first_rows : List Statement
  first_rows = built_row t (λ name. plain_said t (buildable_rule problem name))
      ∷ built_row t (λ name. plain_said t (version_rule problem name)) ∷ variant_row ∷ []

  abbrev pub more_rows : List Statement
  more_rows = built_row t (λ name. plain_said t (compiler_rule problem name))
      ∷ built_row t (λ name. plain_said t (machine_rule problem name)) ∷ extra_row ∷ []

  abbrev pub last_rows : List Statement
  last_rows =
      there_row t (λ name. plain_said t (kept_rule problem (children_of t name) (origins_of t name) name))
      ∷ provided_row t (λ p. plain_said t (provider_rule problem p)) ∷ used_row t ∷ together_row problem t ∷ []

  abbrev pub rows_said : List Statement
  rows_said = first_rows ++ (more_rows ++ last_rows)
