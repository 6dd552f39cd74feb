-- The rule of providers by directives that name several virtuals holds where it is kept.
use Rattle.std.proofs.Common.{◌≡◌, ap, ◌∙◌, Bool, true, not, ◌||◌, List, filter, Some, None}
use Rattle.std.specs.Prelude.{◌==◌}
use Rattle.std.specs.Str.{bytes_eq}
use Rattle.clause_formulas.specs.Rules.{Proposition, keeps_rule}
use Rattle.graph_core.specs.Graphs.{Text, Content, provider_of}
use Rattle.condition_rules.specs.Words.{is_one_text}
use Rattle.recipe_data.specs.declared.recipe.ProvideRow.{ProvideRow}
use Rattle.problem.specs.Problems.{Problem, world_of, provides_at}
use Rattle.graph_rules.specs.Whole.{has_no_other, provides_by, provides_together, keeps_row_together, keeps_together}
use Rattle.graph_formulas.specs.Facts.{is_in}
use Rattle.graph_formulas.specs.Lists.{settled_test, each_keeps}
use Rattle.graph_formulas.specs.Terms.{Term, is_true, known_rule}
use Rattle.graph_formulas.specs.Together.{no_other_rule, each_name_rule, by_row_rule, together_rule}
use Rattle.graph_formulas.proofs.Rules.{given-kept, each-kept, unless-kept}
use Rattle.graph_formulas.proofs.Kept.{row-kept}
use Rattle.graph_formulas.proofs.Directives.{not-or}
use Rattle.graph_formulas.proofs.Demands.{all-filter}
use Rattle.graph_formulas.proofs.Providers.{of-provider-kept}

module _ (problem : Problem) (packages : Text → List Text) (graph : Content)
    (listed : (virtual p : Text) → provider_of graph virtual ≡ Some p → is_one_text (packages virtual) p ≡ true) where
  abbrev here : Proposition Term → Bool
  here rule = keeps_rule (is_true (world_of problem) graph) rule

  no_other-kept : (name virtual : Text) → here (no_other_rule packages name virtual) ≡ has_no_other graph name virtual
  no_other-kept name virtual =
      of-provider-kept problem packages graph listed (λ q. known_rule (settled_test (bytes_eq q.1 name))) (λ q. bytes_eq q.1 name)
      (λ q. given-kept (is_in graph) (bytes_eq q.1 name)) virtual

  each_name-kept : (name : Text) (row : ProvideRow)
      → here (each_name_rule problem packages name row) ≡ provides_together problem graph name row
  each_name-kept name row =
      each-kept (is_true (world_of problem) graph) (λ other. no_other_rule packages name other.name)
      (λ other. has_no_other graph name other.name) (λ other. no_other-kept name other.name)
      (filter (λ other. other.number == row.number) (provides_at problem name))
      ∙ all-filter (λ other. has_no_other graph name other.name) (λ other. other.number == row.number) (provides_at problem name)

  by_row-kept : (p : Text × Text) (row : ProvideRow) → here (by_row_rule problem packages p row) ≡ keeps_row_together problem graph p row
  by_row-kept p row = rw (row-kept (world_of problem) graph p.1 p.0 None row, each_name-kept p.1 row)
      (not-or (provides_by problem graph p row) _)

  -- of a virtual and its provider
  pub together-kept : (p : Text × Text) → here (together_rule problem packages p) ≡ keeps_together problem graph p
  unfolding keeps_together
  together-kept p =
      unless-kept (is_true (world_of problem) graph) (not problem.settings.provided_together)
      (each_keeps (by_row_rule problem packages p) rows)
      ∙ ap (λ b. not problem.settings.provided_together || b)
      (each-kept (is_true (world_of problem) graph) (by_row_rule problem packages p) (keeps_row_together problem graph p)
      (by_row-kept p) rows
      ∙ all-filter (keeps_row_together problem graph p) (λ row. bytes_eq row.name p.0) (provides_at problem p.1))
      ∙ not-or problem.settings.provided_together _
    where
      rows : List ProvideRow
      rows = filter (λ row. bytes_eq row.name p.0) (provides_at problem p.1)
