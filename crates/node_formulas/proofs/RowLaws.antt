-- The rows are the formulas of their rules.
use Rattle.std.proofs.Common.{◌≡◌, ap, ◌∙◌, None, map}
use Rattle.std.specs.Prelude.{◌&&◌, is_some}
use Rattle.clause_formulas.specs.Statements.{Statement, all_statements}
use Rattle.clause_formulas.specs.Rules.{fact, if_so}
use Rattle.recipe_data.specs.OfSpecGrammar.Condition.{Condition}
use Rattle.graph_core.specs.Graphs.{Text}
use Rattle.problem.specs.Problems.{Problem, world_of, recipe_at, package_entry_of, is_buildable_in}
use Rattle.literal_table.specs.Tables.{Table}
use Rattle.graph_formulas.specs.Facts.{word_said, provides_as}
use Rattle.graph_formulas.specs.Words.{names_for}
use Rattle.graph_formulas.specs.Terms.{term_said, known_rule, where_built, where_there}
use Rattle.graph_formulas.specs.Built.{buildable_rule, compiler_rule, provider_rule}
use Rattle.graph_formulas.specs.Edges.{of_provider}
use Rattle.graph_formulas.specs.Kept.{kept_rule, origins_of}
use Rattle.graph_formulas.specs.Laws.{term_formula, table_names, virtuals_of, children_of}
use Rattle.word_formulas.specs.Builders.{no_paths, plain_said}
use Rattle.word_formulas.proofs.PathFree.{given-agree, provides-agree}
use Rattle.word_formulas.proofs.Steps.{each-said}
use Rattle.node_formulas.specs.Rows.{built_said, there_said, built_row, there_row, provided_said, providers_said, provided_row}
use Rattle.node_formulas.proofs.PlainRows.{compiler-plain, kept-plain}
use Rattle.node_formulas.proofs.Steps.{map-same}

module _ (path : Text → Text → Statement) (condition : Text → Condition → Statement) (t : Table) (problem : Problem) where
  pub buildable-row : all_statements
      (map (λ name. term_formula path condition t (where_built name (known_rule (buildable_rule problem name)))) (table_names t))
      ≡ built_row t (λ name. plain_said t (buildable_rule problem name))
  buildable-row =
      ap all_statements
      (map-same (λ (name : Text). term_formula path condition t (where_built name (known_rule (buildable_rule problem name))))
      (λ (name : Text). built_said t name (plain_said t (buildable_rule problem name)))
      (λ name. ap (built_said t name) (given-agree (word_said path t) (word_said no_paths t) (is_some (recipe_at problem name)
      && is_buildable_in (package_entry_of problem name)))) (table_names t))

  pub compiler-row : all_statements
      (map (λ name. term_formula path condition t (where_built name (known_rule (compiler_rule problem name)))) (table_names t))
      ≡ built_row t (λ name. plain_said t (compiler_rule problem name))
  compiler-row =
      ap all_statements
      (map-same (λ (name : Text). term_formula path condition t (where_built name (known_rule (compiler_rule problem name))))
      (λ (name : Text). built_said t name (plain_said t (compiler_rule problem name)))
      (λ name. ap (built_said t name) (compiler-plain path t problem name)) (table_names t))

  pub kept-row : all_statements
      (map (λ name. term_formula path condition t
      (where_there name (known_rule (kept_rule problem (children_of t name) (origins_of t name) name)))) (table_names t))
      ≡ there_row t (λ name. plain_said t (kept_rule problem (children_of t name) (origins_of t name) name))
  kept-row = ap all_statements
      (map-same (λ (name : Text). term_formula path condition t
      (where_there name (known_rule (kept_rule problem (children_of t name) (origins_of t name) name))))
      (λ (name : Text). there_said t name (plain_said t (kept_rule problem (children_of t name) (origins_of t name) name)))
      (λ name. ap (there_said t name) (kept-plain path t problem (children_of t name) (origins_of t name) name)) (table_names t))

  providers-are : (virtual : Text) → term_formula path condition t
      (of_provider (names_for t) (λ p. known_rule (provider_rule problem p)) virtual)
      ≡ providers_said t (λ p. plain_said t (provider_rule problem p)) virtual
  providers-are virtual =
      each-said (term_said path condition t) (λ (p : Text). if_so (known_rule (fact (provides_as virtual p)))
      (known_rule (provider_rule problem (virtual, p)))) (names_for t virtual)
      ∙ ap all_statements
      (map-same (λ (p : Text). term_formula path condition t
      (if_so (known_rule (fact (provides_as virtual p))) (known_rule (provider_rule problem (virtual, p)))))
      (λ (p : Text). provided_said t virtual p (plain_said t (provider_rule problem (virtual, p))))
      (λ p. ap (provided_said t virtual p) (provides-agree path t (world_of problem) p virtual None)) (names_for t virtual))

  pub provider-row : all_statements
      (map (λ virtual. term_formula path condition t (of_provider (names_for t) (λ p. known_rule (provider_rule problem p)) virtual))
      (virtuals_of t))
      ≡ provided_row t (λ p. plain_said t (provider_rule problem p))
  provider-row =
      ap all_statements
      (map-same (λ (virtual : Text). term_formula path condition t
      (of_provider (names_for t) (λ p. known_rule (provider_rule problem p)) virtual))
      (providers_said t (λ p. plain_said t (provider_rule problem p))) providers-are (virtuals_of t))
