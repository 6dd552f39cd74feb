-- Formulas of rules over the conditions of a problem.
use Rattle.std.specs.Prelude.{ℕ, Bool, true, List, [], ◌∷◌, Option, if◌then◌else◌}
use Rattle.clause_formulas.specs.Statements.{Statement, never, any_statement, opposite}
use Rattle.clause_formulas.specs.Rules.{Proposition}
use Rattle.spec_grammar.specs.declared.part.Spec.{Spec}
use Rattle.graph_core.specs.Graphs.{Text, no_kinds}
use Rattle.graph_core.specs.declared.node.Kinds.{Kinds}
use Rattle.condition_rules.specs.Worlds.{World}
use Rattle.recipe_data.specs.OfSpecGrammar.Condition.{Condition}
use Rattle.recipe_data.specs.declared.recipe.RequireRow.{RequireRow}
use Rattle.literal_table.specs.Tables.{Table}
use Rattle.problem.specs.Problems.{Problem}
use Rattle.problem.specs.declared.demand.Demand.TheVariants as demand
use Rattle.graph_formulas.specs.Facts.{GraphWord}
use Rattle.graph_formulas.specs.Lists.{where_written, some, just_one}
use Rattle.graph_formulas.specs.Parts.{holds_rule}
use Rattle.graph_formulas.specs.Words.{names_for, rule_said}
use Rattle.graph_formulas.specs.Terms.{Term}
use Rattle.graph_formulas.specs.Directives.{root_rule, requirement_rule}
use Rattle.graph_formulas.specs.Demands.{demand_rule}
use Rattle.graph_formulas.specs.Laws.{has_name, term_formula}
use Rattle.word_formulas.specs.Builders.{no_paths}
use Rattle.rule_formulas.specs.declared.extra_edges.EdgeKind.{EdgeKind}
use Rattle.rule_formulas.specs.declared.extra_edges.EdgeKind.TheVariants as kind

-- the formula of a rule that speaks of no path but by conditions
abbrev pub plain_term : Table → (Text → Condition → Statement) → Proposition Term → Statement
plain_term table condition rule = term_formula no_paths condition table rule

-- for a rule that speaks of no condition
abbrev pub no_conditions : Text → Condition → Statement
no_conditions name when = never

-- ---- kinds of edges

abbrev pub kinds_of : EdgeKind → Kinds
kinds_of kind.Build = record no_kinds { build = true }
kinds_of kind.Link = record no_kinds { link = true }
kinds_of kind.Run = record no_kinds { run = true }

abbrev pub has_of : EdgeKind → Kinds → Bool
has_of kind.Build = λ kinds. kinds.build
has_of kind.Link = λ kinds. kinds.link
has_of kind.Run = λ kinds. kinds.run

-- ---- specs

module _ (path : Text → Text → Statement) (table : Table) where
  -- as many specs of a requirement hold as it asks for
  abbrev pub choice_said : World → Text → RequireRow → Statement
  choice_said world name row =
      if row.one_of then rule_said path table (just_one (holds_rule world (names_for table) name) row.specs)
      else rule_said path table (some (holds_rule world (names_for table) name) row.specs)

  -- a thing does not keep the rule, or none of the others does
  abbrev pub apart_said : {T : Type 0} → (T → Proposition GraphWord) → T → List T → Statement
  apart_said rule x rest = any_statement (opposite (rule_said path table (rule x)) ∷ opposite (rule_said path table (some rule rest)) ∷ [])

  -- a root, where there is one
  abbrev pub root_said : Problem → Option Spec → Statement
  root_said problem o = rule_said path table (where_written o (root_rule problem (names_for table)))

-- the directives of a package with a number
abbrev pub directives_said : (Text → Text → Statement) → (Text → Condition → Statement) → Problem → Table → Text → ℕ → Statement
directives_said path condition problem table name number =
    term_formula path condition table (demand_rule problem (names_for table) (has_name table) (demand.Directive name number))

-- what the settings ask of a package, where they do
abbrev pub required_said : (Text → Text → Statement) → (Text → Condition → Statement) → Problem → Table → Text
    → Option RequireRow → Statement
required_said path condition problem table name o =
    term_formula path condition table (where_written o (requirement_rule problem (names_for table) name))

-- the requirement of the settings of a package at a place
abbrev pub setting_said : (Text → Text → Statement) → (Text → Condition → Statement) → Problem → Table → Text → ℕ → Statement
setting_said path condition problem table name place =
    term_formula path condition table (demand_rule problem (names_for table) (has_name table) (demand.Setting name place))
