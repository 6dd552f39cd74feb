-- What builders say: the formula of a rule, over what they hold.
use Rattle.std.specs.Prelude.{◌≡◌, List, map}
use Rattle.clause_formulas.specs.Statements.{Statement}
use Rattle.clause_formulas.specs.Rules.{Proposition}
use Rattle.graph_core.specs.Graphs.{Text}
use Rattle.condition_rules.specs.Worlds.{World}
use Rattle.recipe_data.specs.OfSpecGrammar.Condition.{Condition}
use Rattle.recipe_data.specs.declared.recipe.RequireRow.{RequireRow}
use Rattle.problem.specs.Problems.{Problem, world_of}
use Rattle.problem.specs.declared.demand.Demand.{Demand}
use Rattle.graph_formulas.specs.Facts.{GraphWord}
use Rattle.graph_formulas.specs.Words.{names_for, rule_said}
use Rattle.graph_formulas.specs.Terms.{Term}
use Rattle.graph_formulas.specs.Demands.{demand_rule}
use Rattle.graph_formulas.specs.Laws.{has_name, term_formula}
use Rattle.rule_formulas.specs.Paths.{path_by}
use Rattle.rule_formulas.specs.Terms.{apart_said, choice_said, plain_term, no_conditions}
use Rattle.rule_formulas.specs.declared.spec_builder.SpecBuilder.{SpecBuilder}
use Rattle.rule_formulas.specs.declared.demand_builder.DemandBuilder.{DemandBuilder}
use Rattle.rule_formulas.specs.declared.together.ProviderBuilder.{ProviderBuilder}

-- the packages that may provide each virtual
abbrev pub Names : Type 0
Names = Text → List Text

-- ---- specs

-- something of the world and of the names, as the builder sees them
abbrev pub of_builder : {T : Type 0} → SpecBuilder → (World → Names → T) → T
of_builder b thing = thing b.world.now (names_for b.scribe.table.now)

-- the formula is that of the rule
abbrev pub says : SpecBuilder → (World → Names → Proposition GraphWord) → Statement → Type 0
says b rule = λ formula. formula ≡ rule_said (path_by b.scribe.table.now b.paths.now) b.scribe.table.now (of_builder b rule)

-- the formulas of rules
abbrev pub all_said : SpecBuilder → (World → Names → List (Proposition GraphWord)) → List Statement
all_said b rules = map (rule_said (path_by b.scribe.table.now b.paths.now) b.scribe.table.now) (of_builder b rules)

-- a thing does not keep the rule, or none of the others does
abbrev pub says_apart : {T : Type 0} → SpecBuilder → (World → Names → T → Proposition GraphWord) → T → List T → Statement → Type 0
says_apart b rule x rest = λ formula. formula ≡ apart_said (path_by b.scribe.table.now b.paths.now) b.scribe.table.now (of_builder b rule) x rest

-- ---- demands: the formulas of conditions come first

module _ {C : Type 0} (condition_of : C → Text → Condition → Statement) (b : DemandBuilder C) where
  -- the formula is that of the rule
  abbrev pub says_by : (Problem → Names → Proposition Term) → Statement → Type 0
  says_by rule = λ formula. formula ≡ term_formula (path_by b.scribe.table.now b.paths.now) (condition_of b.conditions.now) b.scribe.table.now
      (rule b.problem.now (names_for b.scribe.table.now))

  -- the formula is that of the demand
  abbrev pub says_demand : Demand → Statement → Type 0
  says_demand demand = says_by (λ problem names. demand_rule problem names (has_name b.scribe.table.now) demand)

module _ {C : Type 0} (b : DemandBuilder C) where
  -- the formula is that of the rule, which speaks of no condition
  abbrev pub says_words : (Problem → Names → Proposition GraphWord) → Statement → Type 0
  says_words rule = λ formula. formula ≡ rule_said (path_by b.scribe.table.now b.paths.now) b.scribe.table.now (rule b.problem.now (names_for b.scribe.table.now))

  -- as many specs of the row hold as it asks for
  abbrev pub says_choice : Text → RequireRow → Statement → Type 0
  says_choice name row = λ formula. formula ≡ choice_said (path_by b.scribe.table.now b.paths.now) b.scribe.table.now (world_of b.problem.now) name row

-- ---- providers

-- the formula is that of the rule, which speaks of no path and of no condition
abbrev pub says_of_providers : ProviderBuilder → (Problem → Names → Proposition Term) → Statement → Type 0
says_of_providers b rule = λ formula. formula ≡ plain_term b.scribe.table.now no_conditions (rule b.problem.now (names_for b.scribe.table.now))
