-- The formulas of a problem over its table.
use Rattle.std.specs.Prelude.{◌≡◌, ℕ, ◌≤◌, Bool, true, false, List, [], ◌∷◌, map, Option, Some, None, slice_get}
use Rattle.std.specs.List.{list_all, list_any}
use Rattle.clause_formulas.specs.Statements.{Statement, all_statements, SaidBelow}
use Rattle.clause_formulas.specs.Rules.{Proposition}
use Rattle.graph_core.specs.Graphs.{Text, Content}
use Rattle.condition_rules.specs.Holds.{all_hold}
use Rattle.recipe_data.specs.OfSpecGrammar.Condition.{Condition}
use Rattle.problem.specs.Problems.{Problem, world_of, variants_at}
use Rattle.literal_table.specs.Tables.{Table, IsTable, block_of, table_names, children_of}
use Rattle.literal_table.specs.Choices.{choice_values}
use Rattle.literal_table.specs.declared.block.Block.{Block}
use Rattle.condition_rules.specs.Words.{is_one_text}
use Rattle.graph_formulas.specs.Facts.{GraphWord, word_said}
use Rattle.graph_formulas.specs.Parts.{condition_rule}
use Rattle.graph_formulas.specs.Words.{names_for, rule_said}
use Rattle.graph_formulas.specs.Terms.{Term, known_rule, where_built, where_there}
use Rattle.problem.specs.Nodes.{builds}
use Rattle.graph_formulas.specs.Built.{buildable_rule, version_rule, compiler_rule, machine_rule, provider_rule}
use Rattle.graph_formulas.specs.Edges.{extra_edges_rule, used_rule, of_provider}
use Rattle.graph_formulas.specs.Together.{together_rule}
use Rattle.graph_formulas.specs.Variants.{variants_rule}
use Rattle.graph_formulas.specs.Kept.{kept_rule, origins_of}
use Rattle.graph_formulas.specs.Demands.{demand_rule}
use Rattle.graph_formulas.specs.Laws.{term_formula, has_name, virtuals_of, virtuals_on, may_use, variants_of}
use Rattle.literal_table.specs.Ranges.{IsTableBelow}
use Rattle.graph_encoding.specs.Formulas.{Formulas, PathFormulas, PathsBelow, AreRightFormulas}
use Rattle.graph_encoding.specs.Encodings.{told_in}
use Rattle.valid_models.specs.Targets.{conditions_of, targets_of}

-- where a condition stands among those that are listed
abbrev pub Places : Type 0
Places = Text → Condition → Option ℕ

-- a place that is given is right
abbrev pub IsPlaced : List (Text × Condition) → Places → Type 0
IsPlaced listed place = (name : Text) (when : Condition) (k : ℕ) → place name when ≡ Some k → slice_get listed k ≡ Some (name, when)

-- the value of a condition where it has a place, and else its own formula
abbrev pub placed_or : (ℕ → Statement) → Statement → Option ℕ → Statement
placed_or met formula None = formula
placed_or met formula (Some k) = met k

module _ (problem : Problem) (t : Table) where
  abbrev pub condition_said : PathFormulas → Text → Condition → Statement
  condition_said path name when = rule_said path t (condition_rule (world_of problem) (names_for t) name when)

  abbrev pub condition_by : Places → PathFormulas → (ℕ → Statement) → Text → Condition → Statement
  condition_by place path met name when = placed_or met (condition_said path name when) (place name when)

  -- the rules that are always asked but for those of levels, each at all names
  abbrev pub rule_rows : List ((Text → Proposition Term) × List Text)
  rule_rows =
      ((λ name. where_built name (known_rule (buildable_rule problem name))), table_names t)
      ∷ ((λ name. where_built name (known_rule (version_rule problem name))), table_names t)
      ∷ ((λ name. where_built name (variants_rule problem (variants_of t name) name)), table_names t)
      ∷ ((λ name. where_built name (known_rule (compiler_rule problem name))), table_names t)
      ∷ ((λ name. where_built name (known_rule (machine_rule problem name))), table_names t)
      ∷ ((λ name. where_built name (extra_edges_rule problem (names_for t) (virtuals_on t name) (children_of t name) name)), table_names t)
      ∷ ((λ name. where_there name (known_rule (kept_rule problem (children_of t name) (origins_of t name) name))), table_names t)
      ∷ ((λ name. of_provider (names_for t) (λ p. known_rule (provider_rule problem p)) name), virtuals_of t)
      ∷ ((λ name. of_provider (names_for t) (used_rule (may_use t) (table_names t)) name), virtuals_of t)
      ∷ ((λ name. of_provider (names_for t) (together_rule problem (names_for t)) name), virtuals_of t)
      ∷ []

  abbrev pub row_said : PathFormulas → (Text → Condition → Statement) → ((Text → Proposition Term) × List Text) → Statement
  row_said path condition row = all_statements (map (λ name. term_formula path condition t (row.0 name)) row.1)

  -- ---- the formulas

  abbrev pub formulas_for : List Statement → List (Text × Condition) → Places → Formulas
  formulas_for structure listed place = record {
    structure = structure;
    conditions = λ path. map (λ c. condition_said path c.0 c.1) listed;
    rules = λ path met. all_statements (map (row_said path (condition_by place path met)) rule_rows);
    demand = λ path met d. term_formula path (condition_by place path met) t (demand_rule problem (names_for t) (has_name t) d);
  }

-- what the condition at a place tests
abbrev pub condition_holds : Problem → Option (Text × Condition) → Content → Bool
condition_holds problem None g = false
condition_holds problem (Some c) g = all_hold (world_of problem) c.1 g c.0

abbrev pub holds_at : Problem → List (Text × Condition) → ℕ → Content → Bool
holds_at problem listed k g = condition_holds problem (slice_get listed k) g

-- the table has each variant that a recipe defines, where it offers to build the name
abbrev pub HasBuiltVariants : Problem → Table → Type 0
HasBuiltVariants problem t = (name : Text) (b : Block) → block_of t name ≡ Some b → list_any builds (choice_values b.origins) ≡ true
    → list_all (is_one_text (variants_of t name)) (map (λ row. row.name) (variants_at problem name)) ≡ true

-- the formula of each word is over the variables of the table and of paths
abbrev pub WordsBelow : ℕ → Table → Type 0
WordsBelow n t = (m : ℕ) (path : PathFormulas) → n ≤ m → PathsBelow m path → (w : GraphWord) → SaidBelow m (word_said path t w)

-- the formulas of a problem are right, where paths are told to the targets
abbrev pub RulesAreRight : Type 0
RulesAreRight = (problem : Problem) (t : Table) (n : ℕ) (structure : List Statement) (place : Places) → IsTable t → IsTableBelow n t
    → HasBuiltVariants problem t → IsPlaced (conditions_of problem t) place
    → AreRightFormulas problem t n (formulas_for problem t structure (conditions_of problem t) place) (told_in t (targets_of problem t))
    (holds_at problem (conditions_of problem t))
