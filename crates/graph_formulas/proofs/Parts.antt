-- What the formulas of parts, specs and conditions say of the graph that literals spell.
use Rattle.std.proofs.Common.{◌≡◌, refl, ◌∙◌, Bool, true, false, ◌||◌, ℕ, List, [], ◌∷◌, Option, Some, inl, inr}
use Rattle.std.specs.Str.{bytes_eq}
use Rattle.std.specs.Cmp.Lexicographic.{bytes_decides}
use Rattle.std.proofs.lemmas.Bool.{cases_Bool, or_right}
use Rattle.version_order.specs.declared.item.Item.{Item}
use Rattle.spec_grammar.specs.declared.part.Part.{Part}
use Rattle.spec_grammar.specs.declared.part.Spec.{Spec}
use Rattle.clause_store.specs.Lits.{lit_true}
use Rattle.clause_formulas.specs.Statements.{Statement}
use Rattle.clause_formulas.specs.Rules.{Proposition, keeps_rule}
use Rattle.clause_formulas.proofs.RuleLaws.{rule-said}
use Rattle.graph_core.specs.Graphs.{Text, Content, node_of, provider_of}
use Rattle.condition_rules.specs.Words.{is_one_text, is_some_and}
use Rattle.condition_rules.specs.Worlds.{World}
use Rattle.condition_rules.specs.Meets.{meets, provides}
use Rattle.condition_rules.specs.Holds.{holds, all_hold}
use Rattle.recipe_data.specs.OfSpecGrammar.Condition.{Condition}
use Rattle.literal_table.specs.Choices.{Choices, chosen, choice_values}
use Rattle.literal_table.specs.Tables.{Table, packages_of}
use Rattle.literal_table.specs.Spells.{Spells}
use Rattle.graph_formulas.specs.Facts.{GraphWord, word_said, is_in}
use Rattle.graph_formulas.specs.Parts.{meets_rule, provides_rule, holds_rule, condition_rule}
use Rattle.graph_formulas.specs.Words.{SpellsPaths, names_for, says}
use Rattle.graph_formulas.proofs.WordsSaid.{word-said}
use Rattle.graph_formulas.proofs.Kept.{meets-kept, provides-kept, holds-kept, condition-kept}

-- what is chosen is one of the choices
chosen-among : (v : ℕ → Bool) (choices : Choices Text) (x : Text) → is_one_text (chosen v choices) x ≡ true
    → is_one_text (choice_values choices) x ≡ true
chosen-among v [] x h = h
chosen-among v (c ∷ cs) x h = elim (cases_Bool (lit_true v c.1)) [
  | inl t ↦ chosen-among-cases (bytes_eq x c.0) (is_one_text (chosen v cs) x) (is_one_text (choice_values cs) x)
      (chosen-among v cs x) (rw t at h)
  | inr f ↦ or_right (bytes_eq x c.0) (is_one_text (choice_values cs) x) (chosen-among v cs x (rw f at h))
]
  where
    chosen-among-cases : (a b c : Bool) → (b ≡ true → c ≡ true) → (a || b) ≡ true → (a || c) ≡ true
    chosen-among-cases true b c f h = refl
    chosen-among-cases false b c f h = f h

-- a provider is among the packages of its virtual
pub provider-listed : (v : ℕ → Bool) (table : Table) (graph : Content) → Spells v table graph → (virtual p : Text)
    → provider_of graph virtual ≡ Some p → is_one_text (names_for table virtual) p ≡ true
provider-listed v table graph s virtual p is =
    chosen-among v (packages_of table virtual) p (rw (s.providers virtual, is, (bytes_decides p p).1 refl) refl)

module _ (world : World) (v : ℕ → Bool) (path : Text → Text → Statement) (table : Table) (graph : Content)
    (s : SpellsPaths v path table graph) where
  abbrev kept : Proposition GraphWord → Bool
  kept rule = keeps_rule (is_in graph) rule

  said : (rule : Proposition GraphWord) → says v path table rule ≡ kept rule
  said rule = rule-said v (word_said path table) (is_in graph) (word-said v path table graph s) rule

  -- the formula of a part
  pub meets-said : (name : Text) (part : Part)
      → says v path table (meets_rule world name part) ≡ is_some_and (node_of graph name) (meets world part)
  meets-said name part = said (meets_rule world name part) ∙ meets-kept world graph name part

  -- of a provider
  pub provides-said : (name virtual : Text) (wanted : Option (List Item))
      → says v path table (provides_rule world name virtual wanted) ≡ is_some_and (node_of graph name)
      (λ node. provides world node virtual wanted)
  provides-said name virtual wanted = said (provides_rule world name virtual wanted) ∙ provides-kept world graph name virtual wanted

  -- of a spec
  pub holds-said : (name : Text) (spec : Spec)
      → says v path table (holds_rule world (names_for table) name spec) ≡ holds world spec graph name
  holds-said name spec = said (holds_rule world (names_for table) name spec)
      ∙ holds-kept world graph (names_for table) (provider-listed v table graph s.facts) name spec

  -- of a condition
  pub condition-said : (name : Text) (condition : Condition)
      → says v path table (condition_rule world (names_for table) name condition) ≡ all_hold world condition graph name
  condition-said name condition =
      said (condition_rule world (names_for table) name condition)
      ∙ condition-kept world graph (names_for table) (provider-listed v table graph s.facts) name condition
