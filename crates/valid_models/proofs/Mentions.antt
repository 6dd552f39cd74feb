-- The words of parts, specs and conditions: paths lead to the names that are asked for alone.
use Rattle.std.proofs.Common.{◌≡◌, refl, ◌∙◌, sym, Bool, true, false, ℕ, List, [], ◌∷◌, Option, Some, None}
use Rattle.std.specs.Prelude.{◌&&◌, flat_map, if◌then◌else◌}
use Rattle.std.specs.List.{list_all, list_any}
use Rattle.std.specs.Str.{bytes_eq}
use Rattle.std.proofs.lemmas.List.Folds.{list_all-append}
use Rattle.std.proofs.lemmas.Bool.{and_parts}
use Rattle.version_order.specs.declared.item.Item.{Item}
use Rattle.version_order.specs.Sets.{set_contains}
use Rattle.spec_grammar.specs.declared.part.Part.{Part}
use Rattle.spec_grammar.specs.declared.part.Spec.{Spec}
use Rattle.clause_formulas.specs.Statements.{eval}
use Rattle.clause_formulas.specs.Rules.{Proposition, fact, nowhere}
use Rattle.graph_core.specs.Graphs.{Text}
use Rattle.virtuals.specs.Virtuals.{is_virtual}
use Rattle.condition_rules.specs.Words.{if_written, is_some_and}
use Rattle.condition_rules.specs.Worlds.{World}
use Rattle.condition_rules.specs.Meets.{meets_platform, lists_overlap, is_compiler, is_target}
use Rattle.recipe_data.specs.OfSpecGrammar.Condition.{Condition}
use Rattle.recipe_data.specs.declared.recipe.ProvideRow.{ProvideRow}
use Rattle.literal_table.specs.Tables.{Table}
use Rattle.graph_formulas.specs.Facts.{GraphWord, word_said, node_has, has_version, has_variant, has_value, has_compiler, has_os, has_target, has_path, provides_as}
use Rattle.graph_formulas.specs.Lists.{◌and◌, one_keeps, some}
use Rattle.problem.specs.Closure.{is_filled}
use Rattle.graph_formulas.specs.Parts.{there_rule, values_rule, asks_fact, rest_rule, meets_rule, tops_rule, row_rule, rows_naming, provides_rule, asked_rule, suits_rule, below_rule, holds_rule, condition_rule}
use Rattle.graph_encoding.specs.Formulas.{PathFormulas}
use Rattle.valid_models.specs.Targets.{asked_names, spec_names, condition_names}
use Rattle.valid_models.proofs.Words.{AllWords, given-all, unless-all, written-all, each-all, some-all, each-if, some-if}

-- a test of all that lists bring
pub all-flat : {X Y : Type 0} (p : Y → Bool) (f : X → List Y) (xs : List X)
    → list_all p (flat_map f xs) ≡ list_all (λ x. list_all p (f x)) xs
all-flat p f [] = refl
all-flat p f (x ∷ xs) = list_all-append p (f x) (flat_map f xs) ∙ rw (all-flat p f xs) refl

module _ (v : ℕ → Bool) (t : Table) (path other : PathFormulas) (told : Text → Bool)
    (same : (from to : Text) → told to ≡ true → eval v (path from to) ≡ eval v (other from to)) where
  -- the word says the same under both formulas of paths
  abbrev pub Alike : GraphWord → Type 0
  Alike w = eval v (word_said path t w) ≡ eval v (word_said other t w)

  module _ (world : World) where
    -- the words of a part
    pub rest-alike : (name : Text) (part : Part) → AllWords Alike (rest_rule world name part)
    unfolding rest_rule
    rest-alike name part = (
      (
        (
          (
            each-all Alike (values_rule name) (λ wanted. (
              unless-all Alike (is_filled wanted.1) (fact (node_has name (has_variant wanted.0))) refl,
              each-all Alike
                  (λ value. fact (node_has name (has_value wanted.0 (bytes_eq value)))) (λ value. refl) wanted.1,
            )) part.variants,
            written-all Alike (λ wanted. fact (node_has name (has_compiler (λ c. is_some_and c (is_compiler wanted))))) (λ wanted. refl)
                part.compiler,
          ),
          given-all Alike (meets_platform world part),
        ),
        written-all Alike (λ os. fact (node_has name (has_os (λ o. bytes_eq o os)))) (λ os. refl) part.os,
      ),
      written-all Alike (λ items. fact (node_has name (has_target (λ target. list_any (is_target world target) items))))
          (λ items. refl) part.targets,
    )

    -- of what a node meets
    pub meets-alike : (name : Text) (part : Part) → AllWords Alike (meets_rule world name part)
    unfolding meets_rule
    meets-alike name part = (
      (
        (unless-all Alike (asks_fact part) (there_rule name) refl, given-all Alike (if_written part.name (bytes_eq name))),
        written-all Alike (λ set. fact (node_has name (has_version (set_contains set)))) (λ set. refl) part.versions,
      ),
      rest-alike name part,
    )

    -- of a row of `provides`
    pub row-alike : (name virtual : Text) (wanted : Option (List Item)) (row : ProvideRow)
        → AllWords Alike (row_rule world name virtual wanted row)
    row-alike name virtual wanted row = row-alike-cases (bytes_eq row.name virtual && lists_overlap row.versions wanted)
      where
        row-alike-cases : (b : Bool) → AllWords Alike (if b then tops_rule world name row.when.specs else nowhere)
        row-alike-cases true = (
          unless-all Alike (is_filled row.when.specs) (there_rule name) refl,
          each-all Alike (λ (spec : Spec). meets_rule world name spec.top) (λ spec. meets-alike name spec.top) row.when.specs,
        )
        row-alike-cases false = tt

    -- of a provider
    pub provides-alike : (name virtual : Text) (wanted : Option (List Item)) → AllWords Alike (provides_rule world name virtual wanted)
    unfolding provides_rule
    provides-alike name virtual wanted =
        some-all Alike (row_rule world name virtual wanted) (row-alike name virtual wanted)
        (rows_naming world name virtual)

    module _ (packages : Text → List Text) where
      -- of the node that a name asks for
      pub asked-alike : (asked : Text) (rule : Text → Proposition GraphWord) → ((name : Text) → AllWords Alike (rule name))
          → AllWords Alike (asked_rule world packages asked rule)
      asked-alike asked rule h = asked-alike-cases (is_virtual world.recipes asked)
        where
          asked-alike-cases : (b : Bool) → AllWords Alike
              (if b then some (λ name. fact (provides_as asked name) and rule name) (packages asked) else rule asked)
          asked-alike-cases true = some-all Alike (λ name. fact (provides_as asked name) and rule name) (λ name. (refl, h name))
              (packages asked)
          asked-alike-cases false = h asked

      -- of a node that a part names
      pub suits-alike : (part : Part) (asked name : Text) → AllWords Alike (suits_rule world part asked name)
      suits-alike part asked name = suits-alike-cases (is_virtual world.recipes asked)
        where
          suits-alike-cases : (b : Bool) → AllWords Alike
              (if b then provides_rule world name asked part.versions and rest_rule world name part else meets_rule world name part)
          suits-alike-cases true = (provides-alike name asked part.versions, rest-alike name part)
          suits-alike-cases false = meets-alike name part

      -- paths to what is asked for
      below-rule : (from : Text) (part : Part) (asked : Text) (b : Bool)
          → list_all told (if b then packages asked else asked ∷ []) ≡ true
          → AllWords Alike
          (if b then some (λ name. fact (provides_as asked name) and (suits_rule world part asked name and fact (has_path from name)))
          (packages asked)
          else (suits_rule world part asked asked and fact (has_path from asked)))
      below-rule from part asked true e =
          some-if Alike (λ name. fact (provides_as asked name) and (suits_rule world part asked name and fact (has_path from name))) told
          (λ name is. (refl, (suits-alike part asked name, same from name is))) (packages asked) e
      below-rule from part asked false e = (suits-alike part asked asked, same from asked (and_parts (told asked) true e).0)

      below-alike : (from : Text) (part : Part) → list_all told (asked_names world packages part.name) ≡ true
          → AllWords Alike (below_rule world packages from part)
      below-alike from part e = below-alike-cases part.name e
        where
          below-alike-cases : (o : Option Text) → list_all told (asked_names world packages o) ≡ true
              → AllWords Alike
              (one_keeps o (λ asked. asked_rule world packages asked
              (λ name. suits_rule world part asked name and fact (has_path from name))))
          below-alike-cases None h = tt
          below-alike-cases (Some asked) h = below-rule from part asked (is_virtual world.recipes asked) h

      -- of a spec whose targets are told
      pub holds-alike : (name : Text) (spec : Spec) → list_all told (spec_names world packages spec) ≡ true
          → AllWords Alike (holds_rule world packages name spec)
      unfolding holds_rule
      holds-alike name spec e = (
        meets-alike name spec.top,
        each-if Alike (below_rule world packages name) (λ (part : Part). list_all told (asked_names world packages part.name))
            (below-alike name) spec.below
            (sym (all-flat told (λ (part : Part). asked_names world packages part.name) spec.below) ∙ e),
      )

      -- of a condition whose targets are
      pub condition-alike : (name : Text) (when : Condition) → list_all told (condition_names world packages when) ≡ true
          → AllWords Alike (condition_rule world packages name when)
      unfolding condition_rule
      condition-alike name when e =
          each-if Alike (holds_rule world packages name) (λ spec. list_all told (spec_names world packages spec))
          (holds-alike name) when.specs
          (sym (all-flat told (spec_names world packages) when.specs) ∙ e)
