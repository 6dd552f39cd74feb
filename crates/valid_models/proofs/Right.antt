-- The formulas of a problem are right, where paths are told to its targets.
use Rattle.std.proofs.Common.{◌≡◌, refl, sym, ap, subst, ◌∙◌, Bool, true, false, ℕ, zero, suc, List, [], ◌∷◌, map, Option, Some, None}
use Rattle.std.specs.Prelude.{if◌then◌else◌, slice_get}
use Rattle.std.specs.List.{list_all}
use Rattle.std.proofs.lemmas.Bool.{and_parts}
use Rattle.spec_grammar.specs.declared.part.Spec.{Spec}
use Rattle.clause_formulas.specs.Statements.{Statement, never, no, eval, all_statements, implication_of}
use Rattle.clause_formulas.specs.Drafts.{part_at}
use Rattle.clause_formulas.specs.Rules.{Proposition}
use Rattle.clause_formulas.proofs.Words.{all_of-below}
use Rattle.graph_core.specs.Graphs.{Text, Content}
use Rattle.graph_core.specs.Paths.{reaches_in}
use Rattle.condition_rules.specs.Holds.{all_hold}
use Rattle.recipe_data.specs.OfSpecGrammar.Condition.{Condition}
use Rattle.problem.specs.Nodes.{IsWellFormed, builds}
use Rattle.problem.specs.Problems.{Problem, world_of}
use Rattle.problem.specs.declared.demand.Demand.{Demand}
use Rattle.problem.specs.declared.demand.Demand.TheVariants as demand
use Rattle.graph_rules.specs.Valid.{keeps_all, keeps_demand}
use Rattle.graph_rules.specs.declared.rule.Rule.TheVariants as rules
use Rattle.literal_table.specs.Tables.{Table, IsTable, block_of, table_names, children_of}
use Rattle.literal_table.specs.Spells.{Spells}
use Rattle.literal_table.specs.declared.block.Block.{Block}
use Rattle.graph_formulas.specs.Facts.{GraphWord, word_said, fact_said, said_in, has_origin, is_there}
use Rattle.graph_formulas.specs.Lists.{settled_test, where_written}
use Rattle.graph_formulas.specs.Words.{SpellsPaths, names_for}
use Rattle.graph_formulas.specs.Parts.{condition_rule, holds_rule}
use Rattle.graph_formulas.proofs.Parts.{condition-said}
use Rattle.graph_formulas.specs.Terms.{Term, known, met, term_said, known_rule, where_built, where_there}
use Rattle.graph_formulas.specs.Directives.{root_rule}
use Rattle.graph_formulas.specs.Built.{buildable_rule, version_rule, compiler_rule, machine_rule, provider_rule}
use Rattle.graph_formulas.specs.Edges.{extra_edges_rule, used_rule, of_provider}
use Rattle.graph_formulas.specs.Together.{together_rule}
use Rattle.graph_formulas.specs.Variants.{variants_rule}
use Rattle.graph_formulas.specs.Kept.{kept_rule, origins_of}
use Rattle.graph_formulas.specs.Demands.{demand_rule, directive_rule, required_rule}
use Rattle.graph_formulas.specs.Laws.{SpellsProblem, term_formula, rule_says, has_name, virtuals_of, virtuals_on, may_use, variants_of}
use Rattle.graph_formulas.proofs.DemandsSaid.{demand-said}
use Rattle.graph_formulas.proofs.RulesSaid.{all-buildable, all-version, all-compiler, all-machine, all-extra_edge, all-kept, all-provider, all-used, all-together}
use Rattle.graph_formulas.proofs.ListTests.{all-true}
use Rattle.literal_table.specs.Ranges.{IsTableBelow}
use Rattle.graph_encoding.specs.Formulas.{PathFormulas, PathsTold, ConditionsTold, AreRightFormulas, other_rules}
use Rattle.graph_encoding.specs.Encodings.{told_in}
use Rattle.valid_models.specs.Targets.{conditions_of, asked_targets, targets_of, spec_names}
use Rattle.valid_models.specs.Joined.{Places, IsPlaced, placed_or, condition_said, condition_by, rule_rows, row_said, formulas_for, condition_holds, holds_at, HasBuiltVariants, WordsBelow}
use Rattle.valid_models.proofs.Words.{AllWords, said-alike, named-all}
use Rattle.valid_models.proofs.Mentions.{Alike, condition-alike, holds-alike}
use Rattle.valid_models.proofs.Terms as terms
use Rattle.valid_models.proofs.Plain as plain
use Rattle.valid_models.proofs.TargetLaws.{all-told, all-asked}
use Rattle.valid_models.proofs.BuiltVariants.{all-built-variant}
use Rattle.valid_models.proofs.Ranges.{words-below}
use Rattle.valid_models.proofs.Found.{found-passes}
use Rattle.valid_models.proofs.Lists.{all-said, all-alike, listed-below}
use Rattle.valid_models.proofs.Told.{is_told_name, is_told_when, is_told_pair, told-names, told-roots, told-conditions}
use Rattle.valid_models.proofs.FormulaRanges.{when-below, formula-below, row-below}

abbrev constant : Bool → Statement
constant b = if b then no never else never

constant-is : (v : ℕ → Bool) (b : Bool) → eval v (constant b) ≡ b
constant-is v true = refl
constant-is v false = refl

module _ (problem : Problem) (t : Table) (told : Text → Bool) (all : list_all told (asked_targets problem t) ≡ true) where
  -- ---- one graph

  module _ (table : IsTable t) (v : ℕ → Bool) (g : Content) (path : PathFormulas) (spells : Spells v t g) (formed : IsWellFormed g) (paths : PathsTold told path v g) where
    -- as the formulas of paths, and constants where they tell nothing
    abbrev exact : PathFormulas
    exact from to = if told to then path from to else constant (reaches_in g from to)

    same : (from to : Text) → told to ≡ true → eval v (path from to) ≡ eval v (exact from to)
    same from to is = rw is refl

    exact-says : (from to : Text) → eval v (exact from to) ≡ reaches_in g from to
    exact-says from to = exact-says-cases (told to) refl
      where
        exact-says-cases : (b : Bool) → told to ≡ b → eval v (if b then path from to else constant (reaches_in g from to)) ≡ reaches_in g from to
        exact-says-cases true is = paths from to is
        exact-says-cases false is = constant-is v (reaches_in g from to)

    whole : SpellsPaths v exact t g
    whole = record { facts = spells; paths = exact-says }

    when-alike : (name : Text) (when : Condition) → is_told_when problem t told when ≡ true → eval v (condition_said problem t path name when) ≡ eval v (condition_said problem t exact name when)
    when-alike name when e = said-alike v (word_said path t) (word_said exact t) (condition_rule (world_of problem) (names_for t) name when)
        (condition-alike v t path exact told same (world_of problem) (names_for t) name when e)

    when-says : (name : Text) (when : Condition) → eval v (condition_said problem t exact name when) ≡ all_hold (world_of problem) when g name
    when-says name when = condition-said (world_of problem) v exact t g whole name when

    conditions-say : (cs : List (Text × Condition)) → list_all (is_told_pair problem t told) cs ≡ true → (k : ℕ)
        → eval v (part_at (map (λ c. condition_said problem t path c.0 c.1) cs) k) ≡ condition_holds problem (slice_get cs k) g
    conditions-say [] e k = refl
    conditions-say (c ∷ cs) e zero = when-alike c.0 c.1 (and_parts (is_told_when problem t told c.1) _ e).0 ∙ when-says c.0 c.1
    conditions-say (c ∷ cs) e (suc k) = conditions-say cs (and_parts (is_told_when problem t told c.1) _ e).1 k

    -- ---- over values of conditions
    module _ (place : Places) (placed : IsPlaced (conditions_of problem t) place) (met_by : ℕ → Statement) (conds : ConditionsTold (holds_at problem (conditions_of problem t)) met_by v g) where
      abbrev cond_path : Text → Condition → Statement
      cond_path = condition_by problem t place path met_by

      abbrev cond_exact : Text → Condition → Statement
      cond_exact = condition_by problem t place exact met_by

      same-met : (name : Text) (when : Condition) → is_told_when problem t told when ≡ true → eval v (cond_path name when) ≡ eval v (cond_exact name when)
      same-met name when e = same-met-cases (place name when)
        where
          same-met-cases : (o : Option ℕ) → eval v (placed_or met_by (condition_said problem t path name when) o) ≡ eval v (placed_or met_by (condition_said problem t exact name when) o)
          same-met-cases None = when-alike name when e
          same-met-cases (Some k) = refl

      met-says : (name : Text) (when : Condition) → eval v (cond_exact name when) ≡ all_hold (world_of problem) when g name
      met-says name when = met-says-cases (place name when) refl
        where
          met-says-cases : (o : Option ℕ) → place name when ≡ o → eval v (placed_or met_by (condition_said problem t exact name when) o) ≡ all_hold (world_of problem) when g name
          met-says-cases None at = when-says name when
          met-says-cases (Some k) at = conds k ∙ ap (λ c. condition_holds problem c g) (placed name when k at)

      spelled : SpellsProblem problem v exact cond_exact t g
      spelled = record { whole = whole; conditions = met-says; is_table = table; is_graph = formed.is_graph }

      abbrev T : Term → Type 0
      T = terms.TermAlike problem v t path exact told same cond_path cond_exact same-met

      abbrev says_path : Proposition Term → Bool
      says_path rule = rule_says v path cond_path t rule

      abbrev says_exact : Proposition Term → Bool
      says_exact rule = rule_says v exact cond_exact t rule

      alike : (rule : Proposition Term) → AllWords T rule → says_path rule ≡ says_exact rule
      alike rule h = said-alike v (term_said path cond_path t) (term_said exact cond_exact t) rule h

      plainly : (rule : Proposition GraphWord) → AllWords (Alike v t path exact told same) rule → T (known rule)
      plainly rule h = terms.known-alike problem v t path exact told same cond_path cond_exact same-met rule h

      -- one rule at all names that pass a test
      row-says : (rule : Text → Proposition Term) (test : Text → Bool) → ((name : Text) → test name ≡ true → AllWords T (rule name))
          → (names : List Text)
          → list_all test names ≡ true → eval v (row_said problem t path cond_path (rule, names)) ≡ list_all (λ name. says_exact (rule name)) names
      row-says rule test h names e =
          all-said v (λ name. term_formula path cond_path t (rule name)) names
          ∙ all-alike (λ name. says_path (rule name)) (λ name. says_exact (rule name)) test (λ name is. alike (rule name) (h name is)) names e

      -- at all names
      row-free : (rule : Text → Proposition Term) → ((name : Text) → AllWords T (rule name)) → (names : List Text)
          → eval v (row_said problem t path cond_path (rule, names)) ≡ list_all (λ name. says_exact (rule name)) names
      row-free rule h names = row-says rule (λ name. true) (λ name is. h name) names (all-true names)

      rules-say : HasBuiltVariants problem t → eval v (all_statements (map (row_said problem t path cond_path) (rule_rows problem t)))
          ≡ keeps_all other_rules problem g
      rules-say has =
          all-said v (row_said problem t path cond_path) (rule_rows problem t)
          ∙ rw (
            row-free (λ name. where_built name (known_rule (buildable_rule problem name)))
                (λ name. (refl, plainly (buildable_rule problem name) (plain.buildable-alike v t path exact told same problem name)))
                (table_names t)
                ∙ all-buildable problem v exact cond_exact t g spelled,
            row-free (λ name. where_built name (known_rule (version_rule problem name)))
                (λ name. (refl, plainly (version_rule problem name) (plain.version-alike v t path exact told same problem name)))
                (table_names t)
                ∙ all-version problem v exact cond_exact t g spelled,
            row-says (λ name. where_built name (variants_rule problem (variants_of t name) name)) (is_told_name problem t told)
                (λ name e. (
                  refl,
                  terms.variants-alike problem v t path exact told same cond_path cond_exact same-met name e
                      (variants_of t name),
                )) (table_names t) (told-names problem t told all)
                ∙ all-built-variant problem v exact cond_exact t g spelled has,
            row-free (λ name. where_built name (known_rule (compiler_rule problem name)))
                (λ name. (refl, plainly (compiler_rule problem name) (plain.compiler-alike v t path exact told same problem name)))
                (table_names t)
                ∙ all-compiler problem v exact cond_exact t g spelled,
            row-free (λ name. where_built name (known_rule (machine_rule problem name)))
                (λ name. (refl, plainly (machine_rule problem name) (plain.machine-alike v t path exact told same problem name)))
                (table_names t)
                ∙ all-machine problem v exact cond_exact t g spelled,
            row-says (λ name. where_built name (extra_edges_rule problem (names_for t) (virtuals_on t name) (children_of t name) name)) (is_told_name problem t told)
                (λ name e. (
                  refl,
                  terms.extra-edges-alike problem v t path exact told same cond_path cond_exact same-met name e
                      (virtuals_on t name) (children_of t name),
                )) (table_names t) (told-names problem t told all)
                ∙ all-extra_edge problem v exact cond_exact t g spelled,
            row-free (λ name. where_there name (known_rule (kept_rule problem (children_of t name) (origins_of t name) name)))
                (λ name. (
                  refl,
                  plainly (kept_rule problem (children_of t name) (origins_of t name) name)
                      (plain.kept-alike v t path exact told same problem (children_of t name) (origins_of t name) name),
                )) (table_names t)
                ∙ all-kept problem v exact cond_exact t g spelled,
            row-free (λ name. of_provider (names_for t) (λ p. known_rule (provider_rule problem p)) name)
                (terms.of-provider-alike problem v t path exact told same cond_path cond_exact same-met (λ p. known_rule (provider_rule problem p))
                (λ p. plainly (provider_rule problem p) (plain.provider-alike v t path exact told same problem p))) (virtuals_of t)
                ∙ all-provider problem v exact cond_exact t g spelled,
            row-free (λ name. of_provider (names_for t) (used_rule (may_use t) (table_names t)) name)
                (terms.of-provider-alike problem v t path exact told same cond_path cond_exact same-met (used_rule (may_use t) (table_names t))
                (λ p. terms.used-alike problem v t path exact told same cond_path cond_exact same-met (may_use t) (table_names t) p))
                (virtuals_of t)
                ∙ all-used problem v exact cond_exact t g spelled,
            row-free (λ name. of_provider (names_for t) (together_rule problem (names_for t)) name)
                (terms.of-provider-alike problem v t path exact told same cond_path cond_exact same-met (together_rule problem (names_for t))
                (λ p. terms.together-alike problem v t path exact told same cond_path cond_exact same-met p))
                (virtuals_of t)
                ∙ all-together problem v exact cond_exact t g spelled,
          ) refl

      -- ---- demands
      root-alike : (spec : Spec) → list_all told (spec_names (world_of problem) (names_for t) spec) ≡ true → T (known (root_rule problem (names_for t) spec))
      root-alike spec e = plainly (root_rule problem (names_for t) spec)
          (named-all (Alike v t path exact told same) (λ name. holds_rule (world_of problem) (names_for t) name spec)
          (λ name. holds-alike v t path exact told same (world_of problem) (names_for t) name spec e) spec.top.name)

      roots-alike : (specs : List Spec) → list_all (λ spec. list_all told (spec_names (world_of problem) (names_for t) spec)) specs ≡ true → (k : ℕ)
          → AllWords T (where_written (slice_get specs k) (λ spec. known_rule (root_rule problem (names_for t) spec)))
      roots-alike [] e k = tt
      roots-alike (spec ∷ specs) e zero = root-alike spec (and_parts _ _ e).0
      roots-alike (spec ∷ specs) e (suc k) = roots-alike specs (and_parts _ _ e).1 k

      directive-alike : (name : Text) (rule : Proposition Term) → (is_told_name problem t told name ≡ true → AllWords T rule)
          → says_path (where_built name rule) ≡ says_exact (where_built name rule)
      directive-alike name rule h = directive-alike-cases (block_of t name) refl
        where
          directive-alike-cases : (o : Option Block) → block_of t name ≡ o → says_path (where_built name rule) ≡ says_exact (where_built name rule)
          directive-alike-cases None at =
              subst (λ o. eval v (implication_of (said_in (λ b. fact_said b (has_origin builds)) o)
              (term_formula path cond_path t rule))
              ≡ eval v (implication_of (said_in (λ b. fact_said b (has_origin builds)) o) (term_formula exact cond_exact t rule)))
              (sym at) refl
          directive-alike-cases (Some b) at = alike (where_built name rule) (refl, h (found-passes (is_told_name problem t told) t.blocks name b (told-names problem t told all) at))

      -- of a name that the table does not have both say nothing
      named-alike : (name : Text) (number : ℕ) (b : Bool)
          → says_path (if b then where_built name (directive_rule problem (names_for t) number name) else settled_test true)
          ≡ says_exact (if b then where_built name (directive_rule problem (names_for t) number name) else settled_test true)
      named-alike name number true = directive-alike name (directive_rule problem (names_for t) number name)
          (λ e. terms.directive-alike problem v t path exact told same cond_path cond_exact same-met name e number)
      named-alike name number false = refl

      there-alike : (name : Text) (rule : Proposition Term) → (is_told_name problem t told name ≡ true → AllWords T rule) → says_path (where_there name rule) ≡ says_exact (where_there name rule)
      there-alike name rule h = there-alike-cases (block_of t name) refl
        where
          there-alike-cases : (o : Option Block) → block_of t name ≡ o → says_path (where_there name rule) ≡ says_exact (where_there name rule)
          there-alike-cases None at =
              subst (λ o. eval v (implication_of (said_in (λ b. fact_said b is_there) o) (term_formula path cond_path t rule))
              ≡ eval v (implication_of (said_in (λ b. fact_said b is_there) o) (term_formula exact cond_exact t rule))) (sym at) refl
          there-alike-cases (Some b) at = alike (where_there name rule) (refl, h (found-passes (is_told_name problem t told) t.blocks name b (told-names problem t told all) at))

      asked-alike : (name : Text) (place : ℕ) (b : Bool) → says_path (if b then where_there name (required_rule problem (names_for t) place name) else settled_test true)
          ≡ says_exact (if b then where_there name (required_rule problem (names_for t) place name) else settled_test true)
      asked-alike name place true = there-alike name (required_rule problem (names_for t) place name)
          (λ e. terms.required-alike problem v t path exact told same cond_path cond_exact same-met name e place)
      asked-alike name place false = refl

      demand-says : (d : Demand) → says_path (demand_rule problem (names_for t) (has_name t) d) ≡ keeps_demand problem g d
      demand-says (demand.Root place) = alike (demand_rule problem (names_for t) (has_name t) (demand.Root place)) (roots-alike problem.roots (told-roots problem t told all) place)
          ∙ demand-said problem v exact cond_exact t g spelled (demand.Root place)
      demand-says (demand.Directive name number) = named-alike name number (has_name t name)
          ∙ demand-said problem v exact cond_exact t g spelled (demand.Directive name number)
      demand-says (demand.Setting name place) = asked-alike name place (has_name t name)
          ∙ demand-said problem v exact cond_exact t g spelled (demand.Setting name place)

-- the formulas of a problem are right
pub rules-right : (problem : Problem) (t : Table) (n : ℕ) (structure : List Statement) (place : Places) → IsTable t → IsTableBelow n t
    → HasBuiltVariants problem t → IsPlaced (conditions_of problem t) place
    → AreRightFormulas problem t n (formulas_for problem t structure (conditions_of problem t) place) (told_in t (targets_of problem t))
    (holds_at problem (conditions_of problem t))
rules-right problem t n structure place table below has placed = record {
  conditions_say = λ v g path spells formed paths k.
      conditions-say problem t told all table v g path spells formed paths (conditions_of problem t) (told-conditions problem t told all) k;
  rules_say = λ v g path met spells formed paths conds. rules-say problem t told all table v g path spells formed paths place placed met conds has;
  demand_says = λ v g path met d spells formed paths conds. demand-says problem t told all table v g path spells formed paths place placed met conds d;
  conditions_below = λ m path le paths.
      listed-below m (λ (c : Text × Condition). condition_said problem t path c.0 c.1) (λ c. when-below problem t n words m path le paths c.0 c.1) (conditions_of problem t);
  rules_below = λ m path met le paths mets.
      all_of-below m (map (row_said problem t path (condition_by problem t place path met)) (rule_rows problem t))
      (listed-below m (row_said problem t path (condition_by problem t place path met)) (row-below problem t n words m path le paths place met mets) (rule_rows problem t));
  demand_below = λ m path met d le paths mets. formula-below problem t n words m path le paths place met mets (demand_rule problem (names_for t) (has_name t) d);
}
  where
    words : WordsBelow n t
    words = words-below n t below

    told : Text → Bool
    told = told_in t (targets_of problem t)

    all : list_all told (asked_targets problem t) ≡ true
    all = all-asked told (asked_targets problem t) (all-told t (targets_of problem t))
