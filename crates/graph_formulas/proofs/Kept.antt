-- Rules of parts, specs and conditions hold where these do.
use Rattle.std.proofs.Common.{◌≡◌, refl, sym, ap, ◌∙◌, Bool, true, false, ◌||◌, ◌&&◌, List, [], ◌∷◌, Option, Some, None, find, inl, inr}
use Rattle.std.specs.Prelude.{if◌then◌else◌}
use Rattle.std.specs.List.{list_any, list_all}
use Rattle.std.specs.Option.{option_and_then, is_some}
use Rattle.std.specs.Str.{bytes_eq}
use Rattle.std.specs.Cmp.Lexicographic.{bytes_decides}
use Rattle.std.proofs.lemmas.Bool.{cases_Bool, and_parts}
use Rattle.version_order.specs.Sets.{set_contains}
use Rattle.version_order.specs.declared.item.Item.{Item}
use Rattle.spec_grammar.specs.declared.part.Part.{Part}
use Rattle.spec_grammar.specs.declared.part.Spec.{Spec}
use Rattle.spec_grammar.specs.declared.part.Spec.{Spec}
use Rattle.clause_formulas.specs.Rules.{Proposition, keeps_rule, fact, nowhere}
use Rattle.graph_core.specs.Graphs.{Text, Content, node_of, provider_of}
use Rattle.graph_core.specs.Paths.{reaches_in}
use Rattle.graph_core.specs.declared.node.Node.{Node}
use Rattle.virtuals.specs.Virtuals.{is_virtual}
use Rattle.condition_rules.specs.Words.{is_one_text, includes, if_written, is_some_and}
use Rattle.condition_rules.specs.Worlds.{World, recipe_of, rows}
use Rattle.condition_rules.specs.Meets.{meets, meets_rest, meets_platform, provides, row_provides, has_values, is_compiler, is_target, lists_overlap}
use Rattle.condition_rules.specs.Holds.{asked_node, suits, holds_below, holds, all_hold}
use Rattle.recipe_data.specs.OfSpecGrammar.Condition.{Condition}
use Rattle.recipe_data.specs.declared.recipe.ProvideRow.{ProvideRow}
use Rattle.literal_table.specs.Spells.{values_at, values_or_none}
use Rattle.literal_table.proofs.Spelling.{named-so}
use Rattle.graph_formulas.specs.Facts.{GraphWord, Fact, is_there, has_version, has_variant, has_value, has_compiler, has_os, has_target, node_has, provides_as, has_path, is_so, is_in}
use Rattle.graph_formulas.specs.Lists.{◌and◌, asked_unless, where_written, each_keeps, some}
use Rattle.problem.specs.Closure.{is_filled}
use Rattle.graph_formulas.specs.Parts.{there_rule, values_rule, asks_rest, asks_fact, rest_rule, meets_rule, tops_rule, row_rule, rows_naming, provides_rule, asked_rule, suits_rule, below_rule, holds_rule, condition_rule}
use Rattle.graph_formulas.proofs.ListTests.{any-narrowed}
use Rattle.graph_formulas.proofs.Rules.{given-kept, unless-so, unless-kept, written-kept, named-kept, each-kept, some-kept}

-- one of a list of names, which has it
picked : (f : Text → Bool) (p : Text) (names : List Text) → list_any (λ n. bytes_eq p n && f n) names ≡ (is_one_text names p && f p)
picked f p [] = refl
picked f p (n ∷ names) = elim (cases_Bool (bytes_eq p n)) [
  | inl same ↦ rw (same, picked f p names, ← (bytes_decides p n).0 same) (absorb (f p) (is_one_text names p))
  | inr other ↦ rw (other, picked f p names) refl
]
  where
    absorb : (a b : Bool) → (a || (b && a)) ≡ a
    absorb true b = refl
    absorb false true = refl
    absorb false false = refl

none-picked : {T : Type 0} (f : T → Bool) (xs : List T) → list_any (λ x. false && f x) xs ≡ false
none-picked f [] = refl
none-picked f (x ∷ xs) = none-picked f xs

and-true : (a : Bool) → (a && true) ≡ a
and-true true = refl
and-true false = refl

off-left : (a b : Bool) → a ≡ false → (a && b) ≡ false
off-left a b off = rw off refl

off-right : (a b : Bool) → b ≡ false → (a && b) ≡ false
off-right true b off = off
off-right false b off = refl

-- of five things that are asked one is off, where what asks for it is on
first-off : (v c o t A B P C D : Bool) → (((v || c) || o) || t) ≡ true → (v ≡ true → A ≡ false) → (c ≡ true → B ≡ false) → (o ≡ true → C ≡ false) → (t ≡ true → D ≡ false)
    → ((((A && B) && P) && C) && D) ≡ false
first-off v c o true A B P C D asks va co os ta = off-right (((A && B) && P) && C) D (ta refl)
first-off v c true false A B P C D asks va co os ta = off-left _ D (off-right ((A && B) && P) C (os refl))
first-off v true false false A B P C D asks va co os ta = off-left _ D (off-left _ C (off-left _ P (off-right A B (co refl))))
first-off true false false false A B P C D asks va co os ta = off-left _ D (off-left _ C (off-left _ P (off-left A B (va refl))))
first-off false false false false A B P C D asks va co os ta = cc

asked-off : (a r G V R : Bool) → (a || r) ≡ true → (a ≡ true → V ≡ false) → (r ≡ true → R ≡ false) → ((G && V) && R) ≡ false
asked-off true r G V R asks off rest = off-left _ R (off-right G V (off refl))
asked-off false r G V R asks off rest = off-right _ R (rest asks)

-- ---- a part at the node of a name

-- the name has a node, or none
pub by_node : (graph : Content) (name : Text) (P : Option Node → Type 0) → ((node : Node) → node_of graph name ≡ Some node → P (Some node)) → (node_of graph name ≡ None → P None) → P (node_of graph name)
by_node graph name P some none = by_node-cases (node_of graph name) refl
  where
    by_node-cases : (o : Option Node) → node_of graph name ≡ o → P o
    by_node-cases None e = none e
    by_node-cases (Some node) e = some node e

module _ (world : World) (graph : Content) where
  abbrev pub keeps : Proposition GraphWord → Bool
  keeps rule = keeps_rule (is_in graph) rule

  module _ (name : Text) where
    module _ (node : Node) (here : node_of graph name ≡ Some node) where
      -- a fact of a node that is there
      pub there : (f : Fact) → is_in graph (node_has name f) ≡ is_so node f
      there f = ap (λ o. is_some_and o (λ node. is_so node f)) here

      values-there : (wanted : Text × List Text) → keeps (values_rule name wanted) ≡ has_values node.variants wanted
      values-there wanted = rw (
        unless-kept (is_in graph) (is_filled wanted.1) (fact (node_has name (has_variant wanted.0))),
        there (has_variant wanted.0),
        each-kept (is_in graph) _ (is_one_text (values_at node.variants wanted.0)) (λ x. there (has_value wanted.0 (bytes_eq x))) wanted.1,
      ) (values-there-cases (find (λ w. bytes_eq w.0 wanted.0) node.variants) wanted.1)
        where
          values-there-cases : (o : Option (Text × List Text)) (xs : List Text) → ((is_filled xs || is_some o) && includes (values_or_none o) xs) ≡ is_some_and o (λ v. includes v.1 xs)
          values-there-cases None [] = refl
          values-there-cases None (x ∷ xs) = refl
          values-there-cases (Some v) [] = refl
          values-there-cases (Some v) (x ∷ xs) = refl

      rest-there : (part : Part) → keeps (rest_rule world name part) ≡ meets_rest world part node
      unfolding rest_rule meets_rest
      rest-there part = rw (
        each-kept (is_in graph) (values_rule name) (has_values node.variants) values-there part.variants,
        written-kept (is_in graph) _ (λ wanted. is_some_and node.compiler (is_compiler wanted)) (λ w. there (has_compiler (λ c. is_some_and c (is_compiler w)))) part.compiler,
        given-kept (is_in graph) (meets_platform world part),
        written-kept (is_in graph) _ (bytes_eq node.os) (λ w. there (has_os (λ o. bytes_eq o w))) part.os,
        written-kept (is_in graph) _ (list_any (is_target world node.target)) (λ w. there (has_target (λ target. list_any (is_target world target) w))) part.targets,
      ) refl

      meets-there : (part : Part) → keeps (meets_rule world name part) ≡ meets world part node
      unfolding meets_rule meets
      meets-there part = rw (
        unless-so (is_in graph) (asks_fact part) (there_rule name) (there is_there),
        given-kept (is_in graph) (if_written part.name (bytes_eq name)),
        written-kept (is_in graph) _ (λ set. set_contains set node.version) (λ set. there (has_version (set_contains set))) part.versions,
        rest-there part,
        named-so graph name node here,
      ) refl

      tops-there : (specs : List Spec) → keeps (tops_rule world name specs) ≡ list_all (λ spec. meets world spec.top node) specs
      tops-there specs = rw (
        unless-so (is_in graph) (is_filled specs) (there_rule name) (there is_there),
        each-kept (is_in graph) _ (λ spec. meets world spec.top node) (λ spec. meets-there spec.top) specs,
      ) refl

      row-there : (virtual : Text) (wanted : Option (List Item)) (row : ProvideRow)
          → keeps (row_rule world name virtual wanted row) ≡ row_provides world node virtual wanted row
      row-there virtual wanted row = row-there-cases (bytes_eq row.name virtual) (lists_overlap row.versions wanted) (tops_rule world name row.when.specs) _ (tops-there row.when.specs)
        where
          row-there-cases : (a c : Bool) (rule : Proposition GraphWord) (b : Bool) → keeps rule ≡ b
              → keeps (if a && c then rule else nowhere) ≡ (a && b && c)
          row-there-cases true true rule b same = same ∙ sym (and-true b)
          row-there-cases true false rule b same = sym (off-right b false refl)
          row-there-cases false c rule b same = refl

      provides-there : (virtual : Text) (wanted : Option (List Item)) → keeps (provides_rule world name virtual wanted) ≡ provides world node virtual wanted
      unfolding provides_rule provides
      provides-there virtual wanted =
          some-kept (is_in graph) (row_rule world name virtual wanted) (row_provides world node virtual wanted) (row-there virtual wanted) (rows_naming world name virtual)
          ∙ any-narrowed (row_provides world node virtual wanted) (λ row. bytes_eq row.name virtual)
          (λ row holds. (and_parts (bytes_eq row.name virtual) _ (and_parts _ (lists_overlap row.versions wanted) holds).0).0) (rows (λ recipe. recipe.provides) (recipe_of world name))
          ∙ ap (λ n. list_any (row_provides world node virtual wanted) (rows (λ recipe. recipe.provides) (recipe_of world n))) (sym (named-so graph name node here))

      suits-there : (part : Part) (asked : Text) → keeps (suits_rule world part asked name) ≡ suits world part asked node
      unfolding suits
      suits-there part asked = elim (cases_Bool (is_virtual world.recipes asked)) [
        | inl virtual ↦ rw (virtual, provides-there asked part.versions, rest-there part) refl
        | inr plain ↦ rw plain (meets-there part)
      ]

    module _ (absent : node_of graph name ≡ None) where
      none-there : (f : Fact) → is_in graph (node_has name f) ≡ false
      none-there f = ap (λ o. is_some_and o (λ node. is_so node f)) absent

      values-absent : (wanted : Text × List Text) → keeps (values_rule name wanted) ≡ false
      values-absent wanted = values-absent-cases wanted.1
        where
          values-absent-cases : (xs : List Text) → keeps
              (asked_unless (is_filled xs) (fact (node_has name (has_variant wanted.0))) and each_keeps
              (λ value. fact (node_has name (has_value wanted.0 (bytes_eq value)))) xs) ≡ false
          values-absent-cases [] = rw (none-there (has_variant wanted.0)) refl
          values-absent-cases (x ∷ xs) = rw (none-there (has_value wanted.0 (bytes_eq x))) refl

      each-absent : (xs : List (Text × List Text)) → is_filled xs ≡ true → keeps (each_keeps (values_rule name) xs) ≡ false
      each-absent [] asks = cc
      each-absent (x ∷ xs) asks = rw (values-absent x) refl

      written-absent : {T : Type 0} (f : T → Fact) (o : Option T) → is_some o ≡ true
          → keeps (where_written o (λ x. fact (node_has name (f x)))) ≡ false
      written-absent f None asks = cc
      written-absent f (Some x) asks = none-there (f x)

      rest-absent : (part : Part) → asks_rest part ≡ true → keeps (rest_rule world name part) ≡ false
      unfolding rest_rule
      rest-absent part asks =
          first-off (is_filled part.variants) (is_some part.compiler) (is_some part.os) (is_some part.targets) _ _ _ _ _ asks
          (each-absent part.variants)
          (written-absent (λ wanted. has_compiler (λ c. is_some_and c (is_compiler wanted))) part.compiler)
          (written-absent (λ os. has_os (λ o. bytes_eq o os)) part.os)
          (written-absent (λ items. has_target (λ target. list_any (is_target world target) items)) part.targets)

      meets-absent : (part : Part) → keeps (meets_rule world name part) ≡ false
      unfolding meets_rule
      meets-absent part = elim (cases_Bool (asks_fact part)) [
        | inl asks ↦ rw asks (asked-off (is_some part.versions) (asks_rest part) _ _ _ asks
            (written-absent (λ set. has_version (set_contains set)) part.versions) (rest-absent part))
        | inr bare ↦ rw (bare, none-there is_there) refl
      ]

      tops-absent : (specs : List Spec) → keeps (tops_rule world name specs) ≡ false
      tops-absent [] = rw (none-there is_there) refl
      tops-absent (spec ∷ specs) = rw (meets-absent spec.top) refl

      row-absent : (b : Bool) (specs : List Spec) → keeps (if b then tops_rule world name specs else nowhere) ≡ false
      row-absent true specs = tops-absent specs
      row-absent false specs = refl

      provides-absent : (virtual : Text) (wanted : Option (List Item)) → keeps (provides_rule world name virtual wanted) ≡ false
      unfolding provides_rule
      provides-absent virtual wanted = none-of (rows_naming world name virtual)
        where
          none-of : (xs : List ProvideRow) → keeps (some (row_rule world name virtual wanted) xs) ≡ false
          none-of [] = refl
          none-of (x ∷ xs) = rw (row-absent (bytes_eq x.name virtual && lists_overlap x.versions wanted) x.when.specs, none-of xs) refl

      suits-absent : (part : Part) (asked : Text) → keeps (suits_rule world part asked name) ≡ false
      suits-absent part asked = elim (cases_Bool (is_virtual world.recipes asked)) [
        | inl virtual ↦ rw (virtual, provides-absent asked part.versions) refl
        | inr plain ↦ rw plain (meets-absent part)
      ]

    -- what a part asks of a node
    pub meets-kept : (part : Part) → keeps (meets_rule world name part) ≡ is_some_and (node_of graph name) (meets world part)
    meets-kept part = by_node graph name (λ o. keeps (meets_rule world name part) ≡ is_some_and o (meets world part)) (λ node here. meets-there node here part) (λ absent. meets-absent absent part)

    -- what a virtual asks of its provider
    pub provides-kept : (virtual : Text) (wanted : Option (List Item)) → keeps (provides_rule world name virtual wanted) ≡ is_some_and (node_of graph name) (λ node. provides world node virtual wanted)
    provides-kept virtual wanted =
        by_node graph name (λ o. keeps (provides_rule world name virtual wanted) ≡ is_some_and o (λ node. provides world node virtual wanted)) (λ node here. provides-there node here virtual wanted) (λ absent. provides-absent absent virtual wanted)

    -- what a row of `provides` asks of its package
    pub row-kept : (virtual : Text) (wanted : Option (List Item)) (row : ProvideRow)
        → keeps (row_rule world name virtual wanted row) ≡ is_some_and (node_of graph name) (λ node. row_provides world node virtual wanted row)
    row-kept virtual wanted row =
        by_node graph name (λ o. keeps (row_rule world name virtual wanted row) ≡ is_some_and o (λ node. row_provides world node virtual wanted row)) (λ node here. row-there node here virtual wanted row)
        (λ absent. row-absent absent (bytes_eq row.name virtual && lists_overlap row.versions wanted) row.when.specs)

    -- what a part asks of the node that it names
    pub suits-kept : (part : Part) (asked : Text) → keeps (suits_rule world part asked name) ≡ is_some_and (node_of graph name) (suits world part asked)
    suits-kept part asked = by_node graph name (λ o. keeps (suits_rule world part asked name) ≡ is_some_and o (suits world part asked)) (λ node here. suits-there node here part asked) (λ absent. suits-absent absent part asked)

    -- at the end of a path
    below-kept : (from : Text) (part : Part) (asked : Text)
        → keeps (suits_rule world part asked name and fact (has_path from name)) ≡ is_some_and (node_of graph name) (λ node. suits world part asked node && reaches_in graph from node.name)
    below-kept from part asked =
        by_node graph name (λ o. keeps (suits_rule world part asked name and fact (has_path from name)) ≡ is_some_and o (λ node. suits world part asked node && reaches_in graph from node.name))
        (λ node here. ap (λ b. b && reaches_in graph from name) (suits-there node here part asked) ∙ ap (λ n. suits world part asked node && reaches_in graph from n) (sym (named-so graph name node here)))
        (λ absent. ap (λ b. b && reaches_in graph from name) (suits-absent absent part asked))

  -- ---- specs and conditions, where the lists have each provider

  module _ (packages : Text → List Text) (listed : (virtual p : Text) → provider_of graph virtual ≡ Some p
      → is_one_text (packages virtual) p ≡ true) where
    -- a rule at the node that a name asks for
    pub asked-kept : (asked : Text) (rule : Text → Proposition GraphWord) (test : Node → Bool)
        → ((name : Text) → keeps (rule name) ≡ is_some_and (node_of graph name) test)
        → keeps (asked_rule world packages asked rule) ≡ is_some_and (asked_node world graph asked) test
    unfolding asked_node
    asked-kept asked rule test same = elim (cases_Bool (is_virtual world.recipes asked)) [
      | inl virtual ↦ rw virtual (
          some-kept (is_in graph) _ (λ name. is_some_and (provider_of graph asked) (λ p. bytes_eq p name) && is_some_and (node_of graph name) test) (λ name. ap (λ b. is_in graph (provides_as asked name) && b) (same name)) (packages asked)
          ∙ asked-kept-cases (provider_of graph asked) (listed asked))
      | inr plain ↦ rw plain (same asked)
    ]
      where
        asked-kept-cases : (o : Option Text) → ((p : Text) → o ≡ Some p → is_one_text (packages asked) p ≡ true)
            → list_any (λ name. is_some_and o (λ p. bytes_eq p name) && is_some_and (node_of graph name) test) (packages asked) ≡ is_some_and (option_and_then (node_of graph) o) test
        asked-kept-cases None has = none-picked (λ name. is_some_and (node_of graph name) test) (packages asked)
        asked-kept-cases (Some p) has = picked (λ name. is_some_and (node_of graph name) test) p (packages asked) ∙ ap (λ b. b && is_some_and (node_of graph p) test) (has p refl)

    -- a spec holds
    pub holds-kept : (name : Text) (spec : Spec) → keeps (holds_rule world packages name spec) ≡ holds world spec graph name
    unfolding holds_rule holds
    holds-kept name spec = rw (meets-kept name spec.top, each-kept (is_in graph) (below_rule world packages name) (holds_below world graph name) each-below spec.below) refl
      where
        each-below : (part : Part) → keeps (below_rule world packages name part) ≡ holds_below world graph name part
        each-below part = named-kept (is_in graph) _ _ (λ asked. asked-kept asked _ _ (λ n. below-kept n name part asked)) part.name

    -- a condition holds
    pub condition-kept : (name : Text) (condition : Condition) → keeps (condition_rule world packages name condition) ≡ all_hold world condition graph name
    unfolding condition_rule all_hold
    condition-kept name condition = each-kept (is_in graph) _ (λ spec. holds world spec graph name) (holds-kept name) condition.specs
