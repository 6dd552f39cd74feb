-- Where literals spell a graph, the formula of each word says its fact.
use Rattle.std.proofs.Common.{◌≡◌, refl, sym, ap, subst, ◌∙◌, inl, inr, Bool, true, false, ◌||◌, ◌&&◌, ℕ, List, [], ◌∷◌, ◌++◌, Option, Some, None}
use Rattle.std.specs.Prelude.{if◌then◌else◌}
use Rattle.std.specs.List.{list_any, cons_option}
use Rattle.std.proofs.lemmas.Bool.{cases_Bool}
use Rattle.std.specs.Option.{option_map, option_to_list, is_some}
use Rattle.std.specs.Str.{bytes_eq}
use Rattle.clause_store.specs.declared.Lit.{Lit}
use Rattle.clause_store.specs.Lits.{lit_true}
use Rattle.clause_formulas.specs.Statements.{Statement, eval, atom, all_statements, all_eval}
use Rattle.clause_formulas.proofs.Words.{eval-all_of, all_eval-append}
use Rattle.clause_formulas.proofs.FewLaws.{one-said}
use Rattle.graph_core.specs.Graphs.{Text, Content, node_of, edge_of, provider_of}
use Rattle.graph_core.specs.declared.node.Node.{Node}
use Rattle.graph_core.specs.declared.node.Edge.{Edge}
use Rattle.graph_core.specs.declared.node.Kinds.{Kinds}
use Rattle.condition_rules.specs.Words.{is_some_and, implies}
use Rattle.problem.specs.Nodes.{has_kind, covers}
use Rattle.literal_table.specs.Choices.{Choices, chosen, any_choice, choice_lits, is_single}
use Rattle.std.specs.Cmp.Lexicographic.{pointwise}
use Rattle.literal_table.specs.Tables.{Table, block_of, edge_lits_of, edge_virtuals, packages_of, variant_choices}
use Rattle.literal_table.specs.Spells.{SpellsOne, SpellsNode, SpellsAt, SpellsEdge, values_at, variants_of, chosen_variants, chosen_kinds, with_values}
use Rattle.literal_table.specs.declared.block.Block.{Block}
use Rattle.literal_table.specs.declared.block.EdgeLits.{EdgeLits}
use Rattle.literal_table.proofs.Choices.{any-chosen, one-true}
use Rattle.literal_table.proofs.Spelling.{values-spelled}
use Rattle.graph_formulas.specs.Facts.{Fact, GraphWord, Variants, same_variants, variant_there, is_there, has_origin, has_version, has_compiler, has_os, has_target, has_prefix, has_variant, has_value, has_single, has_variants, has_virtual, has_virtuals, just_parts, node_has, provides_as, has_edge, has_path, is_so, is_in, variant_parts, fact_said, said_in, kind_parts, edge_said, word_said}
use Rattle.graph_formulas.specs.Words.{SpellsPaths}
use Rattle.graph_formulas.proofs.ChosenVariants.{just-chosen, variants-chosen}

-- ---- options

there-and : {T : Type 0} (o : Option T) → is_some o ≡ is_some_and o (λ x. true)
there-and None = refl
there-and (Some x) = refl

mapped-and : {T U : Type 0} (f : T → U) (test : U → Bool) (o : Option T)
    → is_some_and (option_map f o) test ≡ is_some_and o (λ x. test (f x))
mapped-and f test None = refl
mapped-and f test (Some x) = refl

-- of one that is chosen, or none
any-of-one : {T : Type 0} (test : T → Bool) (o : Option T) → list_any test (option_to_list o) ≡ is_some_and o test
any-of-one test None = refl
any-of-one test (Some x) = or-false (test x)
  where
    or-false : (a : Bool) → (a || false) ≡ a
    or-false true = refl
    or-false false = refl

pub one-chosen : {T : Type 0} (v : ℕ → Bool) (test : T → Bool) (choices : Choices T) (o : Option T) → chosen v choices ≡ option_to_list o
    → eval v (any_choice test choices) ≡ is_some_and o test
one-chosen v test choices o is = any-chosen v test choices ∙ ap (list_any test) is ∙ any-of-one test o

-- ---- facts of a node

module _ (v : ℕ → Bool) (b : Block) (o : Option Node) (s : SpellsNode v b o) where
  attribute-said : {T : Type 0} (test : T → Bool) (choices : Choices T) (attribute : Node → T) → SpellsOne v choices attribute o
      → eval v (any_choice test choices) ≡ is_some_and o (λ node. test (attribute node))
  attribute-said test choices attribute is = one-chosen v test choices (option_map attribute o) is ∙ mapped-and attribute test o

  values-said : (variant : Text) (test : Text → Bool)
      → eval v (any_choice test (variant_choices b variant)) ≡ list_any test (values_at (variants_of o) variant)
  values-said variant test = any-chosen v test (variant_choices b variant) ∙ ap (list_any test) (values-spelled v b o variant s)

at-node : (o : Option Node) (variant : Text) (test : List Text → Bool) → test [] ≡ false
    → test (values_at (variants_of o) variant) ≡ is_some_and o (λ node. test (values_at node.variants variant))
at-node None variant test none = none
at-node (Some node) variant test none = refl

-- a variant that is chosen has a value
module _ (v : ℕ → Bool) (variant : Text) where
  filled : (us : List (Text × Choices Text))
      → list_any (λ value. true) (values_at (chosen_variants v us) variant) ≡ variant_there (chosen_variants v us) variant
  filled [] = refl
  filled (u ∷ us) = filled-cases (chosen v u.1) (filled us)
    where
      filled-cases : (xs : List Text) → list_any (λ value. true) (values_at (chosen_variants v us) variant)
          ≡ variant_there (chosen_variants v us) variant
          → list_any (λ value. true) (values_at (cons_option (with_values u.0 xs) (chosen_variants v us)) variant)
          ≡ variant_there (cons_option (with_values u.0 xs) (chosen_variants v us)) variant
      filled-cases [] rest = rest
      filled-cases (x ∷ xs) rest = elim (cases_Bool (bytes_eq u.0 variant)) [ inl same ↦ rw same refl | inr other ↦ rw other rest ]

module _ (v : ℕ → Bool) (b : Block) (o : Option Node) (s : SpellsNode v b o) where
  variant-said : (variant : Text) → eval v (any_choice (λ value. true) (variant_choices b variant))
      ≡ is_some_and o (λ node. variant_there node.variants variant)
  variant-said variant =
      values-said v b o s variant (λ value. true)
      ∙ subst (λ ws. list_any (λ value. true) (values_at ws variant) ≡ variant_there ws variant) s.variants (filled v variant b.variants)
      ∙ variant-said-cases o
    where
      variant-said-cases : (o : Option Node) → variant_there (variants_of o) variant
          ≡ is_some_and o (λ node. variant_there node.variants variant)
      variant-said-cases None = refl
      variant-said-cases (Some node) = refl

  variants-said : (variants : Variants) → eval v (all_statements (atom b.present ∷ variant_parts b.variants variants))
      ≡ is_some_and o (λ node. same_variants node.variants variants)
  variants-said variants =
      eval-all_of v (atom b.present ∷ variant_parts b.variants variants)
      ∙ rw (s.present, variants-chosen v b.variants variants s.ordered.names s.ordered.values, s.variants) (variants-said-cases o)
    where
      variants-said-cases : (o : Option Node) → (is_some o && same_variants (variants_of o) variants)
          ≡ is_some_and o (λ node. same_variants node.variants variants)
      variants-said-cases None = refl
      variants-said-cases (Some node) = refl

  pub fact-said : (fact : Fact) → eval v (fact_said b fact) ≡ is_some_and o (λ node. is_so node fact)
  fact-said is_there = s.present ∙ there-and o
  fact-said (has_origin test) = attribute-said v b o s test b.origins (λ node. node.origin) s.origin
  fact-said (has_version test) = attribute-said v b o s test b.versions (λ node. node.version) s.version
  fact-said (has_compiler test) = attribute-said v b o s test b.compilers (λ node. node.compiler) s.compiler
  fact-said (has_os test) = attribute-said v b o s test b.os (λ node. node.os) s.os
  fact-said (has_target test) = attribute-said v b o s test b.targets (λ node. node.target) s.target
  fact-said (has_prefix test) = attribute-said v b o s test b.prefixes (λ node. node.prefix) s.prefix
  fact-said (has_variant variant) = variant-said variant
  fact-said (has_value variant test) = values-said v b o s variant test ∙ at-node o variant (list_any test) refl
  fact-said (has_single variant) =
      one-said v (choice_lits (variant_choices b variant)) ∙ one-true v (variant_choices b variant)
      ∙ ap is_single (values-spelled v b o variant s)
      ∙ at-node o variant is_single refl
  fact-said (has_variants variants) = variants-said variants

-- where the name has a block, or none
at-said : (v : ℕ → Bool) (c : Option Block) (o : Option Node) → SpellsAt v c o → (fact : Fact)
    → eval v (said_in (λ b. fact_said b fact) c) ≡ is_some_and o (λ node. is_so node fact)
at-said v None o s fact = rw s refl
at-said v (Some b) o s fact = fact-said v b o s fact

-- ---- edges

kind-said : (v : ℕ → Bool) (wanted : Bool) (l : Lit) → all_eval v (kind_parts wanted l) ≡ implies wanted (lit_true v l)
kind-said v true l = and-true (lit_true v l)
  where
    and-true : (a : Bool) → (a && true) ≡ a
    and-true true = refl
    and-true false = refl
kind-said v false l = refl

-- where a kind is wanted, an edge that has it has some kind
some-wanted : (a b c x y z : Bool) → ((a || b) || c) ≡ true
    → (implies a x && (implies b y && implies c z)) ≡ (((x || y) || z) && ((implies a x && implies b y) && implies c z))
some-wanted true b c true y z h = refl
some-wanted true b c false true z h = refl
some-wanted true b c false false true h = refl
some-wanted true b c false false false h = refl
some-wanted false true c true true z h = refl
some-wanted false true c true false z h = refl
some-wanted false true c false true z h = refl
some-wanted false true c false false true h = refl
some-wanted false true c false false false h = refl
some-wanted false false true true y true h = refl
some-wanted false false true true y false h = refl
some-wanted false false true false true true h = refl
some-wanted false false true false true false h = refl
some-wanted false false true false false true h = refl
some-wanted false false true false false false h = refl
some-wanted false false false x y z h = cc

none-wanted : (a b c x y z : Bool) → ((a || b) || c) ≡ false
    → (x || (y || (z || false))) ≡ (((x || y) || z) && ((implies a x && implies b y) && implies c z))
none-wanted false false false true y z h = refl
none-wanted false false false false true z h = refl
none-wanted false false false false false true h = refl
none-wanted false false false false false false h = refl
none-wanted true b c x y z h = cc
none-wanted false true c x y z h = cc
none-wanted false false true x y z h = cc

edge-said : (v : ℕ → Bool) (kinds : Kinds) (b : EdgeLits)
    → eval v (edge_said kinds b) ≡ (has_kind (chosen_kinds v b) && covers (chosen_kinds v b) kinds)
edge-said v kinds b =
    let build = kind_parts kinds.build b.build in
    let link = kind_parts kinds.link b.link in
    let run = kind_parts kinds.run b.run in
    elim (cases_Bool (has_kind kinds)) [
      | inl wanted ↦ rw wanted (
          eval-all_of v (build ++ (link ++ run))
          ∙ rw (
            all_eval-append v build (link ++ run),
            all_eval-append v link run,
            kind-said v kinds.build b.build,
            kind-said v kinds.link
                b.link,
            kind-said v kinds.run b.run,
          )
          (some-wanted kinds.build kinds.link kinds.run (lit_true v b.build) (lit_true v b.link) (lit_true v b.run) wanted))
      | inr free ↦ rw free (none-wanted kinds.build kinds.link kinds.run (lit_true v b.build) (lit_true v b.link) (lit_true v b.run) free)
    ]

edge-at : (v : ℕ → Bool) (kinds : Kinds) (c : Option EdgeLits) (o : Option Edge) → SpellsEdge v c o
    → eval v (said_in (edge_said kinds) c) ≡ is_some_and o (λ e. covers e.kinds kinds)
edge-at v kinds None o s = rw s refl
edge-at v kinds (Some b) o s =
    edge-said v kinds b ∙ sym (chosen-and (has_kind (chosen_kinds v b)) (chosen_kinds v b))
    ∙ ap (λ k. is_some_and k (λ k. covers k kinds)) (sym s) ∙ mapped-and (λ e. e.kinds) (λ k. covers k kinds) o
  where
    chosen-and : (a : Bool) (k : Kinds) → is_some_and (if a then Some k else None) (λ k. covers k kinds) ≡ (a && covers k kinds)
    chosen-and true k = refl
    chosen-and false k = refl

-- ---- words

pub word-said : (v : ℕ → Bool) (path : Text → Text → Statement) (table : Table) (graph : Content) → SpellsPaths v path table graph
    → (w : GraphWord) → eval v (word_said path table w) ≡ is_in graph w
word-said v path table graph s (node_has name fact) = at-said v (block_of table name) (node_of graph name) (s.facts.nodes name) fact
word-said v path table graph s (provides_as virtual name) =
    one-chosen v (λ p. bytes_eq p name) (packages_of table virtual) (provider_of graph virtual) (s.facts.providers virtual)
word-said v path table graph s (has_edge parent child kinds) =
    edge-at v kinds (edge_lits_of table parent child) (edge_of graph parent child) (s.facts.edges parent child)
word-said v path table graph s (has_virtual parent child virtual) =
    any-chosen v (bytes_eq virtual) (edge_virtuals table parent child)
    ∙ ap (list_any (bytes_eq virtual)) (s.facts.virtuals parent child)
word-said v path table graph s (has_virtuals parent child virtuals) =
    eval-all_of v (just_parts (edge_virtuals table parent child) virtuals)
    ∙ just-chosen v (edge_virtuals table parent child) virtuals (s.facts.virtual_order parent child)
    ∙ ap (λ names. pointwise bytes_eq names virtuals) (s.facts.virtuals parent child)
word-said v path table graph s (has_path from to) = s.paths from to
