-- The rule of kept nodes holds where it is kept.
use Rattle.std.proofs.Common.{◌≡◌, refl, sym, ap, ◌∙◌, Bool, true, false, not, ◌||◌, ◌&&◌, List, [], ◌∷◌, Option, Some, None, inl, inr}
use Rattle.std.specs.Prelude.{is_none, slice_get}
use Rattle.std.specs.List.{list_all}
use Rattle.std.specs.Option.{option_eq}
use Rattle.std.specs.Str.{bytes_eq}
use Rattle.std.proofs.lemmas.Bool.{cases_Bool, eqb-true, eq-eqb}
use Rattle.clause_formulas.specs.Rules.{Proposition, keeps_rule, fact, isnt, if_so}
use Rattle.graph_core.specs.Graphs.{Text, Content, node_of, edge_of, edges_from, provider_of, no_kinds}
use Rattle.graph_core.specs.declared.node.Node.{Node}
use Rattle.graph_core.specs.declared.node.Edge.{Edge}
use Rattle.graph_core.specs.declared.node.Kinds.{Kinds}
use Rattle.graph_core.specs.declared.node.Origin.{Origin}
use Rattle.graph_core.specs.declared.node.Origin.TheVariants.{Built, External, Installed}
use Rattle.condition_rules.specs.Words.{if_written, is_some_and, implies}
use Rattle.problem.specs.Problems.{Problem, world_of, package_entry_of, externals_in, record_at, same_compiler}
use Rattle.problem.specs.Nodes.{covers, is_installed, same_origin}
use Rattle.problem.specs.Records.{kept_dependencies}
use Rattle.reuse_db.specs.declared.record.Record.{Record}
use Rattle.reuse_db.specs.declared.record.Dependency.{Dependency}
use Rattle.literal_table.specs.Spells.{virtuals_in}
use Rattle.std.specs.Cmp.Lexicographic.{pointwise}
use Rattle.graph_rules.specs.Kept.{is_recorded, are_provided, same_attributes, external_node, has_kinds, keeps_child, is_child, keeps_origin, keeps_kept}
use Rattle.reuse_db.specs.Installed.{installed_node}
use Rattle.graph_rules.proofs.Lists.{In, bytes_eq-same, bytes_eq-itself}
use Rattle.literal_table.proofs.Spelling.{named-so}
use Rattle.graph_formulas.specs.Facts.{GraphWord, provides_as, Fact, same_variants, has_origin, has_version, has_variants, has_compiler, has_os, has_target, has_prefix, has_edge, node_has, is_in, is_so}
use Rattle.graph_formulas.specs.Lists.{◌and◌, settled_test, one_keeps, each_keeps}
use Rattle.graph_formulas.proofs.Rules.{given-kept, named-kept, each-kept}
use Rattle.graph_formulas.proofs.Kept.{there}
use Rattle.graph_formulas.specs.Kept.{same_rule, kinds_rule, is_child_name, provided_rule, joined_rule, child_rule, recorded_rule, origin_rule, kept_rule}

-- ---- origins

-- the same origin is an equal one
pub origins-same : (a b : Origin) → same_origin a b ≡ true → a ≡ b
origins-same Built Built h = refl
origins-same Built (External place) h = absurd (cc)
origins-same Built (Installed hash) h = absurd (cc)
origins-same (External place) Built h = absurd (cc)
origins-same (External place) (External other) h = ap External (eqb-true place other h)
origins-same (External place) (Installed hash) h = absurd (cc)
origins-same (Installed hash) Built h = absurd (cc)
origins-same (Installed hash) (External place) h = absurd (cc)
origins-same (Installed hash) (Installed other) h = ap Installed (bytes_eq-same hash other h)

-- an origin is the same as itself
pub origin-itself : (a : Origin) → same_origin a a ≡ true
origin-itself Built = refl
origin-itself (External place) = eq-eqb place place refl
origin-itself (Installed hash) = bytes_eq-itself hash

-- of a list of origins, the one that is this
all-origins : (f : Origin → Bool) (o : Origin) (os : List Origin) → In o os → list_all (λ a. not (same_origin a o) || f a) os ≡ f o
all-origins f o [] none = absurd none
all-origins f o (a ∷ os) there = elim (cases_Bool (same_origin a o)) [
  | inl same ↦ let is : a ≡ o = origins-same a o same in rw (same, is) (rest f o os)
  | inr other ↦ rw other (later there other (λ i. all-origins f o os i))
]
  where
    rest : (f : Origin → Bool) (o : Origin) (os : List Origin) → (f o && list_all (λ a. not (same_origin a o) || f a) os) ≡ f o
    rest f o [] = and-true (f o)
      where
        and-true : (a : Bool) → (a && true) ≡ a
        and-true true = refl
        and-true false = refl
    rest f o (b ∷ bs) = elim (cases_Bool (same_origin b o)) [
      | inl same ↦ let is : b ≡ o = origins-same b o same in
          rw (same, is) (twice (f o) (list_all (λ a. not (same_origin a o) || f a) bs) (rest f o bs))
      | inr other ↦ rw other (rest f o bs)
    ]
      where
        twice : (a b : Bool) → (a && b) ≡ a → (a && (a && b)) ≡ a
        twice true b h = h
        twice false b h = refl

    later : In o (a ∷ os) → same_origin a o ≡ false → (In o os → list_all (λ a. not (same_origin a o) || f a) os ≡ f o)
        → list_all (λ a. not (same_origin a o) || f a) os ≡ f o
    later (inl same) other behind = absurd (let wrong : true ≡ false = sym (origin-itself o) ∙ ap (λ a. same_origin a o) same ∙ other in cc)
    later (inr there) other behind = behind there

-- ---- kinds

kind-tests : (A b l r kl kr : Bool) → (((A && not ((b && true) && true)) && (not (l && true) || kl)) && (not r || kr))
    ≡ (A && ((implies b false && implies l kl) && implies r kr))
kind-tests false b l r kl kr = refl
kind-tests true true l r kl kr = refl
kind-tests true false false false true true = refl
kind-tests true false false false true false = refl
kind-tests true false false false false true = refl
kind-tests true false false false false false = refl
kind-tests true false false true true true = refl
kind-tests true false false true true false = refl
kind-tests true false false true false true = refl
kind-tests true false false true false false = refl
kind-tests true false true false true true = refl
kind-tests true false true false true false = refl
kind-tests true false true false false true = refl
kind-tests true false true false false false = refl
kind-tests true false true true true true = refl
kind-tests true false true true true false = refl
kind-tests true false true true false true = refl
kind-tests true false true true false false = refl

abbrev on : Option Edge → Kinds → Bool
on o wanted = is_some_and o (λ e. covers e.kinds wanted)

-- ---- the rule

module _ (problem : Problem) (graph : Content) (name : Text) (node : Node) (here : node_of graph name ≡ Some node) (children : List Text)
    (edges : (test : Edge → Bool) → list_all test (edges_from graph name)
    ≡ list_all (λ child. if_written (edge_of graph name child) test) children)
    (child-named : (child : Text) (e : Edge) → edge_of graph name child ≡ Some e → e.child ≡ child) where
  abbrev in_graph : Proposition GraphWord → Bool
  in_graph rule = keeps_rule (is_in graph) rule

  has : (f : Fact) → is_in graph (node_has name f) ≡ is_so node f
  has f = there (world_of problem) graph name node here f

  same-kept : (k : Node) → in_graph (same_rule name k) ≡ same_attributes node k
  unfolding same_attributes
  same-kept k = rw (
    given-kept (is_in graph) (bytes_eq name k.name),
    has (has_version (λ version. bytes_eq version k.version)),
    has (has_variants k.variants),
    has (has_compiler (λ compiler. option_eq same_compiler compiler k.compiler)),
    has (has_os (λ os. bytes_eq os k.os)),
    has (has_target (λ target. bytes_eq target k.target)),
    has (has_prefix (λ prefix. option_eq bytes_eq prefix k.prefix)),
  ) (ap (λ n. bytes_eq n k.name && bytes_eq node.version k.version && same_variants node.variants k.variants
      && option_eq same_compiler node.compiler k.compiler && bytes_eq node.os k.os && bytes_eq node.target k.target
      && option_eq bytes_eq node.prefix k.prefix) (sym (named-so graph name node here)))

  kinds-kept : (child : Text) (kinds : Kinds)
      → in_graph (kinds_rule name child kinds) ≡ is_some_and (edge_of graph name child) (has_kinds kinds)
  kinds-kept child kinds = rw (given-kept (is_in graph) kinds.link, given-kept (is_in graph) kinds.run)
      (kinds-kept-cases (edge_of graph name child))
    where
      kinds-kept-cases : (o : Option Edge) → (((on o (record kinds { build = false }) && not (on o (record no_kinds { build = true })))
          && (not (on o (record no_kinds { link = true })) || kinds.link))
          && (not (on o (record no_kinds { run = true })) || kinds.run))
          ≡ is_some_and o (has_kinds kinds)
      kinds-kept-cases None = refl
      kinds-kept-cases (Some e) = kind-tests (covers e.kinds (record kinds { build = false })) e.kinds.build e.kinds.link e.kinds.run
          kinds.link kinds.run

  -- the edge is as it is recorded
  edge-recorded : (child : Text) (d : Dependency)
      → (in_graph (kinds_rule name child d.kinds) && pointwise bytes_eq (virtuals_in (edge_of graph name child)) d.virtuals)
      ≡ is_some_and (edge_of graph name child) (is_recorded d)
  edge-recorded child d = rw (kinds-kept child d.kinds) (edge-recorded-cases (edge_of graph name child))
    where
      edge-recorded-cases : (o : Option Edge) → (is_some_and o (has_kinds d.kinds) && pointwise bytes_eq (virtuals_in o) d.virtuals)
          ≡ is_some_and o (is_recorded d)
      edge-recorded-cases None = refl
      edge-recorded-cases (Some e) = refl

  provided-kept : (child : Text) (virtuals : List Text) → in_graph (provided_rule child virtuals) ≡ are_provided graph child virtuals
  provided-kept child virtuals = each-kept (is_in graph) (λ virtual. fact (provides_as virtual child))
      (λ virtual. is_some_and (provider_of graph virtual) (λ p. bytes_eq p child)) (λ virtual. refl) virtuals

  child-kept : (d : Dependency) → in_graph (child_rule problem children name d) ≡ keeps_child problem graph name d
  child-kept d = named-kept (is_in graph) (λ child. joined_rule name child.name d)
      (λ child. is_some_and (node_of graph child.name) (is_installed d.hash) && is_some_and (edge_of graph name child.name) (is_recorded d)
      && are_provided graph child.name d.virtuals)
      (λ child. rw (edge-recorded child.name d, provided-kept child.name d.virtuals) refl) (record_at problem d.hash)

  recorded-kept : (entry : Record) → in_graph (each_keeps (recorded_rule problem children name entry) children)
      ≡ list_all (is_child problem entry) (edges_from graph name)
  recorded-kept entry =
      each-kept (is_in graph) (recorded_rule problem children name entry)
      (λ child. if_written (edge_of graph name child) (is_child problem entry))
      (λ child. recorded-kept-cases child (edge_of graph name child) (child-named child)) children
      ∙ sym (edges (is_child problem entry))
    where
      recorded-kept-cases : (child : Text) (o : Option Edge) → ((e : Edge) → o ≡ Some e → e.child ≡ child)
          → (not (is_some_and o (λ e. covers e.kinds no_kinds)) || in_graph (settled_test (is_child_name problem entry child)))
          ≡ if_written o (is_child problem entry)
      recorded-kept-cases child None one_keeps = refl
      recorded-kept-cases child (Some e) one_keeps = given-kept (is_in graph) (is_child_name problem entry child)
          ∙ ap (is_child_name problem entry) (sym (one_keeps e refl))

  no-edge-kept : in_graph (each_keeps (λ child. isnt (fact (has_edge name child no_kinds))) children) ≡ list_all (λ e. false)
      (edges_from graph name)
  no-edge-kept =
      each-kept (is_in graph) (λ child. isnt (fact (has_edge name child no_kinds)))
      (λ child. if_written (edge_of graph name child) (λ e. false))
      (λ child. none (edge_of graph name child)) children
      ∙ sym (edges (λ e. false))
    where
      none : (o : Option Edge) → not (is_some_and o (λ e. covers e.kinds no_kinds)) ≡ if_written o (λ e. false)
      none None = refl
      none (Some e) = refl

  origin-kept : (origin : Origin) → in_graph (origin_rule problem children name origin) ≡ keeps_origin problem graph node origin
  origin-kept Built = has (has_prefix is_none)
  origin-kept (External place) = rw (
    named-kept (is_in graph) (λ entry. same_rule name (external_node problem name place entry))
        (λ entry. same_attributes node (external_node problem name place entry))
        (λ entry. same-kept (external_node problem name place entry)) (slice_get (externals_in (package_entry_of problem name)) place),
    no-edge-kept,
  ) (ap (λ n. is_some_and (slice_get (externals_in (package_entry_of problem n)) place)
      (λ entry. same_attributes node (external_node problem n place entry))
      && list_all (λ e. false) (edges_from graph n)) (sym (named-so graph name node here)))
  origin-kept (Installed hash) =
      named-kept (is_in graph)
      (λ entry. same_rule name (installed_node entry) and each_keeps (child_rule problem children name) (kept_dependencies entry) and
      each_keeps (recorded_rule problem children name entry) children)
      (λ entry. same_attributes node (installed_node entry) && list_all (keeps_child problem graph name) (kept_dependencies entry)
      && list_all (is_child problem entry) (edges_from graph name))
      (λ entry. rw (
        same-kept (installed_node entry),
        each-kept (is_in graph) (child_rule problem children name) (keeps_child problem graph name) child-kept (kept_dependencies entry),
        recorded-kept entry,
      ) refl) (record_at problem hash)
      ∙ ap (λ n. is_some_and (record_at problem hash) (λ entry. same_attributes node (installed_node entry)
      && list_all (keeps_child problem graph n) (kept_dependencies entry) && list_all (is_child problem entry) (edges_from graph n)))
      (sym (named-so graph name node here))

  -- the rule of a kept node
  pub kept-kept : (origins : List Origin) → In node.origin origins
      → in_graph (kept_rule problem children origins name) ≡ keeps_kept problem graph node
  unfolding keeps_kept
  kept-kept origins there =
      each-kept (is_in graph) (λ origin. if_so (fact (node_has name (has_origin (same_origin origin))))
      (origin_rule problem children name origin))
      (λ origin. not (same_origin origin node.origin) || keeps_origin problem graph node origin)
      (λ origin. rw (has (has_origin (same_origin origin)), origin-kept origin) refl) origins
      ∙ all-origins (keeps_origin problem graph node) node.origin origins there
