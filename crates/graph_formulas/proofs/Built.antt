-- The rules of a node to build, of providers and of paths hold where these are kept.
use Rattle.std.proofs.Common.{◌≡◌, refl, sym, ap, ◌∙◌, Bool, not, ◌||◌, ◌&&◌, List, [], ◌∷◌, Option, Some, None}
use Rattle.std.specs.Prelude.{is_some}
use Rattle.std.specs.List.{list_any}
use Rattle.std.specs.Str.{bytes_eq}
use Rattle.std.specs.Cmp.Lexicographic.{nat_list_eq_equiv}
use Rattle.clause_formulas.specs.Rules.{Proposition, keeps_rule}
use Rattle.graph_core.specs.Graphs.{Text, Content, node_of}
use Rattle.graph_core.specs.Paths.{reaches_in}
use Rattle.graph_core.specs.declared.node.Node.{Node}
use Rattle.condition_rules.specs.Words.{is_one_text, is_some_and}
use Rattle.problem.specs.Problems.{Problem, world_of, recipe_at, versions_at, package_entry_of, is_buildable_in, same_compiler}
use Rattle.site_settings.specs.declared.settings.CompilerEntry.{CompilerEntry}
use Rattle.graph_rules.specs.Built.{keeps_buildable, keeps_version, keeps_compiler, keeps_machine, supports}
use Rattle.graph_rules.specs.Whole.{keeps_provider, keeps_no_cycle, keeps_reachable}
use Rattle.literal_table.proofs.Spelling.{named-so}
use Rattle.graph_formulas.specs.Facts.{GraphWord, Fact, has_version, has_compiler, has_os, has_target, node_has, is_in, is_so}
use Rattle.graph_formulas.proofs.Rules.{or-false, given-kept, written-kept, named-kept, some-kept}
use Rattle.graph_formulas.proofs.Kept.{there, provides-kept}
use Rattle.graph_formulas.specs.Built.{buildable_rule, version_rule, entry_rule, compiler_rule, machine_rule, provider_rule, no_cycle_rule, reachable_rule}

-- equality of texts, from either side
pub either-way : (a b : Text) → bytes_eq a b ≡ bytes_eq b a
either-way a b = nat_list_eq_equiv.symm a b

-- a test of one and a test of some
swapped : {T U : Type 0} (test : T → U → Bool) (o : Option T) (xs : List U)
    → list_any (λ x. is_some_and o (λ y. test y x)) xs ≡ is_some_and o (λ y. list_any (test y) xs)
swapped test None [] = refl
swapped test None (x ∷ xs) = swapped test None xs
swapped test (Some y) xs = refl

module _ (problem : Problem) (graph : Content) where
  abbrev pub in_graph : Proposition GraphWord → Bool
  in_graph rule = keeps_rule (is_in graph) rule

  module _ (name : Text) (node : Node) (here : node_of graph name ≡ Some node) where
    has : (f : Fact) → is_in graph (node_has name f) ≡ is_so node f
    has f = there (world_of problem) graph name node here f

    -- the rule of a buildable name
    pub buildable-kept : in_graph (buildable_rule problem name) ≡ keeps_buildable problem node
    unfolding keeps_buildable
    buildable-kept = given-kept (is_in graph) _
        ∙ ap (λ n. is_some (recipe_at problem n) && is_buildable_in (package_entry_of problem n)) (sym (named-so graph name node here))

    -- of its version
    pub version-kept : in_graph (version_rule problem name) ≡ keeps_version problem node
    unfolding keeps_version
    version-kept =
        has (has_version (λ version. list_any (λ row. bytes_eq row.version version) (versions_at problem name)))
        ∙ ap (λ n. list_any (λ row. bytes_eq row.version node.version) (versions_at problem n)) (sym (named-so graph name node here))

    -- of its OS and target
    pub machine-kept : in_graph (machine_rule problem name) ≡ keeps_machine problem node
    unfolding keeps_machine
    machine-kept = rw (
      has (has_os (is_one_text problem.settings.os)),
      has (has_target (λ target. list_any (λ entry. bytes_eq entry.name target) problem.settings.targets)),
    ) refl

    -- of its compiler
    pub compiler-kept : in_graph (compiler_rule problem name) ≡ keeps_compiler problem node
    unfolding keeps_compiler
    compiler-kept =
        some-kept (is_in graph) (entry_rule problem name)
        (λ entry. is_some_and node.compiler (λ c. same_compiler entry.compiler c && supports entry node)) entry-kept
        problem.settings.compilers
        ∙ swapped (λ c entry. same_compiler entry.compiler c && supports entry node) node.compiler problem.settings.compilers
      where
        and-some : {T : Type 0} (o : Option T) (test : T → Bool) (b : Bool) → (is_some_and o test && b) ≡ is_some_and o (λ x. test x && b)
        and-some None test b = refl
        and-some (Some x) test b = refl

        entry-kept : (entry : CompilerEntry) → in_graph (entry_rule problem name entry) ≡ is_some_and node.compiler
            (λ c. same_compiler entry.compiler c && supports entry node)
        entry-kept entry = rw (
          has (has_compiler (λ c. is_some_and c (same_compiler entry.compiler))),
          written-kept (is_in graph) _ (λ names. is_one_text names node.os) (λ names. has (has_os (is_one_text names))) entry.os,
          written-kept (is_in graph) _ (λ names. is_one_text names node.target) (λ names. has (has_target (is_one_text names)))
              entry.targets,
        ) (and-some node.compiler (same_compiler entry.compiler) (supports entry node))

    -- no path leads back to the node
    pub no_cycle-kept : in_graph (no_cycle_rule problem name) ≡ keeps_no_cycle graph node
    unfolding keeps_no_cycle
    no_cycle-kept = ap (λ n. not (reaches_in graph n n)) (sym (named-so graph name node here))

    -- a path from a root leads to the node
    pub reachable-kept : in_graph (reachable_rule problem name) ≡ keeps_reachable problem graph node
    unfolding keeps_reachable
    reachable-kept =
        some-kept (is_in graph) _ (λ spec. is_some_and spec.top.name (λ root. bytes_eq root name || reaches_in graph root name))
        (λ spec. named-kept (is_in graph) _ (λ root. bytes_eq root name || reaches_in graph root name)
        (λ root. rw (given-kept (is_in graph) (bytes_eq root name), or-false (reaches_in graph root name)) refl) spec.top.name)
        problem.roots
        ∙ ap (λ n. list_any (λ spec. is_some_and spec.top.name (λ root. bytes_eq root n || reaches_in graph root n)) problem.roots)
        (sym (named-so graph name node here))

  -- a provider may provide the virtual
  pub provider-kept : (p : Text × Text) → in_graph (provider_rule problem p) ≡ keeps_provider problem graph p
  unfolding keeps_provider
  provider-kept p = provides-kept (world_of problem) graph p.1 p.0 None
