-- Graphs that break one rule, each a valid graph or problem with one change.
use Rattle.std.specs.Prelude.{Bool, true, false, not, map, List, [], ◌∷◌, ◌++◌, filter, codes, Some, None}
use Rattle.version_order.specs.declared.item.Item.TheVariants.{Range}
use Rattle.spec_grammar.specs.Meaning.{empty_part}
use Rattle.spec_grammar.specs.declared.part.Spec.{Spec}
use Rattle.recipe_data.specs.declared.recipe.Recipe.{Recipe}
use Rattle.graph_core.specs.Graphs.{Text, Content}
use Rattle.graph_core.specs.declared.node.Node.{Node}
use Rattle.problem.specs.Problems.{Problem}
use Rattle.graph_rules.specs.Valid.{keeps, all_rules}
use Rattle.graph_rules.specs.declared.rule.Rule.{Rule}
use Rattle.rule_rows.specs.Build.{named, spec, on, at, always, version, to_build_and_link, to_link, recipe, compiler, built, is_on, edge, edge_naming, with_roots}
use Rattle.rule_rows.specs.Rows.{hdf5, mpi_of, realistic, realistic_graph, one_of_two, beside}

-- the rules that the graph breaks, in their order
abbrev pub broken_rules : Problem → Content → List Rule
broken_rules problem graph = filter (λ rule. not (keeps rule problem graph)) all_rules

-- ---- one change of the graph

abbrev pub hdf5_node : Node
hdf5_node = built (codes "hdf5") (codes "1.14.3") (is_on (codes "mpi") ∷ is_on (codes "shared") ∷ [])

abbrev pub zlib_node : Node
zlib_node = built (codes "zlib") (codes "1.3") []

-- the graph with another hdf5 and another zlib
abbrev pub with_nodes : Node → Node → Content
with_nodes first last = record realistic_graph { nodes = first ∷ built (codes "mpich") (codes "4.1.2") [] ∷ last ∷ [] }

abbrev pub undeclared_version : Content
undeclared_version = with_nodes hdf5_node (record zlib_node { version = codes "1.2.14" })

abbrev pub variant_left_out : Content
variant_left_out = with_nodes (record hdf5_node { variants = is_on (codes "mpi") ∷ [] }) zlib_node

abbrev pub variants_out_of_order : Content
variants_out_of_order = with_nodes (record hdf5_node { variants = is_on (codes "shared") ∷ is_on (codes "mpi") ∷ [] }) zlib_node

abbrev pub value_not_allowed : Content
value_not_allowed = with_nodes (record hdf5_node { variants = is_on (codes "mpi") ∷ (codes "shared", codes "static" ∷ []) ∷ [] }) zlib_node

abbrev pub other_compiler : Content
other_compiler = with_nodes hdf5_node (record zlib_node { compiler = Some (compiler (codes "11.2")) })

abbrev pub no_compiler : Content
no_compiler = with_nodes hdf5_node (record zlib_node { compiler = None })

abbrev pub other_os : Content
other_os = with_nodes hdf5_node (record zlib_node { os = codes "rocky9" })

abbrev pub prefix_of_a_built_node : Content
prefix_of_a_built_node = with_nodes hdf5_node (record zlib_node { prefix = Some (codes "/opt") })

abbrev pub kind_left_out : Content
kind_left_out = record realistic_graph {
  edges =
      edge_naming (codes "mpi" ∷ []) (codes "hdf5") (codes "mpich") to_build_and_link ∷ edge (codes "hdf5") (codes "zlib") to_link ∷ [];
}

abbrev pub kind_not_asked_for : Content
kind_not_asked_for = record realistic_graph {
  edges =
      edge_naming (codes "mpi" ∷ []) (codes "hdf5") (codes "mpich") to_build_and_link
      ∷ edge (codes "hdf5") (codes "zlib") (record { build = true; link = true; run = true }) ∷ [];
}

abbrev pub edge_not_asked_for : Content
edge_not_asked_for = record realistic_graph { edges = realistic_graph.edges ++ edge (codes "mpich") (codes "zlib") to_link ∷ [] }

abbrev pub node_nobody_needs : Content
node_nobody_needs = record realistic_graph {
  nodes = hdf5_node ∷ built (codes "mpich") (codes "4.1.2") [] ∷ built (codes "openmpi") (codes "4.1.6") [] ∷ zlib_node ∷ [];
}

abbrev pub provider_that_does_not : Content
provider_that_does_not = record realistic_graph { providers = (codes "mpi", codes "mpich") ∷ (codes "pmi", codes "zlib") ∷ [] }

-- ---- one change of the problem

abbrev pub newer_root : Problem
newer_root = with_roots (at (Range (Some (codes "2")) None ∷ []) (named (codes "hdf5")) ∷ []) realistic

abbrev pub not_buildable : Problem
not_buildable = record realistic {
  settings = record realistic.settings {
    packages =
        record { name = codes "zlib"; versions = []; buildable = false; externals = []; require = [] } ∷ [];
  };
}

-- the settings ask this of a package
abbrev pub asking : Text → Bool → List Spec → Problem → Problem
asking name one_of specs p = record p {
  settings = record p.settings {
    packages = record {
      name = name;
      versions = [];
      buildable = true;
      externals = [];
      require = record { specs = specs; one_of = one_of; when = always } ∷ [];
    } ∷ [];
  };
}

abbrev pub older_zlib_asked : Problem → Problem
older_zlib_asked = asking (codes "zlib") false
    (spec (at (Range (Some (codes "1.2.13")) (Some (codes "1.2.13")) ∷ []) (empty_part None)) ∷ [])

abbrev pub newer_zlib_asked : Problem → Problem
newer_zlib_asked = asking (codes "zlib") false (spec (at (Range (Some (codes "1.3")) None ∷ []) (empty_part None)) ∷ [])

-- the settings ask for one of two variants, and the recipe for neither
abbrev pub one_asked : Problem
one_asked = asking (codes "x") true (spec (on (codes "p") (empty_part None)) ∷ spec (on (codes "q") (empty_part None)) ∷ [])
    (record one_of_two { recipes = map {A = Recipe} (λ r. record r { requirements = [] }) one_of_two.recipes })

-- zlib has an old version besides, which hdf5 does not take
abbrev pub older_zlib : Problem
older_zlib = record realistic {
  recipes = hdf5 ∷ mpi_of (codes "mpich") (codes "4.1.2" ∷ codes "3.4.3" ∷ []) ∷ mpi_of (codes "openmpi") (codes "4.1.6" ∷ [])
      ∷ recipe (codes "zlib") (version 0 (codes "1.3") ∷ version 1 (codes "1.1") ∷ []) ∷ [];
}

abbrev pub older_zlib_graph : Content
older_zlib_graph = with_nodes hdf5_node (record zlib_node { version = codes "1.1" })

-- mpich provides pmi besides, which nobody asks for
abbrev pub with_pmi : Problem
with_pmi = record realistic {
  recipes = hdf5
      ∷ record (mpi_of (codes "mpich") (codes "4.1.2" ∷ [])) {
        provides = record { name = codes "mpi"; versions = None; when = always; number = 2 } ∷ record {
          name = codes "pmi";
          versions =
              None;
          when = always;
          number = 3;
        } ∷ [];
      }
      ∷ recipe (codes "zlib") (version 0 (codes "1.3") ∷ []) ∷ [];
}

abbrev pub pmi_nobody_uses : Content
pmi_nobody_uses = record realistic_graph { providers = (codes "mpi", codes "mpich") ∷ (codes "pmi", codes "mpich") ∷ [] }

-- a and b need each other, and a is asked for
abbrev pub asked_cycle : Problem
asked_cycle = with_roots (named (codes "a") ∷ []) beside

abbrev pub cycle_of_two : Content
cycle_of_two = record {
  nodes = built (codes "a") (codes "1") [] ∷ built (codes "b") (codes "1") [] ∷ [];
  edges = edge (codes "a") (codes "b") to_build_and_link ∷ edge (codes "b") (codes "a") to_build_and_link ∷ [];
  providers = [];
}
