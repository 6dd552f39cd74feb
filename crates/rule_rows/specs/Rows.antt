-- Problems and their graphs.
use Rattle.std.specs.Prelude.{ℕ, true, List, [], ◌∷◌, map, codes, ◌-◌, Some, None, replicate, slice_set}
use Rattle.version_order.specs.declared.item.Item.TheVariants.{Range}
use Rattle.spec_grammar.specs.Meaning.{empty_part}
use Rattle.graph_core.specs.Graphs.{Text, Content}
use Rattle.graph_core.specs.declared.node.Origin.TheVariants.{External}
use Rattle.recipe_data.specs.declared.recipe.Recipe.{Recipe}
use Rattle.problem.specs.Problems.{Problem}
use Rattle.graph_rules.specs.declared.criterion.TheConstants.{NUMBERS}
use Rattle.rule_rows.specs.Build.{named, spec, on, at, always, when, version, flag, to_build_and_link, to_run, depends_on, recipe, compiler, standard, problem, built, is_on, edge, edge_naming, dependency, graph, installed, kept}

-- the vector with these values at these places, from 1, and 0 elsewhere
abbrev pub vector_of : List (ℕ × ℕ) → List ℕ
vector_of [] = replicate NUMBERS 0
vector_of (p ∷ more) = slice_set (vector_of more) (p.0 - 1) p.1

-- ---- hdf5 with mpich

abbrev pub hdf5 : Recipe
hdf5 = record (recipe (codes "hdf5") (version 0 (codes "1.14.3") ∷ version 1 (codes "1.10.11") ∷ [])) {
  variants = flag 2 (codes "mpi") (codes "false") ∷ flag 3 (codes "shared") (codes "true") ∷ [];
  depends = depends_on 4 (at (Range (Some (codes "1.2")) None ∷ []) (named (codes "zlib"))) to_build_and_link always
      ∷ depends_on 5 (named (codes "mpi")) to_build_and_link (when (on (codes "mpi") (empty_part None))) ∷ [];
  conflicts = record {
    spec = spec (record (empty_part None) { compiler = Some (codes "gcc", Some (Range None (Some (codes "4")) ∷ [])) });
    when = always;
    number = 6;
  } ∷ [];
}

abbrev pub mpi_of : Text → List Text → Recipe
mpi_of name versions = record (recipe name (map (version 0) versions)) {
  provides = record { name = codes "mpi"; versions = Some (Range None (Some (codes "3.1")) ∷ []); when = always; number = 2 } ∷ [];
}

abbrev pub realistic : Problem
realistic = record (problem
    (hdf5 ∷ mpi_of (codes "mpich") (codes "4.1.2" ∷ codes "3.4.3" ∷ []) ∷ mpi_of (codes "openmpi") (codes "4.1.6" ∷ [])
    ∷ recipe (codes "zlib") (version 0 (codes "1.3") ∷ version 1 (codes "1.2.13") ∷ []) ∷ [])
    (record {
      top = on (codes "mpi") (at (Range (Some (codes "1.10")) None ∷ []) (named (codes "hdf5")));
      below =
          named (codes "mpich") ∷ [];
    } ∷ [])) {
      settings = record standard { providers = (codes "mpi", codes "openmpi" ∷ codes "mpich" ∷ []) ∷ [] };
    }

abbrev pub realistic_graph : Content
realistic_graph = record {
  nodes = built (codes "hdf5") (codes "1.14.3") (is_on (codes "mpi") ∷ is_on (codes "shared") ∷ [])
      ∷ built (codes "mpich") (codes "4.1.2") [] ∷ built (codes "zlib") (codes "1.3") [] ∷ [];
  edges =
      edge_naming (codes "mpi" ∷ []) (codes "hdf5") (codes "mpich") to_build_and_link
      ∷ edge (codes "hdf5") (codes "zlib") to_build_and_link ∷ [];
  providers = (codes "mpi", codes "mpich") ∷ [];
}

-- ---- a variant that the old compiler forbids

abbrev pub old_compiler : Problem
old_compiler = record (problem
    (record (recipe (codes "x") (version 0 (codes "1.0") ∷ [])) {
      variants = flag 1 (codes "s") (codes "true") ∷ [];
      conflicts = record {
        spec =
            spec (record (empty_part None) { compiler = Some (codes "gcc", Some (Range None (Some (codes "4")) ∷ [])) });
        when =
            when (on (codes "s") (empty_part None));
        number = 2;
      } ∷ [];
    } ∷ []) (spec (named (codes "x")) ∷ [])) {
      settings = record standard { compilers = record { compiler = compiler (codes "4.8.5"); os = None; targets = None } ∷ [] };
    }

abbrev pub old_compiler_graph : List (Text × List Text) → Content
old_compiler_graph variants = graph (record (built (codes "x") (codes "1.0") variants) { compiler = Some (compiler (codes "4.8.5")) } ∷ [])
    []

-- ---- a cycle beside the root

abbrev pub single : Text → Text → Recipe
single name child = record (recipe name (version 0 (codes "1") ∷ [])) { depends = depends_on 1 (named child) to_build_and_link always ∷ [] }

abbrev pub beside : Problem
beside = problem (single (codes "a") (codes "b") ∷ single (codes "b") (codes "a") ∷ recipe (codes "c") (version 0 (codes "1") ∷ []) ∷ [])
    (spec (named (codes "c")) ∷ [])

abbrev pub one_node : Content
one_node = graph (built (codes "c") (codes "1") [] ∷ []) []

abbrev pub with_cycle : Content
with_cycle = graph
    (built (codes "a") (codes "1") [] ∷ built (codes "b") (codes "1") [] ∷ built (codes "c") (codes "1") [] ∷ [])
    (edge (codes "a") (codes "b") to_build_and_link ∷ edge (codes "b") (codes "a") to_build_and_link ∷ [])

-- ---- one of two variants

abbrev pub one_of_two : Problem
one_of_two = problem
    (record (recipe (codes "x") (version 0 (codes "1") ∷ [])) {
      variants = flag 1 (codes "p") (codes "true") ∷ flag 2 (codes "q") (codes "true") ∷ [];
      requirements = record {
        specs = spec (on (codes "p") (empty_part None)) ∷ spec (on (codes "q") (empty_part None)) ∷ [];
        one_of =
            true;
        when = always;
        number = 3;
      } ∷ [];
    } ∷ []) (spec (named (codes "x")) ∷ [])

abbrev pub one_of_graph : List (Text × List Text) → Content
one_of_graph variants = graph (built (codes "x") (codes "1") variants ∷ []) []

-- ---- an installed child

abbrev pub app : Recipe
app = single (codes "app") (codes "zlib")

abbrev pub two_zlibs : Recipe
two_zlibs = recipe (codes "zlib") (version 0 (codes "1.3") ∷ version 1 (codes "1.2.11") ∷ [])

abbrev pub with_installed : Problem
with_installed = record (problem (app ∷ two_zlibs ∷ []) (spec (named (codes "app")) ∷ [])) {
  database = kept (codes "h") (codes "zlib") (codes "1.2.11") [] ∷ [];
}

abbrev pub installed_graph : Content
installed_graph = graph
    (built (codes "app") (codes "1") [] ∷ installed (codes "h") (codes "zlib") (codes "1.2.11") ∷ [])
    (edge (codes "app") (codes "zlib") to_build_and_link ∷ [])

-- ---- an installed child that is run

abbrev pub with_run : Problem
with_run = record (problem
    (record (recipe (codes "t") (version 0 (codes "1") ∷ [])) { depends = depends_on 1 (named (codes "u")) to_run always ∷ [] }
    ∷ recipe (codes "u") (version 0 (codes "2.0") ∷ version 1 (codes "1.0") ∷ []) ∷ [])
    (spec (named (codes "t")) ∷ [])) {
      database = kept (codes "hu") (codes "u") (codes "1.0") [] ∷ kept (codes "ht") (codes "t") (codes "1")
          (dependency (codes "hu") to_run [] ∷ [])
          ∷ [];
    }

abbrev pub with_run_graph : Content
with_run_graph = graph
    (installed (codes "ht") (codes "t") (codes "1") ∷ installed (codes "hu") (codes "u") (codes "1.0") ∷ [])
    (edge (codes "t") (codes "u") to_run ∷ [])

abbrev pub without_run_graph : Content
without_run_graph = graph (installed (codes "ht") (codes "t") (codes "1") ∷ []) []

-- ---- an external child

abbrev pub with_external : Problem
with_external = record (problem (app ∷ two_zlibs ∷ []) (spec (named (codes "app")) ∷ [])) {
  settings = record standard {
    packages = record {
      name = codes "zlib";
      versions = [];
      buildable = true;
      externals = record { version = codes "1.2.11"; variants = []; compiler = None; os = None; target = None; prefix = codes "/usr" } ∷ [];
      require = [];
    } ∷ [];
  };
}

abbrev pub external_graph : Content
external_graph = graph
    (built (codes "app") (codes "1") [] ∷ record (built (codes "zlib") (codes "1.2.11") []) {
      compiler = None;
      prefix =
          Some (codes "/usr");
      origin = External 0;
    } ∷ [])
    (edge (codes "app") (codes "zlib") to_build_and_link ∷ [])

-- ---- the same, where a newer child is asked for

abbrev pub with_newer : Problem
with_newer = record with_run {
  roots = record {
    top = named (codes "t");
    below =
        at (Range (Some (codes "2")) None ∷ []) (named (codes "u")) ∷ [];
  } ∷ [];
}

abbrev pub newer_graph : Content
newer_graph = graph (built (codes "t") (codes "1") [] ∷ built (codes "u") (codes "2.0") [] ∷ []) (edge (codes "t") (codes "u") to_run ∷ [])
