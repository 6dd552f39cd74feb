-- Edges that name virtuals: packages that need mpi, and records of one of them with and without the name.
use Rattle.std.specs.Prelude.{List, [], ◌∷◌, codes, None}
use Rattle.graph_core.specs.Graphs.{Text, Content}
use Rattle.graph_core.specs.declared.node.Node.{Node}
use Rattle.recipe_data.specs.declared.recipe.Recipe.{Recipe}
use Rattle.problem.specs.Problems.{Problem}
use Rattle.rule_rows.specs.Build.{named, spec, always, version, to_build_and_link, to_link, depends_on, recipe, standard, problem, built, edge, edge_naming, dependency, installed, kept}
use Rattle.rule_rows.specs.Rows.{realistic_graph}

abbrev pub mpi : List Text
mpi = codes "mpi" ∷ []

-- ---- the problems

-- t links mpi; app needs t and mpi
abbrev pub linking : Recipe
linking = record (recipe (codes "t") (version 0 (codes "1") ∷ [])) { depends = depends_on 1 (named (codes "mpi")) to_link always ∷ [] }

abbrev pub needing : Recipe
needing = record (recipe (codes "app") (version 0 (codes "1") ∷ [])) {
  depends = depends_on 1 (named (codes "t")) to_build_and_link always ∷ depends_on 2 (named (codes "mpi")) to_build_and_link always ∷ [];
}

abbrev pub providing : Text → Text → Recipe
providing name number = record (recipe name (version 0 number ∷ [])) {
  provides = record { name = codes "mpi"; versions = None; when = always; number = 1 } ∷ [];
}

-- mpich and t are installed, and the record of t says that mpich provides these to it; this package is asked for
abbrev pub with_record : List Text → Text → Problem
with_record virtuals root = record (problem
    (needing ∷ providing (codes "mpich") (codes "4.1.2") ∷ providing (codes "openmpi") (codes "4.1.6") ∷ linking ∷ [])
    (spec (named root) ∷ [])) {
      settings = record standard { providers = (codes "mpi", codes "openmpi" ∷ codes "mpich" ∷ []) ∷ [] };
      database = kept (codes "hm") (codes "mpich") (codes "4.1.2") []
          ∷ kept (codes "ht") (codes "t") (codes "1") (dependency (codes "hm") to_link virtuals ∷ []) ∷ [];
    }

-- the same, where the recipe of mpich no longer provides mpi
abbrev pub no_longer_provided : Problem
no_longer_provided = record (with_record mpi (codes "t")) {
  recipes =
      needing ∷ recipe (codes "mpich") (version 0 (codes "4.1.2") ∷ []) ∷ providing (codes "openmpi") (codes "4.1.6") ∷ linking ∷ [];
}

-- ---- the graphs

abbrev pub provided_by : Text → List (Text × Text)
provided_by name = (codes "mpi", name) ∷ []

abbrev pub installed_mpich : Node
installed_mpich = installed (codes "hm") (codes "mpich") (codes "4.1.2")

abbrev pub installed_t : Node
installed_t = installed (codes "ht") (codes "t") (codes "1")

-- t and mpich as they are installed, with an edge that names these
abbrev pub as_installed : List Text → List (Text × Text) → Content
as_installed virtuals providers = record {
  nodes = installed_mpich ∷ installed_t ∷ [];
  edges = edge_naming virtuals (codes "t") (codes "mpich") to_link ∷ [];
  providers = providers;
}

-- app over them, with edges to mpich that name these
abbrev pub over_installed : List Text → List Text → Content
over_installed own recorded = record {
  nodes = built (codes "app") (codes "1") [] ∷ installed_mpich ∷ installed_t ∷ [];
  edges = edge_naming own (codes "app") (codes "mpich") to_build_and_link ∷ edge (codes "app") (codes "t") to_build_and_link
      ∷ edge_naming recorded (codes "t") (codes "mpich") to_link ∷ [];
  providers = provided_by (codes "mpich");
}

-- app with openmpi, over the installed t and its mpich
abbrev pub beside_installed : List Text → Content
beside_installed recorded = record {
  nodes = built (codes "app") (codes "1") [] ∷ installed_mpich ∷ built (codes "openmpi") (codes "4.1.6") [] ∷ installed_t ∷ [];
  edges = edge_naming mpi (codes "app") (codes "openmpi") to_build_and_link ∷ edge (codes "app") (codes "t") to_build_and_link
      ∷ edge_naming recorded (codes "t") (codes "mpich") to_link ∷ [];
  providers = provided_by (codes "openmpi");
}

-- app and t, both to be built with openmpi, with edges that name these
abbrev pub all_built : List Text → List Text → Content
all_built own other = record {
  nodes = built (codes "app") (codes "1") [] ∷ built (codes "openmpi") (codes "4.1.6") [] ∷ built (codes "t") (codes "1") [] ∷ [];
  edges = edge_naming own (codes "app") (codes "openmpi") to_build_and_link ∷ edge (codes "app") (codes "t") to_build_and_link
      ∷ edge_naming other (codes "t") (codes "openmpi") to_link ∷ [];
  providers = provided_by (codes "openmpi");
}

-- an edge that names a virtual which nobody asks of its child
abbrev pub name_not_asked_for : Content
name_not_asked_for = record realistic_graph {
  edges =
      edge_naming mpi (codes "hdf5") (codes "mpich") to_build_and_link
      ∷ edge_naming mpi (codes "hdf5") (codes "zlib") to_build_and_link ∷ [];
}

-- the edge of hdf5 to mpich names these
abbrev pub hdf5_naming : List Text → Content
hdf5_naming virtuals = record realistic_graph {
  edges =
      edge_naming virtuals (codes "hdf5") (codes "mpich") to_build_and_link
      ∷ edge (codes "hdf5") (codes "zlib") to_build_and_link ∷ [];
}
