-- A small problem, and its graphs.
use Rattle.std.specs.Prelude.{ℕ, [], ◌∷◌, false, Some, None, codes}
use Rattle.graph_core.specs.Graphs.{Text, Content}
use Rattle.graph_core.specs.declared.node.Node.{Node}
use Rattle.graph_core.specs.declared.node.Origin.TheVariants.{Built}
use Rattle.problem.specs.Problems.{Problem, problem_of}
use Rattle.recipe_data.specs.declared.recipe.VersionRow.{VersionRow}
use Rattle.site_settings.specs.Standard.{standard}

abbrev pub declared : Text → ℕ → VersionRow
declared version number = record { version = version; preferred = false; deprecated = false; number = number }

-- a package with two versions, and a root that asks for it, under the standard settings
abbrev pub worked : Problem
worked = problem_of
    (record {
      name = codes "a";
      versions = declared (codes "2") 0 ∷ declared (codes "1") 1 ∷ [];
      variants = [];
      depends = [];
      provides = [];
      conflicts = [];
      requirements = [];
    } ∷ [])
    standard []
    (record {
      top = record {
        name = Some (codes "a");
        versions = None;
        variants = [];
        compiler = None;
        platform = None;
        os = None;
        targets = None;
      };
      below = [];
    } ∷ [])

-- the package with this version, built with the first compiler for the first OS and target
abbrev pub node_of_version : Text → Node
node_of_version version = record {
  name = codes "a";
  version = version;
  variants = [];
  compiler = Some (record { name = codes "gcc"; version = codes "12.3.0" });
  os = codes "ubuntu22.04";
  target = codes "x86_64";
  prefix = None;
  origin = Built;
}

-- that node alone
abbrev pub of_version : Text → Content
of_version version = record { nodes = node_of_version version ∷ []; edges = []; providers = [] }
