-- Words to build problems and graphs with.
use Rattle.std.specs.Prelude.{ℕ, true, false, List, [], ◌∷◌, map, codes, Some, None}
use Rattle.version_order.specs.declared.item.Item.{Item as Range}
use Rattle.variant_values.specs.declared.kind.VariantKind.TheVariants as variant_kinds
use Rattle.spec_grammar.specs.Meaning.{empty_part}
use Rattle.spec_grammar.specs.declared.part.Part.{Part}
use Rattle.spec_grammar.specs.declared.part.Spec.{Spec}
use Rattle.graph_core.specs.Graphs.{Text, Content}
use Rattle.graph_core.specs.declared.node.Node.{Node}
use Rattle.graph_core.specs.declared.node.Edge.{Edge}
use Rattle.graph_core.specs.declared.node.Kinds.{Kinds}
use Rattle.graph_core.specs.declared.node.Compiler.{Compiler}
use Rattle.graph_core.specs.declared.node.Origin.TheVariants.{Built, Installed}
use Rattle.recipe_data.specs.OfSpecGrammar.Condition.{Condition}
use Rattle.recipe_data.specs.declared.recipe.Recipe.{Recipe}
use Rattle.recipe_data.specs.declared.recipe.VersionRow.{VersionRow}
use Rattle.recipe_data.specs.declared.recipe.VariantRow.{VariantRow}
use Rattle.recipe_data.specs.declared.recipe.DependRow.{DependRow}
use Rattle.problem.specs.Problems.{Problem}
use Rattle.site_settings.specs.declared.settings.Settings.{Settings}
use Rattle.reuse_db.specs.declared.record.Dependency.{Dependency}
use Rattle.reuse_db.specs.declared.record.Record.{Record}

-- ---- specs

abbrev pub named : Text → Part
named name = empty_part (Some name)

abbrev pub spec : Part → Spec
spec part = record { top = part; below = [] }

-- `+v`
abbrev pub on : Text → Part → Part
on v part = record part { variants = (v, codes "true" ∷ []) ∷ [] }

abbrev pub at : List Range → Part → Part
at items part = record part { versions = Some items }

abbrev pub always : Condition
always = record { specs = [] }

abbrev pub when : Part → Condition
when part = record { specs = spec part ∷ [] }

-- ---- recipes

abbrev pub version : ℕ → Text → VersionRow
version number text = record { version = text; preferred = false; deprecated = false; number = number }

-- a variant that is on or off
abbrev pub flag : ℕ → Text → Text → VariantRow
flag number name default = record {
  name = name;
  kind = variant_kinds.Bool;
  values = codes "false" ∷ codes "true" ∷ [];
  default = default ∷ [];
  when = always;
  number = number;
}

abbrev pub to_build_and_link : Kinds
to_build_and_link = record { build = true; link = true; run = false }

abbrev pub to_link : Kinds
to_link = record { build = false; link = true; run = false }

abbrev pub to_run : Kinds
to_run = record { build = false; link = false; run = true }

abbrev pub depends_on : ℕ → Part → Kinds → Condition → DependRow
depends_on number part kinds condition = record { part = part; kinds = kinds; when = condition; number = number }

abbrev pub recipe : Text → List VersionRow → Recipe
recipe name versions = record {
  name = name;
  versions = versions;
  variants = [];
  depends = [];
  provides = [];
  conflicts =
      [];
  requirements = [];
}

-- ---- problems

abbrev pub compiler : Text → Compiler
compiler version = record { name = codes "gcc"; version = version }

abbrev pub standard : Settings
standard = record {
  platform = codes "linux";
  conflict_budget = 18446744073709551615;
  os = codes "ubuntu22.04" ∷ [];
  targets = record { name = codes "x86_64"; parents = [] } ∷ [];
  compilers = record { compiler = compiler (codes "12.3.0"); os = None; targets = None } ∷ [];
  providers = [];
  provided_together = false;
  packages = [];
}

abbrev pub problem : List Recipe → List Spec → Problem
problem recipes roots = record { recipes = recipes; settings = standard; database = []; roots = roots }

-- the same with other roots, each of one part
abbrev pub with_roots : List Part → Problem → Problem
with_roots parts p = record p { roots = map spec parts }

-- ---- graphs

abbrev pub built : Text → Text → List (Text × List Text) → Node
built name version variants = record {
  name = name;
  version = version;
  variants = variants;
  compiler = Some (compiler (codes "12.3.0"));
  os = codes "ubuntu22.04";
  target = codes "x86_64";
  prefix = None;
  origin = Built;
}

abbrev pub is_on : Text → (Text × List Text)
is_on v = (v, codes "true" ∷ [])

abbrev pub is_off : Text → (Text × List Text)
is_off v = (v, codes "false" ∷ [])

abbrev pub edge : Text → Text → Kinds → Edge
edge parent child kinds = record { parent = parent; child = child; kinds = kinds; virtuals = [] }

-- an edge that names virtuals
abbrev pub edge_naming : List Text → Text → Text → Kinds → Edge
edge_naming virtuals parent child kinds = record (edge parent child kinds) { virtuals = virtuals }

abbrev pub graph : List Node → List Edge → Content
graph nodes edges = record { nodes = nodes; edges = edges; providers = [] }

abbrev pub installed : Text → Text → Text → Node
installed hash name version = record (built name version []) { origin = Installed hash }

-- what a record needs, and what that provides to it
abbrev pub dependency : Text → Kinds → List Text → Dependency
dependency hash kinds virtuals = record { hash = hash; kinds = kinds; virtuals = virtuals }

-- a record without variants
abbrev pub kept : Text → Text → Text → List Dependency → Record
kept hash name version dependencies = record {
  hash = hash;
  name = name;
  version = version;
  variants = [];
  compiler = Some (compiler (codes "12.3.0"));
  os = codes "ubuntu22.04";
  target = codes "x86_64";
  external = None;
  dependencies = dependencies;
}
