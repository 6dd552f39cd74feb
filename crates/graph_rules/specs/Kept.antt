-- The rule of kept nodes: externals meet their entry, and installed ones their record.
use Rattle.std.specs.Prelude.{Bool, false, ◌&&◌, ℕ, List, [], ◌∷◌, ◌++◌, map, find, slice_get, Option, Some, None, is_none, unwrap_or}
use Rattle.std.specs.List.{list_any, list_all}
use Rattle.std.specs.Str.{bytes_eq}
use Rattle.std.specs.Cmp.Lexicographic.{pointwise}
use Rattle.std.specs.Option.{option_eq}
use Rattle.problem.specs.OfVariantValues.Texts.{with_texts}
use Rattle.problem.specs.OfGraphCore.Graphs.{Text, Content, node_of, edge_of, edges_from, provider_of}
use Rattle.problem.specs.OfConditionRules.Words.{is_some_and, find_last}
use Rattle.problem.specs.Nodes.{is_installed, covers}
use Rattle.problem.specs.OfGraphCore.Node.{Node}
use Rattle.problem.specs.OfGraphCore.Edge.{Edge}
use Rattle.problem.specs.OfGraphCore.Kinds.{Kinds}
use Rattle.problem.specs.OfGraphCore.Origin.{Origin}
use Rattle.problem.specs.OfGraphCore.OriginVariants.{Built, External, Installed}
use Rattle.problem.specs.OfRecipeData.VariantRow.{VariantRow}
use Rattle.problem.specs.Problems.{variants_at, package_entry_of, externals_in, same_compiler, record_at, Problem}
use Rattle.problem.specs.OfSiteSettings.ExternalEntry.{ExternalEntry}
use Rattle.problem.specs.OfReuseDb.Dependency.{Dependency}
use Rattle.problem.specs.OfReuseDb.Record.{Record}
use Rattle.problem.specs.OfReuseDb.Installed.{installed_node}
use Rattle.problem.specs.Records.{kept_dependencies}

-- ---- attributes

abbrev pub Variants : Type 0
Variants = List (Text × List Text)

abbrev pub same_variants : Variants → Variants → Bool
same_variants a b = pointwise (λ v w. bytes_eq v.0 w.0 && pointwise bytes_eq v.1 w.1) a b

-- the same in all but origin
unfoldable pub same_attributes : Node → Node → Bool
same_attributes a b =
    bytes_eq a.name b.name && bytes_eq a.version b.version && same_variants a.variants b.variants
    && option_eq same_compiler a.compiler b.compiler && bytes_eq a.os b.os && bytes_eq a.target b.target
    && option_eq bytes_eq a.prefix b.prefix

-- ---- externals

abbrev pub default_in : Option VariantRow → List Text
default_in None = []
default_in (Some row) = row.default

abbrev pub written_or : Option (Text × List Text) → List Text → List Text
written_or None default = default
written_or (Some v) default = v.1

-- what is written, and else the default of the last definition of the name, whatever its condition
abbrev pub completed : Variants → List VariantRow → Text → List Text
completed written rows name = written_or (find (λ v. bytes_eq v.0 name) written)
    (default_in (find_last (λ row. bytes_eq row.name name) rows))

abbrev pub first_text : List Text → Text
first_text [] = []
first_text (text ∷ more) = text

-- the node of an entry, in which what is not written is completed
unfoldable pub external_node : Problem → Text → ℕ → ExternalEntry → Node
external_node problem name place entry =
    let rows = variants_at problem name in
    record {
      name = name;
      version = entry.version;
      variants = map (λ v. (v, completed entry.variants rows v))
          (with_texts [] (map (λ v. v.0) entry.variants ++ map (λ row. row.name) rows));
      compiler = entry.compiler;
      os = unwrap_or entry.os (first_text problem.settings.os);
      target = unwrap_or entry.target (first_text (map (λ t. t.name) problem.settings.targets));
      prefix = Some entry.prefix;
      origin = External place;
    }

-- ---- installed nodes

-- an edge has the kinds link and run alone, as recorded
abbrev pub has_kinds : Kinds → Edge → Bool
has_kinds kinds e = let kept : Kinds = record kinds { build = false } in covers e.kinds kept && covers kept e.kinds

-- and it names just the virtuals that are recorded
abbrev pub is_recorded : Dependency → Edge → Bool
is_recorded d e = has_kinds d.kinds e && pointwise bytes_eq e.virtuals d.virtuals

-- each of the virtuals has the package as its provider
abbrev pub are_provided : Content → Text → List Text → Bool
are_provided graph name virtuals = list_all (λ virtual. is_some_and (provider_of graph virtual) (λ p. bytes_eq p name)) virtuals

-- the child is there as the installed node of that hash, with its edge, and is the provider of what it is recorded to provide
abbrev pub keeps_child : Problem → Content → Text → Dependency → Bool
keeps_child problem graph name d =
    is_some_and (record_at problem d.hash) (λ child.
    is_some_and (node_of graph child.name) (is_installed d.hash) && is_some_and (edge_of graph name child.name) (is_recorded d)
    && are_provided graph child.name d.virtuals)

-- the edge goes to a child of the record
abbrev pub is_child : Problem → Record → Edge → Bool
is_child problem entry e = list_any (λ d. is_some_and (record_at problem d.hash) (λ child. bytes_eq child.name e.child))
    (kept_dependencies entry)

-- ---- the rule

abbrev pub keeps_origin : Problem → Content → Node → Origin → Bool
keeps_origin problem graph node Built = is_none node.prefix
keeps_origin problem graph node (External place) =
    is_some_and (slice_get (externals_in (package_entry_of problem node.name)) place)
    (λ entry. same_attributes node (external_node problem node.name place entry))
    && list_all (λ e. false) (edges_from graph node.name)
keeps_origin problem graph node (Installed hash) =
    is_some_and (record_at problem hash) (λ entry.
    same_attributes node (installed_node entry)
    && list_all (keeps_child problem graph node.name) (kept_dependencies entry)
    && list_all (is_child problem entry) (edges_from graph node.name))

-- Kept: a built node has no prefix, an external is its completed entry and has no edge, and an installed
-- node is its record, with edges exactly to the link and run children, and the virtuals that these provide
unfoldable pub keeps_kept : Problem → Content → Node → Bool
keeps_kept problem graph node = keeps_origin problem graph node node.origin
