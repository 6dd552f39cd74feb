-- The rules of a node to build, apart from directives: each is said of one node.
use Rattle.std.specs.Prelude.{Bool, ◌&&◌, List, [], map, filter, length, is_some}
use Rattle.std.specs.List.{list_any, list_all}
use Rattle.std.specs.Str.{bytes_eq}
use Rattle.std.specs.Cmp.Lexicographic.{pointwise}
use Rattle.problem.specs.OfVariantValues.Texts.{with_texts}
use Rattle.problem.specs.OfGraphCore.Graphs.{Text, Content, edges_from}
use Rattle.problem.specs.OfConditionRules.Words.{is_one_text, includes, if_written, is_some_and}
use Rattle.problem.specs.Nodes.{has_kind, covers}
use Rattle.problem.specs.OfGraphCore.Node.{Node}
use Rattle.problem.specs.OfGraphCore.Edge.{Edge}
use Rattle.problem.specs.OfGraphCore.Kinds.{Kinds}
use Rattle.problem.specs.OfConditionRules.Holds.{governing}
use Rattle.problem.specs.OfRecipeData.VariantRow.{VariantRow}
use Rattle.problem.specs.OfRecipeData.DependRow.{DependRow}
use Rattle.problem.specs.OfRecipeData.Right.{is_count_of}
use Rattle.problem.specs.OfVirtuals.Virtuals.{is_virtual}
use Rattle.problem.specs.Problems.{world_of, recipe_at, versions_at, variants_at, depends_at, package_entry_of, is_buildable_in, same_compiler, applies, asked_by, Problem}
use Rattle.problem.specs.OfSiteSettings.CompilerEntry.{CompilerEntry}

-- Buildable: its package has a recipe, and is buildable by the settings
unfoldable pub keeps_buildable : Problem → Node → Bool
keeps_buildable problem node = is_some (recipe_at problem node.name) && is_buildable_in (package_entry_of problem node.name)

-- Version: its version is declared
unfoldable pub keeps_version : Problem → Node → Bool
keeps_version problem node = list_any (λ row. bytes_eq row.version node.version) (versions_at problem node.name)

-- ---- Variant

-- the variants with a governing definition, each once and in byte order
abbrev pub governed : Problem → Content → Node → List Text
governed problem graph node =
    with_texts [] (map (λ row. row.name) (filter (λ row. applies problem graph row.when node) (variants_at problem node.name)))

-- the values are allowed, and as many as the kind takes
abbrev pub allows : List Text → VariantRow → Bool
allows values row = includes row.values values && is_count_of row.kind (length values)

-- its variants are those with a governing definition
abbrev pub has_governed : Problem → Content → Node → Bool
has_governed problem graph node = pointwise bytes_eq (map (λ v. v.0) node.variants) (governed problem graph node)

-- a governing definition allows the values
abbrev pub is_allowed : Problem → Content → Node → (Text × List Text) → Bool
is_allowed problem graph node v = is_some_and (governing (world_of problem) graph node.name v.0) (allows v.1)

-- Variant: its variants are exactly those with a governing definition, which allows their values
unfoldable pub keeps_variant : Problem → Content → Node → Bool
keeps_variant problem graph node = has_governed problem graph node && list_all (is_allowed problem graph node) node.variants

-- ---- Compiler and Machine

abbrev pub supports : CompilerEntry → Node → Bool
supports entry node = if_written entry.os (λ names. is_one_text names node.os)
    && if_written entry.targets (λ names. is_one_text names node.target)

-- Compiler: it has a compiler of the settings, which supports its OS and its target
unfoldable pub keeps_compiler : Problem → Node → Bool
keeps_compiler problem node =
    is_some_and node.compiler (λ compiler. list_any (λ entry. same_compiler entry.compiler compiler && supports entry node)
    problem.settings.compilers)

-- Machine: its OS and its target are in the settings
unfoldable pub keeps_machine : Problem → Node → Bool
keeps_machine problem node =
    is_one_text problem.settings.os node.os && list_any (λ entry. bytes_eq entry.name node.target) problem.settings.targets

-- ---- ExtraEdge

-- the row of `depends_on` holds at the node and asks for this child
abbrev pub asks : Problem → Content → Node → Text → DependRow → Bool
asks problem graph node child row = applies problem graph row.when node
    && is_some_and (asked_by problem graph row) (λ asked. bytes_eq asked.name child)

abbrev pub asking : Problem → Content → Node → Text → List DependRow
asking problem graph node child = filter (asks problem graph node child) (depends_at problem node.name)

abbrev pub asked_kinds : List DependRow → Kinds
asked_kinds rows = record {
  build = list_any (λ row. row.kinds.build) rows;
  link = list_any (λ row. row.kinds.link) rows;
  run =
      list_any (λ row. row.kinds.run) rows;
}

-- the row of `depends_on` asks for this virtual
abbrev pub names_virtual : Problem → Text → DependRow → Bool
names_virtual problem virtual row = is_virtual problem.recipes virtual && is_some_and row.part.name (bytes_eq virtual)

-- some row that holds asks for this virtual, of which the child is the provider
abbrev pub is_asked_virtual : Problem → Content → Node → Text → Text → Bool
is_asked_virtual problem graph node child virtual = list_any (names_virtual problem virtual) (asking problem graph node child)

-- an edge of a built node has a kind, and no kind and no virtual that none asks for
abbrev pub is_asked : Problem → Content → Node → Edge → Bool
is_asked problem graph node e =
    has_kind e.kinds && covers (asked_kinds (asking problem graph node e.child)) e.kinds
    && list_all (is_asked_virtual problem graph node e.child) e.virtuals

-- ExtraEdge: each edge, each kind on it and each virtual that it names is asked for
unfoldable pub keeps_extra_edge : Problem → Content → Node → Bool
keeps_extra_edge problem graph node = list_all (is_asked problem graph node) (edges_from graph node.name)
