-- Records as they are written: what is read of them is they themselves.
use Rattle.std.specs.Prelude.{◌≡◌, true, ◌||◌, List, [], ◌∷◌, fold, Option, Some, None, All}
use Rattle.std.specs.Ordering.{match_ordering}
use Rattle.keyed_lists.specs.Keyed.{IsInOrder}
use Rattle.variant_values.specs.Texts.{byte_cmp, IsInByteOrder}
use Rattle.json_texts.specs.Forms.{name_meaning, value_meaning, version_in}
use Rattle.graph_core.specs.Graphs.{Text}
use Rattle.graph_core.specs.declared.node.Compiler.{Compiler}
use Rattle.graph_core.specs.declared.node.Kinds.{Kinds}
use Rattle.graph_core.specs.declared.node.Origin.{Origin}
use Rattle.graph_core.specs.declared.node.Origin.TheVariants.{Built, External, Installed}
use Rattle.record_reader.specs.Texts.{hash_meaning}
use Rattle.reuse_db.specs.declared.record.Dependency.{Dependency}
use Rattle.reuse_db.specs.declared.record.Record.{Record}

-- the text has the form, and means itself
abbrev pub Has : (Text → Option Text) → Text → Type 0
Has means text = means text ≡ Some text

abbrev pub IsCompiler : Option Compiler → Type 0
IsCompiler None = Unit {0}
IsCompiler (Some compiler) = Has name_meaning compiler.name × Has version_in compiler.version

-- a name with at least one value, in byte order
pub record IsVariant (variant : Text × List Text) : Type 0 where
  pub name : Has name_meaning variant.0
  pub some : variant.1 ≡ [] → ⊥
  pub order : IsInByteOrder variant.1
  pub values : All (Has value_meaning) variant.1

-- at least one of the kinds
abbrev pub HasKind : Kinds → Type 0
HasKind kinds = (kinds.build || kinds.link || kinds.run) ≡ true

-- names, in byte order
pub record AreVirtuals (virtuals : List Text) : Type 0 where
  pub order : IsInByteOrder virtuals
  pub names : All (Has name_meaning) virtuals

-- a hash with at least one kind, and names of virtuals
pub record IsDependency (dependency : Dependency) : Type 0 where
  pub hash : Has hash_meaning dependency.hash
  pub kind : HasKind dependency.kinds
  pub virtuals : AreVirtuals dependency.virtuals

-- a record of its form, whose variants are in order
pub record IsRecord (entry : Record) : Type 0 where
  pub hash : Has hash_meaning entry.hash
  pub name : Has name_meaning entry.name
  pub version : Has version_in entry.version
  pub os : Has value_meaning entry.os
  pub target : Has value_meaning entry.target
  pub compiler : IsCompiler entry.compiler
  pub variants : All IsVariant entry.variants
  pub variant_order : IsInOrder byte_cmp (λ v. v.0) entry.variants
  pub dependencies : All IsDependency entry.dependencies

-- ---- dependencies in byte order of their hashes

abbrev pub placed : Dependency → List Dependency → List Dependency
placed d [] = d ∷ []
placed d (e ∷ es) = match_ordering (byte_cmp d.hash e.hash) (d ∷ e ∷ es) (d ∷ es) (e ∷ placed d es)

abbrev pub by_hash : List Dependency → List Dependency
by_hash dependencies = fold (λ sorted d. placed d sorted) [] dependencies

abbrev pub sorted : Record → Record
sorted entry = record entry { dependencies = by_hash entry.dependencies }

-- an installed node has the hash of its record
abbrev pub IsOwn : Origin → Text → Type 0
IsOwn Built hash = Unit {0}
IsOwn (External entry) hash = Unit {0}
IsOwn (Installed installed) hash = installed ≡ hash
