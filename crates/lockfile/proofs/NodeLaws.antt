-- A node, written and read.
use Rattle.std.proofs.Common.{◌≡◌, refl, sym, ap, ◌∙◌, true, Option, Some, None, Ok, List, All, codes}
use Rattle.serde_json.specs.Data.{array}
use Rattle.json_readers.specs.Objects.{null_or}
use Rattle.json_readers.specs.Sets.{set_of}
use Rattle.json_readers.specs.Texts.{text_of}
use Rattle.graph_core.specs.Graphs.{Text}
use Rattle.graph_core.specs.declared.node.Compiler.{Compiler}
use Rattle.graph_core.specs.declared.node.Origin.{Origin}
use Rattle.graph_core.specs.declared.node.Origin.TheVariants.{Built, External, Installed}
use Rattle.record_reader.specs.Records.{back_at, compiler_at, dependency_at, front_at, middle_at}
use Rattle.reuse_db.specs.Canonical.{canonical, compiler_data, dependency_members, external_data, right_hash, values_of}
use Rattle.reuse_db.specs.declared.record.Dependency.{Dependency}
use Rattle.reuse_db.specs.declared.record.Record.{Record}
use Rattle.lock_writer.specs.Texts.{node_data}
use Rattle.lockfile.specs.Again.{IsCompiler, IsDependency, IsOwn, IsRecord, by_hash, sorted}
use Rattle.lockfile.specs.Files.{body_at, head_at, node_at}
use Rattle.lockfile.proofs.OrderLaws.{in_order, same_members, still}
use Rattle.lockfile.proofs.PartLaws.{dependencies_again, variants_again}

-- the hash does not see the order of dependencies
pub same_hash : (entry : Record) → right_hash (sorted entry) ≡ right_hash entry
unfolding canonical
same_hash entry = rw (same_members entry.dependencies) refl

compiler_again : (compiler : Option Compiler) → IsCompiler compiler → null_or compiler_at (compiler_data compiler) ≡ Ok compiler
unfolding compiler_at
compiler_again None fit = refl
compiler_again (Some compiler) fit = rw (fit.0, fit.1) refl

external_again : (external : Option Text) → null_or (text_of Some) (external_data external) ≡ Ok external
external_again None = refl
external_again (Some prefix) = refl

dependencies_sorted : (dependencies : List Dependency) → All IsDependency dependencies
    → set_of Some (Some (codes "hash")) (dependency_at true) (array (values_of (dependency_members dependencies)))
    ≡ Ok (by_hash dependencies)
dependencies_sorted dependencies each =
    ap (λ ms. set_of Some (Some (codes "hash")) (dependency_at true) (array (values_of ms))) (sym (same_members dependencies))
    ∙ dependencies_again (by_hash dependencies) (still IsDependency dependencies each) (in_order dependencies)

-- a node is read as it was written
pub node_again : (entry : Record) (origin : Origin) → IsRecord entry → IsOwn origin entry.hash
    → node_at true (node_data entry origin) ≡ Ok (record { described = sorted entry; origin = origin })
unfolding node_at head_at body_at front_at middle_at back_at node_data
node_again entry Built fit own =
    rw (
      compiler_again entry.compiler fit.compiler,
      dependencies_sorted entry.dependencies fit.dependencies,
      external_again entry.external,
      fit.hash,
      fit.name,
      fit.os,
      fit.target,
      variants_again entry.variants fit.variants fit.variant_order,
      fit.version,
    ) refl
node_again entry (External place) fit own =
    rw (
      compiler_again entry.compiler fit.compiler,
      dependencies_sorted entry.dependencies fit.dependencies,
      external_again entry.external,
      fit.hash,
      fit.name,
      fit.os,
      fit.target,
      variants_again entry.variants fit.variants fit.variant_order,
      fit.version,
    ) refl
node_again entry (Installed hash) fit own =
    rw (
      compiler_again entry.compiler fit.compiler,
      dependencies_sorted entry.dependencies fit.dependencies,
      external_again entry.external,
      fit.hash,
      fit.name,
      fit.os,
      fit.target,
      variants_again entry.variants fit.variants fit.variant_order,
      fit.version,
      own,
    ) refl
