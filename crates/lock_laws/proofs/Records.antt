-- Installed nodes, and their records.
use Rattle.std.proofs.Common.{◌≡◌, Some}
use Rattle.std.specs.Str.{bytes_eq}
use Rattle.graph_core.specs.Graphs.{Text}
use Rattle.graph_core.specs.declared.node.Origin.TheVariants.{Installed}
use Rattle.reuse_db.specs.declared.record.Record.{Record}
use Rattle.problem.specs.Problems.{Problem, record_at}
use Rattle.reuse_db.specs.Installed.{installed_node}
use Rattle.graph_rules.proofs.Lists.{find-in}
use Rattle.lockfile.specs.Again.{IsRecord}
use Rattle.lockfile.specs.Writable.{AreDependencies, HasForms}
use Rattle.lock_laws.specs.Forms.{IsFormedProblem}
use Rattle.lock_laws.proofs.Each.{all-each}

-- the node of a record has the record's forms
pub recorded-forms : (entry : Record) (hash : Text) → IsRecord entry → HasForms (record (installed_node entry) { origin = Installed hash })
unfolding installed_node
recorded-forms entry hash is = record {
  name = is.name;
  version = is.version;
  os = is.os;
  target = is.target;
  compiler = is.compiler;
  variants = is.variants;
  variant_order = is.variant_order;
}

-- a record of the database has its forms
pub record-is : (problem : Problem) → IsFormedProblem problem → (hash : Text) (entry : Record) → record_at problem hash ≡ Some entry
    → IsRecord entry × AreDependencies entry.dependencies
unfolding record_at
record-is problem formed hash entry e =
    let r = find-in (λ (x : Record). bytes_eq x.hash hash) problem.database entry e in (
      all-each IsRecord problem.database entry formed.database r.0,
      all-each (λ (x : Record). AreDependencies x.dependencies) problem.database entry formed.dependencies r.0,
    )
