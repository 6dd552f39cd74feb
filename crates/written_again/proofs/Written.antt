-- The lock file of a valid graph is read again as that graph.
use Rattle.std.proofs.Common.{◌≡◌, ℕ, true, List, All}
use Rattle.std.specs.Str.{IsUtf8}
use Rattle.std.proofs.lemmas.List.Elements.{All-weaker}
use Rattle.json_readers.specs.Json.{IsJson}
use Rattle.spec_grammar.specs.Canonical.{spec_text}
use Rattle.spec_grammar.specs.declared.part.Spec.{Spec}
use Rattle.graph_core.specs.Graphs.{Content, IsGraph}
use Rattle.graph_core.specs.declared.node.Node.{Node}
use Rattle.graph_core.specs.declared.node.Origin.{Origin}
use Rattle.graph_core.specs.declared.node.Origin.TheVariants.{Built, External, Installed}
use Rattle.reuse_db.specs.Databases.{AreRecords}
use Rattle.reuse_db.specs.declared.record.Record.{Record}
use Rattle.lock_writer.specs.Texts.{CanBeWritten, IsRecorded, lock_data}
use Rattle.lockfile.specs.Locks.{IsLock}
use Rattle.lockfile.specs.Writable.{IsAsInstalled, IsWritable, lock_of}
use Rattle.problem.specs.Nodes.{IsWellFormed}
use Rattle.problem.specs.Problems.{Problem}
use Rattle.graph_rules.specs.Valid.{valid}
use Rattle.lock_laws.specs.Forms.{IsFormedProblem}
use Rattle.written_again.specs.Again.{AreApart}
use Rattle.written_again.proofs.Roots.{named}

-- what `lock_laws` says of valid graphs
abbrev pub Writes : Type 0
Writes = (problem : Problem) (graph : Content) → IsFormedProblem problem → IsWellFormed graph → valid problem graph ≡ true → AreApart graph
    → IsWritable graph problem.database

-- what `lockfile` says of writable ones
abbrev pub ReadsAgain : Type 0
ReadsAgain = (g : Content) (records : List Record) (roots : List Spec) → IsGraph g → AreRecords records → CanBeWritten g records roots
    → IsWritable g records → (text : List ℕ) → IsJson text (lock_data g records roots) → IsLock text (lock_of g roots)

recorded : (g : Content) (records : List Record) (node : Node) (origin : Origin) → IsAsInstalled g records node origin
    → IsRecorded records origin
recorded g records node Built is = tt
recorded g records node (External entry) is = tt
recorded g records node (Installed hash) is = (is.0, is.1)

-- what is writable can be written with roots that are nodes
can : (problem : Problem) (graph : Content) → valid problem graph ≡ true → All (λ spec. IsUtf8 (spec_text spec)) problem.roots
    → IsWritable graph problem.database → CanBeWritten graph problem.database problem.roots
can problem graph v texts writable = record {
  acyclic = writable.acyclic;
  named = named problem graph v;
  texts = texts;
  installed = All-weaker (λ (node : Node). IsAsInstalled graph problem.database node node.origin)
      (λ (node : Node). IsRecorded problem.database node.origin)
      (λ node. recorded graph problem.database node node.origin) graph.nodes writable.installed;
}

-- each text of the value that is written for a valid graph is read as that graph
pub read_again : Writes → ReadsAgain → (problem : Problem) (graph : Content) → IsFormedProblem problem → AreRecords problem.database
    → IsWellFormed graph → valid problem graph ≡ true → All (λ spec. IsUtf8 (spec_text spec)) problem.roots → AreApart graph
    → (text : List ℕ) → IsJson text (lock_data graph problem.database problem.roots) → IsLock text (lock_of graph problem.roots)
read_again writes reads problem graph formed right whole v texts apart text json =
    let writable = writes problem graph formed whole v apart in
    reads graph problem.database problem.roots whole.is_graph right (can problem graph v texts writable) writable text json
