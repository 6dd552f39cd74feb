-- A valid graph is read again as itself.
use Rattle.std.proofs.Common.{◌≡◌, refl, sym, ap, subst, ◌∙◌, true, [], Contains, Some}
use Rattle.std.proofs.lemmas.Bool.{and_from}
use Rattle.reachability.specs.Paths.{IsAcyclic}
use Rattle.graph_core.specs.Graphs.{Content, IsGraph, Text, node_of}
use Rattle.graph_core.specs.Paths.{JoinedIn}
use Rattle.graph_core.specs.declared.node.Node.{Node}
use Rattle.graph_core.specs.declared.node.Origin.{Origin}
use Rattle.graph_core.specs.declared.node.Origin.TheVariants.{Built, External, Installed}
use Rattle.reuse_db.specs.declared.record.Record.{Record}
use Rattle.problem.specs.Nodes.{IsWellFormed}
use Rattle.problem.specs.Problems.{Problem, record_at}
use Rattle.graph_rules.specs.Kept.{keeps_kept, keeps_origin}
use Rattle.reuse_db.specs.Installed.{installed_node}
use Rattle.graph_rules.specs.Valid.{keeps, valid}
use Rattle.graph_rules.specs.Whole.{keeps_no_cycle}
use Rattle.graph_rules.specs.declared.rule.Rule.TheVariants as rules
use Rattle.graph_rules.proofs.KeptLaws.{external-is, installed-is}
use Rattle.graph_rules.proofs.Lists.{In, list_all-each, list_all-from, some-and}
use Rattle.graph_rules.proofs.ValidLaws.{rule-of}
use Rattle.lock_writer.specs.Hashes.{hash_over, node_hash}
use Rattle.lock_writer.specs.Tests.{is_off_cycles, is_recorded}
use Rattle.lock_writer.proofs.TestLaws.{told}
use Rattle.lockfile.specs.Locks.{graph_node}
use Rattle.lockfile.specs.Writable.{HasForms, IsAsInstalled, IsWritable}
use Rattle.lock_laws.specs.Forms.{IsFormedProblem}
use Rattle.lock_laws.proofs.BuiltNodes.{built-forms}
use Rattle.lock_laws.proofs.Children.{same-children}
use Rattle.lock_laws.proofs.Each.{all-from}
use Rattle.lock_laws.proofs.Edges.{kinds, named, provided}
use Rattle.lock_laws.proofs.Externals.{external-forms}
use Rattle.lock_laws.proofs.Records.{record-is, recorded-forms}

-- each node has the hash that the hashes of its children give it, where there is no cycle
abbrev pub HashesAreOver : Type 0
HashesAreOver = (g : Content) (name : Text) (node : Node) → IsGraph g → IsAcyclic (JoinedIn g) → node_of g name ≡ Some node
    → node_hash g name ≡ hash_over g (node_hash g) node

module _ (hashes : HashesAreOver) (problem : Problem) (graph : Content) (formed : IsFormedProblem problem) (right : IsWellFormed graph)
    (v : valid problem graph ≡ true) where
  kept-at : (node : Node) → In node graph.nodes → (origin : Origin) → node.origin ≡ origin → keeps_origin problem graph node origin ≡ true
  unfolding keeps keeps_kept
  kept-at node there origin e = ap (keeps_origin problem graph node) (sym e)
      ∙ list_all-each (keeps_kept problem graph) graph.nodes node (rule-of problem graph rules.Kept v) there

  kept-node : (node : Node) → In node graph.nodes → keeps_kept problem graph node ≡ true
  unfolding keeps
  kept-node node there = list_all-each (keeps_kept problem graph) graph.nodes node (rule-of problem graph rules.Kept v) there

  -- ---- no cycle

  recorded-by : (node : Node) (origin : Origin) → keeps_origin problem graph node origin ≡ true → is_recorded problem.database origin ≡ true
  unfolding record_at
  recorded-by node Built h = refl
  recorded-by node (External place) h = refl
  recorded-by node (Installed hash) h = let entry = some-and (record_at problem hash) _ h in rw entry.1 refl

  off-cycles : (node : Node) → In node graph.nodes → is_off_cycles graph node ≡ true
  unfolding keeps keeps_no_cycle
  off-cycles node there = list_all-each (keeps_no_cycle graph) graph.nodes node (rule-of problem graph rules.Cycle v) there

  acyclic : IsAcyclic (JoinedIn graph)
  acyclic = ((told graph right.is_graph problem.database []).0
      (and_from _ _ (and_from _ _ (and_from _ _
      (list_all-from (λ (node : Node). is_recorded problem.database node.origin) graph.nodes
      (λ node there. recorded-by node node.origin (kept-at node there node.origin refl))) refl) refl)
      (list_all-from (is_off_cycles graph) graph.nodes off-cycles))).acyclic

  hashed : (name : Text) (node : Node) → node_of graph name ≡ Some node → node_hash graph name ≡ hash_over graph (node_hash graph) node
  hashed name node e = hashes graph name node right.is_graph acyclic e

  -- ---- nodes

  forms-by : (node : Node) → In node graph.nodes → (origin : Origin) → node.origin ≡ origin → HasForms node
  forms-by node there Built e = built-forms problem graph formed right v node there e
  forms-by node there (External place) e =
      let is = external-is problem graph node place (kept-node node there) e in
      subst HasForms (sym is.2) (external-forms problem formed node.name place is.0 is.1)
  forms-by node there (Installed hash) e =
      let is = installed-is problem graph node hash (kept-node node there) e in
      subst HasForms (sym is.3) (recorded-forms is.0 hash (record-is problem formed hash is.0 is.1).0)

  same-node : (node : Node) (hash : Text) (entry : Record) → node ≡ record (installed_node entry) { origin = Installed hash }
      → graph_node (record { described = entry; origin = node.origin }) ≡ node
  unfolding installed_node
  same-node node hash entry e = ap (λ (n : Node). graph_node (record { described = entry; origin = n.origin })) e ∙ sym e

  installed-by : (node : Node) → In node graph.nodes → (origin : Origin) → node.origin ≡ origin
      → IsAsInstalled graph problem.database node origin
  unfolding record_at
  installed-by node there Built e = tt
  installed-by node there (External place) e = tt
  installed-by node there (Installed hash) e =
      let is = installed-is problem graph node hash (kept-node node there) e in (
        is.0,
        is.1,
        record {
          same = same-node node hash is.0 is.3;
          edges = same-children problem graph right.is_graph hashed node hash is.0 is.1 (kept-at node there (Installed hash) e);
          form = (record-is problem formed hash is.0 is.1).1;
        },
      )

  pub writable : ((a b : Node) → Contains graph.nodes a → Contains graph.nodes b → node_hash graph a.name ≡ node_hash graph b.name → a ≡ b)
      → IsWritable graph problem.database
  writable apart = record {
    acyclic = acyclic;
    apart = apart;
    forms = all-from HasForms graph.nodes (λ node there. forms-by node there node.origin refl);
    virtuals = provided problem graph formed right v hashed;
    kinds = kinds problem graph formed right v hashed;
    named = named problem graph formed right v hashed;
    installed = all-from (λ (node : Node). IsAsInstalled graph problem.database node node.origin) graph.nodes
        (λ node there. installed-by node there node.origin refl);
  }
