-- Nodes and providers of a file that was written are those of the graph.
use Rattle.std.proofs.Common.{◌≡◌, refl, ap, ◌∙◌, List, [], ◌∷◌, map, Contains, option_map}
use Rattle.reachability.proofs.CountLaws.{has_first, has_later}
use Rattle.variant_values.specs.Texts.{byte_cmp}
use Rattle.keyed_lists.specs.Keyed.{find_key}
use Rattle.spec_grammar.specs.declared.part.Spec.{Spec}
use Rattle.graph_core.specs.Graphs.{Text, Content, name_of, node_of, provider_of}
use Rattle.graph_core.specs.declared.node.Node.{Node}
use Rattle.reuse_db.specs.declared.record.Record.{Record}
use Rattle.lockfile.specs.Formed.{locked, locked_file}
use Rattle.lockfile.specs.Locks.{IsLockOf, graph_node, graph_nodes}
use Rattle.lockfile.specs.declared.lock.Lock.{Lock}

-- nodes that are each as they were are the same list
pub same_nodes : (g : Content) (records : List Record) (nodes : List Node)
    → ((node : Node) → Contains nodes node → graph_node (locked g records node) ≡ node) → graph_nodes (map (locked g records) nodes) ≡ nodes
same_nodes g records [] each = refl
same_nodes g records (node ∷ nodes) each =
    rw (each node (has_first node nodes), same_nodes g records nodes (λ n has. each n (has_later node nodes n has))) refl

-- the nodes are read again
pub nodes_again : (g : Content) (records : List Record) (roots : List Spec) (lock : Lock) → IsLockOf (locked_file g records roots) lock
    → ((node : Node) → Contains g.nodes node → graph_node (locked g records node) ≡ node)
    → (name : Text) → node_of lock.graph name ≡ node_of g name
nodes_again g records roots lock is each name =
    is.graph.nodes name ∙ ap (λ ns. find_key byte_cmp name_of ns name) (same_nodes g records g.nodes each)

-- the providers are read again
pub providers_again : (g : Content) (records : List Record) (roots : List Spec) (lock : Lock) → IsLockOf (locked_file g records roots) lock
    → (name : Text) → provider_of lock.graph name ≡ provider_of g name
providers_again g records roots lock is name = ap (λ o. option_map (λ (p : Text × Text). p.1) o) (is.graph.providers name)
