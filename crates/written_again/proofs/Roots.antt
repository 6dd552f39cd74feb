-- The roots of the lock file of a valid graph are those that are asked for.
use Rattle.std.proofs.Common.{◌≡◌, refl, sym, ap, ◌∙◌, cond, Bool, true, false, List, [], ◌∷◌, map, All, Option, Some, is_some}
use Rattle.std.specs.List.{find, list_all}
use Rattle.std.specs.Str.{bytes_eq}
use Rattle.std.proofs.lemmas.Bool.{and_parts}
use Rattle.std.proofs.lemmas.Map.Text.{is_eq-slice_cmp}
use Rattle.std.proofs.lemmas.Slice.Eq.{bytes_eq-Decides}
use Rattle.keyed_lists.specs.Keyed.{find_key}
use Rattle.variant_values.specs.Texts.{byte_cmp}
use Rattle.spec_grammar.specs.Canonical.{word_text}
use Rattle.spec_grammar.specs.declared.part.Spec.{Spec}
use Rattle.graph_core.specs.Graphs.{Text, Content, name_of, node_of}
use Rattle.graph_core.specs.declared.node.Node.{Node}
use Rattle.graph_core.proofs.GraphLaws.{has_decides}
use Rattle.condition_rules.specs.Holds.{holds}
use Rattle.condition_rules.specs.Meets.{meets}
use Rattle.lock_writer.specs.Hashes.{node_hash}
use Rattle.lock_writer.specs.Texts.{IsOfNode}
use Rattle.lockfile.specs.Formed.{locked_root}
use Rattle.lockfile.specs.Writable.{hashes_in, lock_of}
use Rattle.problem.specs.Problems.{Problem, world_of}
use Rattle.graph_rules.specs.Directives.{keeps_root}
use Rattle.graph_rules.specs.Valid.{keeps, valid}
use Rattle.graph_rules.specs.declared.rule.Rule.TheVariants as rules
use Rattle.graph_rules.proofs.Lists.{list_all-each, some-and}
use Rattle.graph_rules.proofs.ValidLaws.{rule-of}
use Rattle.lock_laws.proofs.Each.{all-from}
use Rattle.written_again.specs.Again.{AreAsked, AreAskedRoots, IsAskedRoot}

-- ---- hashes by names

hashed_first : (g : Content) (name : Text) (n : Node) (rest : Option (Text × Text)) (b : Bool) → bytes_eq n.name name ≡ b
    → (b ≡ false → rest ≡ Some (name, node_hash g name))
    → cond b (Some (n.name, node_hash g n.name)) rest ≡ Some (name, node_hash g name)
hashed_first g name n rest true is later =
    ap (λ (m : Text). Some (m, node_hash g m)) ((bytes_eq-Decides n.name name).0 is)
hashed_first g name n rest false is later = later refl

node_later : (n node : Node) (rest : Option Node) (b : Bool) → b ≡ false → cond b (Some n) rest ≡ Some node → rest ≡ Some node
node_later n node rest true is e = absurd cc
node_later n node rest false is e = e

-- a node's name leads to its hash
hashed : (g : Content) (name : Text) (nodes : List Node) (node : Node) → find_key byte_cmp name_of nodes name ≡ Some node
    → find (λ (h : Text × Text). bytes_eq h.0 name) (hashes_in g nodes) ≡ Some (name, node_hash g name)
hashed g name [] node e = absurd cc
hashed g name (n ∷ nodes) node e =
    hashed_first g name n (find (λ (h : Text × Text). bytes_eq h.0 name) (hashes_in g nodes)) (bytes_eq n.name name) refl
    (λ other. hashed g name nodes node
    (node_later n node (find_key byte_cmp name_of nodes name) _ (is_eq-slice_cmp n.name name ∙ other) e))

-- ---- roots that are kept

-- a root that is kept asks for a node by its name
record IsKeptRoot (graph : Content) (spec : Spec) : Type 0 where
  name : Text
  named : spec.top.name ≡ Some name
  node : Node
  there : node_of graph name ≡ Some node

kept_root : (problem : Problem) (graph : Content) (spec : Spec) → keeps_root problem graph spec ≡ true → IsKeptRoot graph spec
unfolding keeps_root holds
kept_root problem graph spec h =
    let name = some-and spec.top.name (holds (world_of problem) spec graph) h in
    let node = some-and (node_of graph name.0) (meets (world_of problem) spec.top) (and_parts _ _ name.2).0 in
    record { name = name.0; named = name.1; node = node.0; there = node.1 }

asked_root : (graph : Content) (spec : Spec) → IsKeptRoot graph spec
    → IsAskedRoot (hashes_in graph graph.nodes) spec (locked_root graph spec)
asked_root graph spec kept = record {
  name = kept.name;
  named = kept.named;
  found = kept.name;
  hashed =
      hashed graph kept.name graph.nodes kept.node kept.there
      ∙ ap (λ (word : Option Text). Some (kept.name, node_hash graph (word_text word))) (sym kept.named);
  text = refl;
}

asked_all : (problem : Problem) (graph : Content) (specs : List Spec) → list_all (keeps_root problem graph) specs ≡ true
    → AreAskedRoots (hashes_in graph graph.nodes) specs (map (locked_root graph) specs)
asked_all problem graph [] all = tt
asked_all problem graph (spec ∷ specs) all =
    let parts = and_parts (keeps_root problem graph spec) (list_all (keeps_root problem graph) specs) all in
    (asked_root graph spec (kept_root problem graph spec parts.0), asked_all problem graph specs parts.1)

all_kept : (problem : Problem) (graph : Content) → valid problem graph ≡ true → list_all (keeps_root problem graph) problem.roots ≡ true
unfolding keeps
all_kept problem graph v = rule-of problem graph rules.Root v

-- the roots of its lock file are those that are asked for
pub asked : (problem : Problem) (graph : Content) → valid problem graph ≡ true → AreAsked (lock_of graph problem.roots) problem.roots
asked problem graph v = asked_all problem graph problem.roots (all_kept problem graph v)

of_node : (graph : Content) (spec : Spec) → IsKeptRoot graph spec → IsOfNode graph spec
of_node graph spec kept =
    (has_decides graph (word_text spec.top.name)).0
    (ap (λ (word : Option Text). is_some (node_of graph (word_text word))) kept.named ∙ ap is_some kept.there)

-- each root is a node by its name
pub named : (problem : Problem) (graph : Content) → valid problem graph ≡ true → All (IsOfNode graph) problem.roots
named problem graph v =
    all-from (IsOfNode graph) problem.roots (λ spec there.
    of_node graph spec (kept_root problem graph spec
    (list_all-each (keeps_root problem graph) problem.roots spec (all_kept problem graph v) there)))
