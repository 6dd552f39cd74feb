-- A valid graph can be written.
use Rattle.std.proofs.Common.{◌≡◌, refl, true, List, All}
use Rattle.std.specs.List.{list_all}
use Rattle.std.specs.Str.{IsUtf8}
use Rattle.std.proofs.lemmas.Bool.{and_parts, and_from}
use Rattle.std.proofs.lemmas.Str.{is_utf8-from_IsUtf8}
use Rattle.std.proofs.lemmas.List.Elements.{All-weaker}
use Rattle.std.proofs.lemmas.List.Sums.{list_all-from_AllPass}
use Rattle.spec_grammar.specs.Canonical.{spec_text}
use Rattle.spec_grammar.specs.declared.part.Spec.{Spec}
use Rattle.graph_core.specs.Graphs.{Content, IsGraph, node_of}
use Rattle.graph_core.specs.declared.node.Node.{Node}
use Rattle.graph_core.specs.declared.node.Origin.{Origin}
use Rattle.graph_core.specs.declared.node.Origin.TheVariants.{Built, External, Installed}
use Rattle.condition_rules.specs.Holds.{holds}
use Rattle.condition_rules.specs.Meets.{meets}
use Rattle.problem.specs.Problems.{Problem, record_at, world_of}
use Rattle.graph_rules.specs.Directives.{keeps_root}
use Rattle.graph_rules.specs.Kept.{keeps_kept, keeps_origin}
use Rattle.graph_rules.specs.Whole.{keeps_no_cycle}
use Rattle.graph_rules.specs.Valid.{keeps, valid}
use Rattle.graph_rules.specs.declared.rule.Rule.TheVariants as rules
use Rattle.graph_rules.proofs.Lists.{list_all-each, list_all-from, some-and}
use Rattle.graph_rules.proofs.ValidLaws.{rule-of}
use Rattle.lock_writer.specs.Tests.{has_text, is_of_node, is_off_cycles, is_recorded}
use Rattle.lock_writer.specs.Texts.{CanBeWritten}
use Rattle.lock_writer.proofs.TestLaws.{told}

-- a root that is kept is a node
named : (problem : Problem) (graph : Content) (spec : Spec) → keeps_root problem graph spec ≡ true → is_of_node graph spec ≡ true
unfolding keeps_root holds
named problem graph spec h =
    let name = some-and spec.top.name (holds (world_of problem) spec graph) h in
    let node = some-and (node_of graph name.0) (meets (world_of problem) spec.top) (and_parts _ _ name.2).0 in
    rw (name.1, node.1) refl

-- an installed node that is kept has a record
recorded_by : (problem : Problem) (graph : Content) (node : Node) (origin : Origin) → keeps_origin problem graph node origin ≡ true
    → is_recorded problem.database origin ≡ true
unfolding record_at
recorded_by problem graph node Built h = refl
recorded_by problem graph node (External place) h = refl
recorded_by problem graph node (Installed hash) h = let entry = some-and (record_at problem hash) _ h in rw entry.1 refl

recorded : (problem : Problem) (graph : Content) (node : Node) → keeps_kept problem graph node ≡ true
    → is_recorded problem.database node.origin ≡ true
unfolding keeps_kept
recorded problem graph node h = recorded_by problem graph node node.origin h

off_cycles : (graph : Content) (node : Node) → keeps_no_cycle graph node ≡ true → is_off_cycles graph node ≡ true
unfolding keeps_no_cycle
off_cycles graph node h = h

all_named : (problem : Problem) (graph : Content) → valid problem graph ≡ true → list_all (is_of_node graph) problem.roots ≡ true
unfolding keeps
all_named problem graph v =
    let kept = rule-of problem graph rules.Root v in
    list_all-from (is_of_node graph) problem.roots (λ spec there.
    named problem graph spec (list_all-each (keeps_root problem graph) problem.roots spec kept there))

all_recorded : (problem : Problem) (graph : Content) → valid problem graph ≡ true
    → list_all (λ node. is_recorded problem.database node.origin) graph.nodes ≡ true
unfolding keeps
all_recorded problem graph v =
    let kept = rule-of problem graph rules.Kept v in
    list_all-from (λ (node : Node). is_recorded problem.database node.origin) graph.nodes (λ node there.
    recorded problem graph node (list_all-each (keeps_kept problem graph) graph.nodes node kept there))

all_off_cycles : (problem : Problem) (graph : Content) → valid problem graph ≡ true → list_all (is_off_cycles graph) graph.nodes ≡ true
unfolding keeps
all_off_cycles problem graph v =
    let kept = rule-of problem graph rules.Cycle v in
    list_all-from (is_off_cycles graph) graph.nodes (λ node there.
    off_cycles graph node (list_all-each (keeps_no_cycle graph) graph.nodes node kept there))

all_texts : (roots : List Spec) → All (λ spec. IsUtf8 (spec_text spec)) roots → list_all has_text roots ≡ true
all_texts roots texts =
    list_all-from_AllPass has_text roots
    (All-weaker (λ (spec : Spec). IsUtf8 (spec_text spec)) (λ (spec : Spec). has_text spec ≡ true)
    (λ spec. is_utf8-from_IsUtf8 (spec_text spec)) roots texts)

-- a valid graph of a problem, whose roots have texts
pub can : (problem : Problem) (graph : Content) → IsGraph graph → valid problem graph ≡ true
    → All (λ spec. IsUtf8 (spec_text spec)) problem.roots → CanBeWritten graph problem.database problem.roots
can problem graph is v texts =
    (told graph is problem.database problem.roots).0
    (and_from _ _ (and_from _ _ (and_from _ _ (all_recorded problem graph v) (all_named problem graph v)) (all_texts problem.roots texts))
    (all_off_cycles problem graph v))
