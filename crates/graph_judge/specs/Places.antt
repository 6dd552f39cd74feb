-- The places where a rule is broken, one element after another.
use Rattle.std.specs.Prelude.{Bool, true, false, ℕ, List, [], ◌∷◌, flat_map, Option, Some, None}
use Rattle.spec_grammar.specs.declared.part.Spec.{Spec}
use Rattle.graph_core.specs.Graphs.{Text, Content}
use Rattle.graph_core.specs.declared.node.Node.{Node}
use Rattle.condition_rules.specs.Words.{implies}
use Rattle.problem.specs.Nodes.{is_built}
use Rattle.problem.specs.Problems.{Problem}
use Rattle.graph_rules.specs.Built.{keeps_buildable, keeps_version, keeps_variant, keeps_compiler, keeps_machine, keeps_extra_edge}
use Rattle.graph_rules.specs.Kept.{keeps_kept}
use Rattle.graph_rules.specs.Whole.{keeps_provider, keeps_used, keeps_together, keeps_no_cycle, keeps_reachable}
use Rattle.graph_rules.specs.Verdict.{Place, breaks_of, keeps_asked_root}
use Rattle.graph_rules.specs.declared.rule.Rule.{Rule}
use Rattle.graph_rules.specs.declared.rule.Verdict.{Verdict}
use Rattle.graph_rules.specs.declared.rule.Verdict.TheVariants as verdicts
use Rattle.graph_judge.specs.Judging.{Judging, asked}
use Rattle.graph_judge.specs.declared.nodes.NodeRule.{NodeRule}
use Rattle.graph_judge.specs.declared.nodes.NodeRule.TheVariants as rules
use Rattle.graph_judge.specs.declared.others.ProviderRule.{ProviderRule}
use Rattle.graph_judge.specs.declared.others.ProviderRule.TheVariants as of_provider

-- no place where the rule is kept, and else this one
abbrev pub unless : Bool → Place → List Place
unless true p = []
unless false p = p ∷ []

-- ---- nodes

unfoldable pub keeps_at : NodeRule → Problem → Content → Node → Bool
keeps_at rules.Buildable problem graph node = implies (is_built node) (keeps_buildable problem node)
keeps_at rules.Version problem graph node = implies (is_built node) (keeps_version problem node)
keeps_at rules.Variant problem graph node = implies (is_built node) (keeps_variant problem graph node)
keeps_at rules.Compiler problem graph node = implies (is_built node) (keeps_compiler problem node)
keeps_at rules.Machine problem graph node = implies (is_built node) (keeps_machine problem node)
keeps_at rules.ExtraEdge problem graph node = implies (is_built node) (keeps_extra_edge problem graph node)
keeps_at rules.Kept problem graph node = keeps_kept problem graph node
keeps_at rules.Cycle problem graph node = keeps_no_cycle graph node
keeps_at rules.Unreachable problem graph node = keeps_reachable problem graph node

abbrev pub nodes_places : (Node → Bool) → List Node → List Place
nodes_places test nodes = flat_map (λ node. unless (test node) (node.name, 0)) nodes

-- ---- providers

abbrev pub provider_test : ProviderRule → Problem → Content → (Text × Text) → Bool
provider_test of_provider.Provider problem graph p = keeps_provider problem graph p
provider_test of_provider.UnusedProvider problem graph p = keeps_used graph p
provider_test of_provider.Together problem graph p = keeps_together problem graph p

abbrev pub providers_places : ((Text × Text) → Bool) → List (Text × Text) → List Place
providers_places test providers = flat_map (λ p. unless (test p) (p.0, 0)) providers

-- ---- roots

abbrev pub keeps_root_at : Judging → ℕ → Spec → Bool
keeps_root_at j = keeps_asked_root (asked j) j.problem j.graph

-- ---- the verdict

-- the places where the rule is broken
abbrev pub breaks : Rule → Judging → List Place
breaks rule j = breaks_of (asked j) rule j.problem j.graph

-- the verdict that the rule is broken at this place, if there is one
abbrev pub found_of : Rule → Option Place → Option Verdict
found_of rule None = None
found_of rule (Some p) = Some (verdicts.Broken rule p.0 p.1)
