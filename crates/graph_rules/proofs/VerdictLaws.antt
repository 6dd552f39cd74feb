-- A rule is kept where it has no place, and the verdict is that all are.
use Rattle.std.proofs.Common.{◌≡◌, refl, sym, ap, ◌∙◌, Bool, true, false, ◌&&◌, not, ℕ, ◌+◌, List, [], ◌∷◌, ◌++◌, map, cond, ◌↔◌}
use Rattle.std.specs.List.{list_all, filter, flat_map}
use Rattle.std.specs.Option.{unwrap_or}
use Rattle.problem.specs.OfSpecGrammar.Spec.{Spec}
use Rattle.problem.specs.OfGraphCore.Graphs.{Text, Content}
use Rattle.problem.specs.OfConditionRules.Words.{implies}
use Rattle.problem.specs.Nodes.{is_built}
use Rattle.problem.specs.OfGraphCore.Node.{Node}
use Rattle.problem.specs.OfRecipeData.RequireRow.{RequireRow}
use Rattle.graph_rules.specs.Directives.{keeps_requirement, keeps_root}
use Rattle.graph_rules.specs.Valid.{keeps, keeps_all, all_rules, valid}
use Rattle.graph_rules.specs.Verdict.{Place, all_asked, breaks_of, breaks, broken_roots, least, broken_or, first_broken, verdict_of, verdict}
use Rattle.problem.specs.Problems.{required_at, Problem}
use Rattle.graph_rules.specs.declared.rule.Rule.{Rule}
use Rattle.graph_rules.specs.declared.rule.Rule.TheVariants as rules
use Rattle.graph_rules.specs.declared.rule.Verdict.{Verdict}
use Rattle.graph_rules.specs.declared.rule.Verdict.TheVariants as verdicts

abbrev pub is_empty : {X : Type 0} → List X → Bool
is_empty [] = true
is_empty (x ∷ xs) = false

-- ---- lists of those that fail a test

failing : {X Y : Type 0} (test : X → Bool) (f : X → Y) (xs : List X) → list_all test xs ≡ is_empty (map f (filter (λ x. not (test x)) xs))
failing test f [] = refl
failing test f (x ∷ xs) =
    let rest = failing test f xs in
    elim (test x) as (λ b. (b && list_all test xs)
    ≡ is_empty (map f (cond (not b) (x ∷ filter (λ y. not (test y)) xs) (filter (λ y. not (test y)) xs)))) [
      | true ↦
          rest
      | false ↦ refl
    ]

both_empty : {X : Type 0} (xs ys : List X) → is_empty (xs ++ ys) ≡ (is_empty xs && is_empty ys)
both_empty [] ys = refl
both_empty (x ∷ xs) ys = refl

-- a premise of all is one of each
premise_of_each : {R : Type 0} (b : Bool) (test : R → Bool) (rows : List R)
    → implies b (list_all test rows) ≡ list_all (λ row. implies b (test row)) rows
premise_of_each true test rows = refl
premise_of_each false test [] = refl
premise_of_each false test (row ∷ rows) = premise_of_each false test rows

-- no row fails exactly where all rows are kept
pub failing_rows : {R : Type 0} (rows_at : Text → List R) (number : R → ℕ) (test : Node → R → Bool) (nodes : List Node)
    → list_all (λ node. implies (is_built node) (list_all (test node) (rows_at node.name))) nodes
    ≡ is_empty {X =
    Place} (flat_map (λ node. map (λ row. (node.name, number row))
    (filter (λ row. not (implies (is_built node) (test node row))) (rows_at node.name))) nodes)
failing_rows rows_at number test [] = refl
failing_rows rows_at number test (node ∷ nodes) =
    let here = premise_of_each (is_built node) (test node) (rows_at node.name)
    ∙ failing (λ row. implies (is_built node) (test node row)) (λ row. let p : Place = (node.name, number row) in
    p) (rows_at node.name) in
    rw (here, failing_rows rows_at number test nodes) (sym (both_empty _ _))

-- the same, asked of nodes of any origin
pub failing_settings : (rows_at : Text → List RequireRow) (test : Node → RequireRow → Bool) (nodes : List Node)
    → list_all (λ node. list_all (test node) (rows_at node.name)) nodes
    ≡ is_empty {X =
    Place} (flat_map (λ node. map (λ row. (node.name, row.number)) (filter (λ row. not (test node row)) (rows_at node.name))) nodes)
failing_settings rows_at test [] = refl
failing_settings rows_at test (node ∷ nodes) =
    let here = failing (test node) (λ row. let p : Place = (node.name, row.number) in p) (rows_at node.name) in
    rw (here, failing_settings rows_at test nodes) (sym (both_empty _ _))

failing_roots : (test : Spec → Bool) (place : ℕ) (specs : List Spec)
    → list_all test specs ≡ is_empty (broken_roots (λ place spec. test spec) place specs)
failing_roots test place [] = refl
failing_roots test place (spec ∷ specs) =
    let rest = failing_roots test (place + 1) specs in
    elim (test spec) as (λ b. (b && list_all test specs)
    ≡ is_empty (cond b (broken_roots (λ place spec. test spec) (place + 1) specs)
    ((unwrap_or spec.top.name [], place) ∷ broken_roots (λ place spec. test spec) (place + 1) specs))) [ true ↦ rest | false ↦ refl ]

-- ---- the rules

-- a rule is kept exactly where it is broken nowhere
pub keeps-breaks : (rule : Rule) (problem : Problem) (graph : Content) → keeps rule problem graph ≡ is_empty (breaks rule problem graph)
unfolding keeps breaks_of
keeps-breaks rules.Root problem graph = failing_roots (keeps_root problem graph) 0 problem.roots
keeps-breaks rules.Buildable problem graph = failing _ _ graph.nodes
keeps-breaks rules.Version problem graph = failing _ _ graph.nodes
keeps-breaks rules.Variant problem graph = failing _ _ graph.nodes
keeps-breaks rules.Compiler problem graph = failing _ _ graph.nodes
keeps-breaks rules.Machine problem graph = failing _ _ graph.nodes
keeps-breaks rules.Edge problem graph = failing_rows _ _ _ graph.nodes
keeps-breaks rules.ExtraEdge problem graph = failing _ _ graph.nodes
keeps-breaks rules.Constraint problem graph = failing_rows _ _ _ graph.nodes
keeps-breaks rules.Conflict problem graph = failing_rows _ _ _ graph.nodes
keeps-breaks rules.Requirement problem graph = failing_rows _ _ _ graph.nodes
keeps-breaks rules.Required problem graph = failing_settings (required_at problem) (keeps_requirement problem graph) graph.nodes
keeps-breaks rules.Kept problem graph = failing _ _ graph.nodes
keeps-breaks rules.Provider problem graph = failing _ _ graph.providers
keeps-breaks rules.UnusedProvider problem graph = failing _ _ graph.providers
keeps-breaks rules.Together problem graph = failing _ _ graph.providers
keeps-breaks rules.Cycle problem graph = failing _ _ graph.nodes
keeps-breaks rules.Unreachable problem graph = failing _ _ graph.nodes

-- ---- the verdict

abbrev pub is_valid : Verdict → Bool
is_valid verdicts.Valid = true
is_valid (verdicts.Broken rule name number) = false

pub step : (rule : Rule) (places : List Place) (later : Verdict)
    → is_valid (broken_or rule (least places) later) ≡ (is_empty places && is_valid later)
step rule [] later = refl
step rule (p ∷ ps) later = refl

none_broken : (asked : List Rule) (problem : Problem) (graph : Content)
    → is_valid (first_broken all_asked asked problem graph) ≡ keeps_all asked problem graph
none_broken [] problem graph = refl
none_broken (rule ∷ more) problem graph =
    step rule (breaks rule problem graph) (first_broken all_asked more problem graph)
    ∙ rw (sym (keeps-breaks rule problem graph), none_broken more problem graph) refl

-- a verdict that the test calls valid is Valid
pub is_valid-from : (v : Verdict) → is_valid v ≡ true → v ≡ verdicts.Valid
is_valid-from verdicts.Valid h = refl
is_valid-from (verdicts.Broken rule name number) h = absurd cc

-- a graph is valid exactly where the verdict is Valid
pub valid-verdict : (problem : Problem) (graph : Content) → (valid problem graph ≡ true) ↔ (verdict problem graph ≡ verdicts.Valid)
unfolding valid verdict_of
valid-verdict problem graph =
    let same = none_broken all_rules problem graph in
    (λ v. is_valid-from (first_broken all_asked all_rules problem graph) (same ∙ v), λ e. sym same ∙ ap is_valid e)

is_empty-from : {X : Type 0} (xs : List X) → is_empty xs ≡ true → xs ≡ []
is_empty-from [] h = refl
is_empty-from (x ∷ xs) h = absurd cc

-- a rule that is kept is broken nowhere, and the other way round
pub kept-nowhere : (rule : Rule) (problem : Problem) (graph : Content) → (keeps rule problem graph ≡ true)
    ↔ (breaks rule problem graph ≡ [])
kept-nowhere rule problem graph =
    let same = keeps-breaks rule problem graph in
    (λ k. is_empty-from (breaks rule problem graph) (sym same ∙ k), λ e. same ∙ ap is_empty e)
