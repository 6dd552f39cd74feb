-- Where no root, directive or requirement is broken, each that is asked is kept.
use Rattle.std.proofs.Common.{◌≡◌, refl, sym, subst, ◌∙◌, Bool, true, false, ℕ, ◌+◌, zero, suc, List, [], ◌∷◌, cond, Some, None, arith, slice_get}
use Rattle.std.specs.List.{list_all}
use Rattle.std.specs.Option.{unwrap_or}
use Rattle.spec_grammar.specs.declared.part.Spec.{Spec}
use Rattle.graph_core.specs.Graphs.{Text, Content}
use Rattle.graph_core.specs.declared.node.Node.{Node}
use Rattle.condition_rules.specs.Words.{implies}
use Rattle.problem.specs.Nodes.{is_built}
use Rattle.recipe_data.specs.declared.recipe.RequireRow.{RequireRow}
use Rattle.problem.specs.declared.demand.Demand.TheVariants as demand
use Rattle.graph_rules.specs.Verdict.{Asked, keeps_asked_row, keeps_asked_setting, broken_roots, broken_rows, broken_settings}
use Rattle.graph_rules.proofs.Lists.{In, list_all-each, list_all-from}
use Rattle.graph_rules.proofs.BuiltTests.{implied, implies-from}
use Rattle.graph_rules.proofs.VerdictLaws.{is_empty, failing_rows, failing_settings}

-- ---- roots

pub roots-kept : (test : ℕ → Spec → Bool) (place : ℕ) (specs : List Spec)
    → ((k : ℕ) (spec : Spec) → slice_get specs k ≡ Some spec → test (place + k) spec ≡ true)
    → is_empty (broken_roots test place specs) ≡ true
roots-kept test place [] each = refl
roots-kept test place (spec ∷ specs) each =
    let none : place + 0 ≡ place = omega arith in
    let here : test place spec ≡ true = subst (λ n. test n spec ≡ true) none (each 0 spec refl) in
    let rest = roots-kept test (place + 1) specs (λ k s e. let more : place + suc k ≡ place + 1 + k = omega arith in
    subst (λ n. test n s ≡ true) more (each (suc k) s e)) in
    elim (test place spec) as (λ b. b ≡ true → is_empty
    (cond b (broken_roots test (place + 1) specs) ((unwrap_or spec.top.name [], place) ∷ broken_roots test (place + 1) specs)) ≡ true)
    [ true ↦ λ h. rest | false ↦ λ h. absurd cc ] here

roots-first : (test : ℕ → Spec → Bool) (place : ℕ) (spec : Spec) (specs : List Spec)
    → is_empty (broken_roots test place (spec ∷ specs)) ≡ true
    → (test place spec ≡ true) × (is_empty (broken_roots test (place + 1) specs) ≡ true)
roots-first test place spec specs h =
    elim (test place spec) as (λ b. test place spec ≡ b
    → is_empty (cond b (broken_roots test (place + 1) specs)
    ((unwrap_or spec.top.name [], place) ∷ broken_roots test (place + 1) specs)) ≡ true
    → (test place spec ≡ true) × (is_empty (broken_roots test (place + 1) specs) ≡ true)) [
      | true ↦ λ is rest. (is, rest)
      | false ↦
          λ is no. absurd (let wrong : false ≡ true = no in cc)
    ] refl h

pub roots-each : (test : ℕ → Spec → Bool) (place : ℕ) (specs : List Spec) (k : ℕ) (spec : Spec)
    → is_empty (broken_roots test place specs) ≡ true → slice_get specs k ≡ Some spec → test (place + k) spec ≡ true
roots-each test place [] k spec h e = absurd (let no : None ≡ Some spec = e in cc)
roots-each test place (s ∷ specs) zero spec h e =
    let same : s ≡ spec = cc in
    let none : place ≡ place + 0 = omega arith in
    subst (λ n. test n spec ≡ true) none (subst (λ t. test place t ≡ true) same (roots-first test place s specs h).0)
roots-each test place (s ∷ specs) (suc k) spec h e =
    let more : place + 1 + k ≡ place + suc k = omega arith in
    subst (λ n. test n spec ≡ true) more (roots-each test (place + 1) specs k spec (roots-first test place s specs h).1 e)

-- ---- directives

module _ (graph : Content) (made : Asked) {R : Type 0} (rows_at : Text → List R) (number : R → ℕ) (test : Node → R → Bool) where
  abbrev Each : Type 0
  Each = (node : Node) → In node graph.nodes → is_built node ≡ true → (row : R) → In row (rows_at node.name)
      → made (demand.Directive node.name (number row)) ≡ true → test node row ≡ true

  pub rows-kept : Each → is_empty (broken_rows rows_at number (keeps_asked_row made number test) graph) ≡ true
  rows-kept each =
      sym (failing_rows rows_at number (keeps_asked_row made number test) graph.nodes)
      ∙ list_all-from _ graph.nodes (λ node there. implies-from (is_built node) _
      (λ built. list_all-from _ (rows_at node.name)
      (λ row is. implies-from (made (demand.Directive node.name (number row))) _ (λ a. each node there built row is a))))

  pub rows-each : is_empty (broken_rows rows_at number (keeps_asked_row made number test) graph) ≡ true → Each
  rows-each h node there built row is a =
      let all = failing_rows rows_at number (keeps_asked_row made number test) graph.nodes ∙ h in
      let here = implied (is_built node) _ (list_all-each
      (λ n. implies (is_built n) (list_all (keeps_asked_row made number test n) (rows_at n.name))) graph.nodes node all there) built in
      implied (made (demand.Directive node.name (number row))) (test node row)
      (list_all-each (keeps_asked_row made number test node) (rows_at node.name) row here is) a

-- ---- requirements of the settings

module _ (graph : Content) (made : Asked) (rows_at : Text → List RequireRow) (test : Node → RequireRow → Bool) where
  abbrev EachThere : Type 0
  EachThere = (node : Node) → In node graph.nodes → (row : RequireRow) → In row (rows_at node.name)
      → made (demand.Setting node.name row.number) ≡ true → test node row ≡ true

  pub settings-kept : EachThere → is_empty (broken_settings rows_at (keeps_asked_setting made test) graph) ≡ true
  settings-kept each =
      sym (failing_settings rows_at (keeps_asked_setting made test) graph.nodes)
      ∙ list_all-from _ graph.nodes (λ node there. list_all-from _ (rows_at node.name)
      (λ row is. implies-from (made (demand.Setting node.name row.number)) _ (λ a. each node there row is a)))

  pub settings-each : is_empty (broken_settings rows_at (keeps_asked_setting made test) graph) ≡ true → EachThere
  settings-each h node there row is a =
      let all = failing_settings rows_at (keeps_asked_setting made test) graph.nodes ∙ h in
      let here = list_all-each (λ n. list_all (keeps_asked_setting made test n) (rows_at n.name)) graph.nodes node all there in
      implied (made (demand.Setting node.name row.number)) (test node row)
      (list_all-each (keeps_asked_setting made test node) (rows_at node.name) row here is) a
