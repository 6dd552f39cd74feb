-- A valid graph keeps each demand, and a graph that keeps all demands is valid.
use Rattle.std.proofs.Common.{◌≡◌, refl, ap, subst, ◌∙◌, true, ◌&&◌, ◌==◌, ℕ, ◌+◌, List, [], ◌++◌, map, length, Option, Some, None, arith, slice_get}
use Rattle.std.specs.List.{list_all, range_with_len}
use Rattle.std.proofs.lemmas.Bool.{and_parts, and_from, eq-eqb}
use Rattle.problem.specs.OfGraphCore.Graphs.{Text, Content, node_of, IsGraph}
use Rattle.problem.specs.OfConditionRules.Words.{if_written, implies}
use Rattle.problem.specs.Nodes.{is_built}
use Rattle.problem.specs.OfGraphCore.Node.{Node}
use Rattle.problem.proofs.OfKeyedLists.TextLaws.{texts_decide}
use Rattle.graph_rules.proofs.Lists.{In, list_all-each, list_all-from, find-in, node-itself, In-left, In-right, In-map, In-flat_map, bytes_eq-same}
use Rattle.problem.specs.OfConditionRules.Worlds.{recipe_of}
use Rattle.problem.specs.OfRecipeData.Recipe.{Recipe}
use Rattle.problem.specs.OfRecipeData.RequireRow.{RequireRow}
use Rattle.problem.specs.OfSiteSettings.PackageEntry.{PackageEntry}
use Rattle.problem.specs.Problems.{recipe_at, depends_at, conflicts_at, requirements_at, package_entry_of, rows_from, required_in, required_at, Problem}
use Rattle.graph_rules.specs.Directives.{keeps_root, keeps_edge, keeps_constraint, keeps_conflict, keeps_requirement}
use Rattle.graph_rules.specs.Valid.{keeps, keeps_all, structure_rules, all_rules, valid, valid_for, keeps_demand, keeps_directive}
use Rattle.problem.specs.OfRecipeData.Right.{numbers_of}
use Rattle.problem.specs.Demands.{demands, directives_of}
use Rattle.graph_rules.specs.declared.rule.Rule.{Rule}
use Rattle.graph_rules.specs.declared.rule.Rule.TheVariants as rules
use Rattle.problem.specs.declared.demand.Demand.{Demand}
use Rattle.problem.specs.declared.demand.Demand.TheVariants as demand
use Rattle.graph_rules.proofs.NumberedRows.{slice_get-in, place-of, fold-has, row-of, entry-with, rows-count}
use Rattle.graph_rules.proofs.BuiltTests.{implied, implies-from, at_built, built_from}

-- ---- a valid graph keeps each demand

-- each rule stands in the list of all
pub stands : (rule : Rule) → In rule all_rules
stands rules.Root = slice_get-in all_rules 0 rules.Root refl
stands rules.Buildable = slice_get-in all_rules 1 rules.Buildable refl
stands rules.Version = slice_get-in all_rules 2 rules.Version refl
stands rules.Variant = slice_get-in all_rules 3 rules.Variant refl
stands rules.Compiler = slice_get-in all_rules 4 rules.Compiler refl
stands rules.Machine = slice_get-in all_rules 5 rules.Machine refl
stands rules.Edge = slice_get-in all_rules 6 rules.Edge refl
stands rules.ExtraEdge = slice_get-in all_rules 7 rules.ExtraEdge refl
stands rules.Constraint = slice_get-in all_rules 8 rules.Constraint refl
stands rules.Conflict = slice_get-in all_rules 9 rules.Conflict refl
stands rules.Requirement = slice_get-in all_rules 10 rules.Requirement refl
stands rules.Required = slice_get-in all_rules 11 rules.Required refl
stands rules.Kept = slice_get-in all_rules 12 rules.Kept refl
stands rules.Provider = slice_get-in all_rules 13 rules.Provider refl
stands rules.UnusedProvider = slice_get-in all_rules 14 rules.UnusedProvider refl
stands rules.Together = slice_get-in all_rules 15 rules.Together refl
stands rules.Cycle = slice_get-in all_rules 16 rules.Cycle refl
stands rules.Unreachable = slice_get-in all_rules 17 rules.Unreachable refl

-- a valid graph keeps each rule
pub rule-of : (problem : Problem) (graph : Content) (rule : Rule) → valid problem graph ≡ true → keeps rule problem graph ≡ true
unfolding valid
rule-of problem graph rule v = list_all-each (λ r. keeps r problem graph) all_rules rule v (stands rule)

directive-kept : (problem : Problem) (graph : Content) (number : ℕ) (node : Node) → valid problem graph ≡ true → In node graph.nodes
    → is_built node ≡ true → keeps_directive problem graph number node ≡ true
unfolding keeps
directive-kept problem graph number node v there built =
    let edges = at_built _ graph node (rule-of problem graph rules.Edge v) there built in
    let constraints = at_built _ graph node (rule-of problem graph rules.Constraint v) there built in
    let conflicts = at_built _ graph node (rule-of problem graph rules.Conflict v) there built in
    let requirements = at_built _ graph node (rule-of problem graph rules.Requirement v) there built in
    and_from _ _ (and_from _ _
    (list_all-from _ (depends_at problem node.name)
    (λ row is. implies-from (row.number == number) _
    (λ _. and_from _ _ (list_all-each _ _ row edges is) (list_all-each _ _ row constraints is))))
    (list_all-from _ (conflicts_at problem node.name)
    (λ row is. implies-from (row.number == number) _ (λ _. list_all-each _ _ row conflicts is))))
    (list_all-from _ (requirements_at problem node.name)
    (λ row is. implies-from (row.number == number) _ (λ _. list_all-each _ _ row requirements is)))

root-kept : (problem : Problem) (graph : Content) (place : ℕ) → valid problem graph ≡ true
    → keeps_demand problem graph (demand.Root place) ≡ true
unfolding keeps_demand keeps
root-kept problem graph place v =
    elim (slice_get problem.roots place) as (λ o. slice_get problem.roots place ≡ o → if_written o (keeps_root problem graph) ≡ true) [
      | None ↦ λ e. refl
      | Some spec ↦ λ e. list_all-each (keeps_root problem graph) problem.roots spec (rule-of problem graph rules.Root v)
          (slice_get-in problem.roots place spec e)
    ] refl

at-node : (problem : Problem) (graph : Content) (name : Text) (number : ℕ) → valid problem graph ≡ true
    → keeps_demand problem graph (demand.Directive name number) ≡ true
unfolding keeps_demand
at-node problem graph name number v =
    elim (node_of graph name) as (λ o. node_of graph name ≡ o
    → if_written o (λ node. implies (is_built node) (keeps_directive problem graph number node)) ≡ true) [
      | None ↦ λ e. refl
      | Some node ↦ λ e. implies-from (is_built node) _ (directive-kept problem graph number node v (find-in _ graph.nodes node e).0)
    ] refl

setting-at : (problem : Problem) (graph : Content) (place : ℕ) (node : Node) → valid problem graph ≡ true → In node graph.nodes
    → if_written (slice_get (required_at problem node.name) place) (keeps_requirement problem graph node) ≡ true
unfolding keeps
setting-at problem graph place node v there =
    elim (slice_get (required_at problem node.name) place) as (λ o. slice_get (required_at problem node.name) place ≡ o
    → if_written o (keeps_requirement problem graph node) ≡ true) [
      | None ↦ λ e. refl
      | Some row ↦ λ e. list_all-each (keeps_requirement problem graph node) (required_at problem node.name) row
          (list_all-each (λ n. list_all (keeps_requirement problem graph n) (required_at problem n.name)) graph.nodes node
          (rule-of problem graph rules.Required v) there)
          (slice_get-in (required_at problem node.name) place row e)
    ] refl

setting-kept : (problem : Problem) (graph : Content) (name : Text) (place : ℕ) → valid problem graph ≡ true
    → keeps_demand problem graph (demand.Setting name place) ≡ true
unfolding keeps_demand
setting-kept problem graph name place v =
    elim (node_of graph name) as (λ o. node_of graph name ≡ o
    → if_written o (λ node. if_written (slice_get (required_at problem node.name) place) (keeps_requirement problem graph node)) ≡ true) [
      | None ↦ λ e. refl
      | Some node ↦ λ e. setting-at problem graph place node v (find-in _ graph.nodes node e).0
    ] refl

-- a valid graph keeps each demand
pub demand-kept : (problem : Problem) (graph : Content) (asked : Demand) → valid problem graph ≡ true
    → keeps_demand problem graph asked ≡ true
demand-kept problem graph (demand.Root place) v = root-kept problem graph place v
demand-kept problem graph (demand.Directive name number) v = at-node problem graph name number v
demand-kept problem graph (demand.Setting name place) v = setting-kept problem graph name place v

-- a valid graph is valid for any demands
pub valid-for_any : (problem : Problem) (graph : Content) (asked : List Demand) → valid problem graph ≡ true
    → valid_for asked problem graph ≡ true
unfolding valid_for
valid-for_any problem graph asked v =
    and_from _ _ (list_all-from (λ rule. keeps rule problem graph) structure_rules (λ rule _. rule-of problem graph rule v))
    (list_all-from (keeps_demand problem graph) asked (λ d _. demand-kept problem graph d v))

-- ---- a graph that keeps all demands is valid

asked-kept : (problem : Problem) (graph : Content) (asked : Demand) → valid_for (demands problem) problem graph ≡ true
    → In asked (demands problem) → keeps_demand problem graph asked ≡ true
unfolding valid_for
asked-kept problem graph asked v there =
    list_all-each (keeps_demand problem graph) (demands problem) asked
    (and_parts (keeps_all structure_rules problem graph) (list_all (keeps_demand problem graph) (demands problem)) v).1 there

root-asked : (problem : Problem) (k : ℕ) → In k (range_with_len 0 (length problem.roots)) → In (demand.Root k) (demands problem)
unfolding demands
root-asked problem k there = In-left _ _ _ (In-left _ _ _ (In-map demand.Root (range_with_len 0 (length problem.roots)) k there))

directive-asked : (problem : Problem) (recipe : Recipe) (number : ℕ) → In recipe problem.recipes → In number (numbers_of recipe)
    → In (demand.Directive recipe.name number) (demands problem)
unfolding demands
directive-asked problem recipe number there is =
    In-left _ _ _ (In-right (map demand.Root (range_with_len 0 (length problem.roots))) _ _
    (In-flat_map (λ r. map (demand.Directive r.name) (numbers_of r)) problem.recipes recipe _ there
    (In-map (demand.Directive recipe.name) (numbers_of recipe) number is)))

setting-asked : (problem : Problem) (entry : PackageEntry) (place : ℕ) → In entry problem.settings.packages
    → In place (range_with_len 0 (length entry.require)) → In (demand.Setting entry.name place) (demands problem)
unfolding demands
setting-asked problem entry place there is =
    In-right (map demand.Root (range_with_len 0 (length problem.roots)) ++ directives_of problem.recipes) _ _
    (In-flat_map (λ e. map (demand.Setting e.name) (range_with_len 0 (length e.require))) problem.settings.packages entry _ there
    (In-map (demand.Setting entry.name) (range_with_len 0 (length entry.require)) place is))

root-from : (problem : Problem) (graph : Content) → valid_for (demands problem) problem graph ≡ true → keeps rules.Root problem graph ≡ true
unfolding keeps keeps_demand
root-from problem graph v =
    list_all-from (keeps_root problem graph) problem.roots (λ spec there.
    let place = place-of problem.roots 0 spec there in
    let asked = root-asked problem place.0 (let e : 0 + place.0 ≡ place.0 = omega arith in
    subst (λ n. In n (range_with_len 0 (length problem.roots))) e place.2) in
    subst (λ (o : Option _). if_written o (keeps_root problem graph) ≡ true) place.1
    (asked-kept problem graph (demand.Root place.0) v asked))

-- the directives of a built node's recipe are kept
directive-from : (problem : Problem) (graph : Content) (node : Node) (recipe : Recipe) (number : ℕ) → IsGraph graph
    → valid_for (demands problem) problem graph ≡ true
    → In node graph.nodes → is_built node ≡ true → recipe_at problem node.name ≡ Some recipe → In number (numbers_of recipe)
    → keeps_directive problem graph number node ≡ true
unfolding keeps_demand recipe_of
directive-from problem graph node recipe number g v there built found is =
    let in_recipes = find-in _ problem.recipes recipe found in
    let same : recipe.name ≡ node.name = (texts_decide recipe.name node.name).0 in_recipes.1 in
    let asked = asked-kept problem graph (demand.Directive recipe.name number) v (directive-asked problem recipe number in_recipes.0 is) in
    let at : node_of graph recipe.name ≡ Some node = ap (node_of graph) same ∙ node-itself graph node g there in
    implied (is_built node) (keeps_directive problem graph number node)
    (subst (λ (o : Option Node). if_written o (λ n. implies (is_built n) (keeps_directive problem graph number n)) ≡ true) at asked) built

-- the numbers of a recipe are those of its rows
depend-number : (recipe : Recipe) (n : ℕ) → In n (map (λ row. row.number) recipe.depends) → In n (numbers_of recipe)
depend-number recipe n there = fold-has _ [] n (In-left _ _ n (In-left _ _ n there))

conflict-number : (recipe : Recipe) (n : ℕ) → In n (map (λ row. row.number) recipe.conflicts) → In n (numbers_of recipe)
conflict-number recipe n there = fold-has _ [] n (In-left _ _ n (In-right (map (λ row. row.number) recipe.depends) _ n there))

requirement-number : (recipe : Recipe) (n : ℕ) → In n (map (λ row. row.number) recipe.requirements) → In n (numbers_of recipe)
requirement-number recipe n there =
    fold-has _ [] n (In-right (map (λ row. row.number) recipe.depends ++ map (λ row. row.number) recipe.conflicts) _ n there)

module _ (problem : Problem) (graph : Content) (g : IsGraph graph) (v : valid_for (demands problem) problem graph ≡ true) where
  depend-from : (node : Node) → In node graph.nodes → is_built node ≡ true → (row : _) → In row (depends_at problem node.name)
      → (keeps_edge problem graph node row && keeps_constraint problem graph node row) ≡ true
  depend-from node there built row is =
      let of = row-of (λ r. r.depends) (recipe_at problem node.name) row is in
      let kept = directive-from problem graph node of.0 row.number g v there built of.1
      (depend-number of.0 row.number (In-map (λ r. r.number) of.0.depends row of.2)) in
      implied (row.number == row.number) _ (list_all-each _ (depends_at problem node.name) row (and_parts _ _ (and_parts _ _ kept).0).0 is)
      (eq-eqb row.number row.number refl)

  conflict-from : (node : Node) → In node graph.nodes → is_built node ≡ true → (row : _) → In row (conflicts_at problem node.name)
      → keeps_conflict problem graph node row ≡ true
  conflict-from node there built row is =
      let of = row-of (λ r. r.conflicts) (recipe_at problem node.name) row is in
      let kept = directive-from problem graph node of.0 row.number g v there built of.1
      (conflict-number of.0 row.number (In-map (λ r. r.number) of.0.conflicts row of.2)) in
      implied (row.number == row.number) _ (list_all-each _ (conflicts_at problem node.name) row (and_parts _ _ (and_parts _ _ kept).0).1
      is) (eq-eqb row.number row.number refl)

  requirement-from : (node : Node) → In node graph.nodes → is_built node ≡ true → (row : _) → In row (requirements_at problem node.name)
      → keeps_requirement problem graph node row ≡ true
  requirement-from node there built row is =
      let of = row-of (λ r. r.requirements) (recipe_at problem node.name) row is in
      let kept = directive-from problem graph node of.0 row.number g v there built of.1
      (requirement-number of.0 row.number (In-map (λ r. r.number) of.0.requirements row of.2)) in
      implied (row.number == row.number) _ (list_all-each _ (requirements_at problem node.name) row (and_parts _ _ kept).1 is)
      (eq-eqb row.number row.number refl)

  required-from : (node : Node) → In node graph.nodes → (row : RequireRow) → In row (required_at problem node.name)
      → keeps_requirement problem graph node row ≡ true
  unfolding keeps_demand package_entry_of
  required-from node there row is =
      let of = entry-with (package_entry_of problem node.name) row is in
      let in_packages = find-in _ problem.settings.packages of.0 of.1 in
      let same : of.0.name ≡ node.name = bytes_eq-same of.0.name node.name in_packages.1 in
      let place = place-of (rows_from 0 of.0.require) 0 row of.2 in
      let among : In place.0 (range_with_len 0 (length of.0.require)) =
      subst (λ n. In place.0 (range_with_len 0 n)) (rows-count 0 of.0.require)
      (let e : 0 + place.0 ≡ place.0 = omega arith in subst (λ n. In n (range_with_len 0 (length (rows_from 0 of.0.require)))) e place.2) in
      let asked = asked-kept problem graph (demand.Setting of.0.name place.0) v (setting-asked problem of.0 place.0 in_packages.0 among) in
      let at : node_of graph of.0.name ≡ Some node = ap (node_of graph) same ∙ node-itself graph node g there in
      let got : slice_get (required_at problem node.name) place.0 ≡ Some row = ap (λ o. slice_get (required_in o) place.0) of.1 ∙ place.1 in
      subst (λ (o : Option RequireRow). if_written o (keeps_requirement problem graph node) ≡ true) got
      (subst (λ (o : Option Node). if_written o (λ n. if_written (slice_get (required_at problem n.name) place.0)
      (keeps_requirement problem graph n)) ≡ true) at asked)

  edges-from : keeps rules.Edge problem graph ≡ true
  unfolding keeps
  edges-from = built_from _ graph (λ node there built. list_all-from _ _
      (λ row is. (and_parts _ _ (depend-from node there built row is)).0))

  constraints-from : keeps rules.Constraint problem graph ≡ true
  unfolding keeps
  constraints-from =
      built_from _ graph (λ node there built. list_all-from _ _ (λ row is. (and_parts _ _ (depend-from node there built row is)).1))

  conflicts-from : keeps rules.Conflict problem graph ≡ true
  unfolding keeps
  conflicts-from = built_from _ graph (λ node there built. list_all-from _ _ (conflict-from node there built))

  requirements-from : keeps rules.Requirement problem graph ≡ true
  unfolding keeps
  requirements-from = built_from _ graph (λ node there built. list_all-from _ _ (requirement-from node there built))

  required-all : keeps rules.Required problem graph ≡ true
  unfolding keeps
  required-all = list_all-from _ graph.nodes (λ node there. list_all-from _ _ (required-from node there))

  structure-from : (rule : Rule) → In rule structure_rules → keeps rule problem graph ≡ true
  unfolding valid_for
  structure-from rule there = list_all-each (λ r. keeps r problem graph) structure_rules rule
      (and_parts (keeps_all structure_rules problem graph) (list_all (keeps_demand problem graph) (demands problem)) v).0 there

  each-from : (rule : Rule) → keeps rule problem graph ≡ true
  each-from rules.Root = root-from problem graph v
  each-from rules.Edge = edges-from
  each-from rules.Constraint = constraints-from
  each-from rules.Conflict = conflicts-from
  each-from rules.Requirement = requirements-from
  each-from rules.Required = required-all
  each-from rules.Buildable = structure-from rules.Buildable (slice_get-in structure_rules 0 rules.Buildable refl)
  each-from rules.Version = structure-from rules.Version (slice_get-in structure_rules 1 rules.Version refl)
  each-from rules.Variant = structure-from rules.Variant (slice_get-in structure_rules 2 rules.Variant refl)
  each-from rules.Compiler = structure-from rules.Compiler (slice_get-in structure_rules 3 rules.Compiler refl)
  each-from rules.Machine = structure-from rules.Machine (slice_get-in structure_rules 4 rules.Machine refl)
  each-from rules.ExtraEdge = structure-from rules.ExtraEdge (slice_get-in structure_rules 5 rules.ExtraEdge refl)
  each-from rules.Kept = structure-from rules.Kept (slice_get-in structure_rules 6 rules.Kept refl)
  each-from rules.Provider = structure-from rules.Provider (slice_get-in structure_rules 7 rules.Provider refl)
  each-from rules.UnusedProvider = structure-from rules.UnusedProvider (slice_get-in structure_rules 8 rules.UnusedProvider refl)
  each-from rules.Together = structure-from rules.Together (slice_get-in structure_rules 9 rules.Together refl)
  each-from rules.Cycle = structure-from rules.Cycle (slice_get-in structure_rules 10 rules.Cycle refl)
  each-from rules.Unreachable = structure-from rules.Unreachable (slice_get-in structure_rules 11 rules.Unreachable refl)

  -- a graph that is valid for all demands is valid
  pub valid-from_demands : valid problem graph ≡ true
  unfolding valid
  valid-from_demands = list_all-from (λ rule. keeps rule problem graph) all_rules (λ rule _. each-from rule)
