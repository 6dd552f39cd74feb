-- A node of a graph is to be built, or is kept; what it has is then offered.
use Rattle.std.proofs.Common.{◌≡◌, refl, sym, subst, ◌∙◌, ℕ, ◌+◌, zero, suc, Bool, true, false, List, [], ◌∷◌, ◌++◌, map, Some, None, Contains, ◌⊎◌, inl, inr, ⊎_elim, slice_get, arith}
use Rattle.std.specs.List.{filter}
use Rattle.std.specs.Str.{bytes_eq}
use Rattle.std.specs.Cmp.Lexicographic.{bytes_decides}
use Rattle.std.proofs.lemmas.List.Elements.{Contains-append_left, Contains-append_right}
use Rattle.reachability.specs.Laws.{IsExact}
use Rattle.reachability.proofs.CountLaws.{has_first, has_later, has_image}
use Rattle.reachability.proofs.SpreadLaws.{in_filter}
use Rattle.graph_core.specs.Graphs.{Text, Content}
use Rattle.graph_core.specs.declared.node.Node.{Node}
use Rattle.graph_core.specs.declared.node.Origin.{Origin}
use Rattle.graph_core.specs.declared.node.Origin.TheVariants.{Built, External, Installed}
use Rattle.site_settings.specs.declared.settings.ExternalEntry.{ExternalEntry}
use Rattle.reuse_db.specs.declared.record.Record.{Record}
use Rattle.problem.specs.Nodes.{IsWellFormed}
use Rattle.problem.specs.Problems.{Problem, package_entry_of, externals_in, record_at}
use Rattle.graph_rules.specs.Built.{keeps_buildable}
use Rattle.graph_rules.specs.Kept.{external_node, keeps_kept}
use Rattle.reuse_db.specs.Installed.{installed_node}
use Rattle.graph_rules.specs.Valid.{keeps, keeps_all, structure_rules}
use Rattle.graph_rules.specs.declared.rule.Rule.TheVariants as rules
use Rattle.graph_rules.proofs.Lists.{contains-In}
use Rattle.graph_rules.proofs.BuiltTests.{at_built}
use Rattle.graph_rules.proofs.NumberedRows.{slice_get-in}
use Rattle.graph_rules.proofs.KeptLaws.{installed-is, external-is}
use Rattle.possible_closure.proofs.Lists.{passes_at, found-there}
use Rattle.table_plan.specs.Gathering.{listed}
use Rattle.table_plan.specs.Kept.{external_nodes, kept_nodes}
use Rattle.table_plan.specs.Plans.{can_build, offered}
use Rattle.table_plan.proofs.GatherLaws.{to_gathered}
use Rattle.graph_rules.proofs.ClosureLaws.{rule}

-- what is listed under a test that passes
pub all_listed : {X : Type 0} (b : Bool) (xs : List X) (x : X) → b ≡ true → Contains xs x → Contains (listed b xs) x
all_listed true xs x is there = there
all_listed false xs x is there = absurd cc

in_externals : (problem : Problem) (name : Text) (entries : List ExternalEntry) (from place : ℕ) (entry : ExternalEntry)
    → slice_get entries place ≡ Some entry
    → Contains (external_nodes problem name from entries) (external_node problem name (from + place) entry)
in_externals problem name [] from place entry e = absurd (let wrong : None ≡ Some entry = e in cc)
in_externals problem name (x ∷ xs) from zero entry e =
    let same : x ≡ entry = cc in
    let at : from ≡ from + 0 = omega arith in
    subst (λ n. Contains (external_nodes problem name from (x ∷ xs)) (external_node problem name n entry)) at
    (subst (λ y. Contains (external_nodes problem name from (x ∷ xs)) (external_node problem name from y)) same
    (has_first (external_node problem name from x) (external_nodes problem name (from + 1) xs)))
in_externals problem name (x ∷ xs) from (suc place) entry e =
    let at : from + 1 + place ≡ from + suc place = omega arith in
    has_later (external_node problem name from x) (external_nodes problem name (from + 1) xs) _
    (subst (λ n. Contains (external_nodes problem name (from + 1) xs) (external_node problem name n entry)) at
    (in_externals problem name xs (from + 1) place entry e))

-- a node is to be built, or is a kept one
abbrev pub Comes : Problem → Node → Type 0
Comes problem node = ((node.origin ≡ Built) × (can_build problem node.name ≡ true)) ⊎ Contains (kept_nodes problem node.name) node

-- what a built node may have, or a kept one has, is offered
pub offered-there : (problem : Problem) {T : Type 0} (same : T → T → Bool) → IsExact same
    → (choices : List T) (attribute : Node → T) (node : Node)
    → Comes problem node → (node.origin ≡ Built → Contains choices (attribute node))
    → Contains (offered same problem node.name choices attribute) (attribute node)
unfolding offered
offered-there problem same exact choices attribute node c each =
    to_gathered same exact [] (listed (can_build problem node.name) choices ++ map attribute (kept_nodes problem node.name))
    (attribute node)
    (inr (⊎_elim
    (λ b. Contains-append_left (listed (can_build problem node.name) choices) (map attribute (kept_nodes problem node.name))
    (attribute node)
    (all_listed (can_build problem node.name) choices (attribute node) b.1 (each b.0)))
    (λ one. Contains-append_right (listed (can_build problem node.name) choices) (map attribute (kept_nodes problem node.name))
    (attribute node)
    (has_image attribute (kept_nodes problem node.name) node one)) c))

-- ---- a node of a graph that keeps the rules which are always asked

module _ (problem : Problem) (graph : Content) (w : IsWellFormed graph) (k : keeps_all structure_rules problem graph ≡ true) where
  -- each of its nodes keeps the rule of kept nodes
  pub keeps_kept_at : (node : Node) → Contains graph.nodes node → keeps_kept problem graph node ≡ true
  unfolding keeps
  keeps_kept_at node there = passes_at (keeps_kept problem graph) graph.nodes node
      (rule problem graph w.is_graph k rules.Kept (slice_get-in structure_rules 6 rules.Kept refl)) there

  -- each of its nodes is of these
  pub comes : (node : Node) → Contains graph.nodes node → (o : Origin) → node.origin ≡ o → Comes problem node
  unfolding keeps keeps_buildable can_build kept_nodes record_at installed_node
  comes node there Built is = inl (
    is,
    at_built (keeps_buildable problem) graph node
        (rule problem graph w.is_graph k rules.Buildable (slice_get-in structure_rules 0 rules.Buildable refl))
        (contains-In graph.nodes node there) (rw is refl),
  )
  comes node there (External place) is =
      let at = external-is problem graph node place (keeps_kept_at node there) is in
      inr (Contains-append_left (external_nodes problem node.name 0 (externals_in (package_entry_of problem node.name)))
      (map installed_node (filter (λ entry. bytes_eq entry.name node.name) problem.database)) node
      (subst (Contains (external_nodes problem node.name 0 (externals_in (package_entry_of problem node.name)))) (sym at.2)
      (subst (λ n. Contains (external_nodes problem node.name 0 (externals_in (package_entry_of problem node.name)))
      (external_node problem node.name n at.0))
      (let zero_more : 0 + place ≡ place = omega arith in zero_more)
      (in_externals problem node.name (externals_in (package_entry_of problem node.name)) 0 place at.0 at.1))))
  comes node there (Installed hash) is =
      let at = installed-is problem graph node hash (keeps_kept_at node there) is in
      let found = found-there (λ (entry : Record). bytes_eq entry.hash hash) problem.database at.0 at.1 in
      let hashes : at.0.hash ≡ hash = (bytes_decides at.0.hash hash).0 found.1 in
      let whole : installed_node at.0 ≡ node = (λ i. record (installed_node at.0) { origin = Installed (hashes i) }) ∙ sym at.3 in
      inr (Contains-append_right (external_nodes problem node.name 0 (externals_in (package_entry_of problem node.name)))
      (map installed_node (filter (λ entry. bytes_eq entry.name node.name) problem.database)) node
      (subst (Contains (map installed_node (filter (λ entry. bytes_eq entry.name node.name) problem.database))) whole
      (has_image installed_node (filter (λ (entry : Record). bytes_eq entry.name node.name) problem.database) at.0
      (in_filter (λ (entry : Record). bytes_eq entry.name node.name) problem.database at.0 found.0
      ((bytes_decides at.0.name node.name).1 (sym at.2))))))
