-- The stages of an encoding, joined.
use Rattle.std.proofs.Common.{refl, sym, subst, Bool, true, ℕ, ◌≤◌, List, [], ◌∷◌, map, Option, arith}
use Rattle.std.specs.List.{list_all}
use Rattle.std.proofs.lemmas.Bool.{and_parts, and_from}
use Rattle.clause_store.specs.declared.Lit.{Lit}
use Rattle.clause_store.specs.declared.Label.TheVariants.{Structure}
use Rattle.clause_store.specs.Clauses.{Clauses}
use Rattle.clause_circuits.specs.Growth.{Says as ClausesSay, where_asked}
use Rattle.clause_formulas.specs.declared.defined.Defined.{Defined}
use Rattle.clause_formulas.specs.Statements.{Statement, eval, any_statement, SaidBelow}
use Rattle.clause_formulas.specs.Drafts.{statement_at}
use Rattle.clause_formulas.specs.Values.{DefinesValues}
use Rattle.clause_formulas.specs.Gated.{Gated, bare}
use Rattle.clause_formulas.specs.Allowed.{SaysIn}
use Rattle.clause_formulas.specs.Built.{Grown, Shared, assert_in, define_all_in, demand_all_in}
use Rattle.clause_formulas.proofs.Laws.{assert_in_is, define_all_is, demand_all_is}
use Rattle.clause_formulas.proofs.Words.{value-below}
use Rattle.clause_formulas.proofs.DraftLaws.{SaidBelow-le}
use Rattle.level_encoding.specs.Asserted.{assert_all, levels_on}
use Rattle.level_encoding.specs.Input.{LevelData}
use Rattle.level_encoding.specs.Encoding.{paths_of}
use Rattle.level_encoding.specs.Laws.{KeepsLevels}
use Rattle.level_encoding.proofs.AssertedLaws.{assert_all-says}
use Rattle.level_encoding.proofs.Told.{keeps as levels-keep}
use Rattle.graph_core.specs.Graphs.{Text, Content}
use Rattle.problem.specs.Nodes.{IsWellFormed}
use Rattle.problem.specs.Problems.{Problem, root_names}
use Rattle.problem.specs.Demands.{demands}
use Rattle.problem.specs.declared.demand.Demand.{Demand}
use Rattle.graph_rules.specs.Valid.{keeps, keeps_all, keeps_demand, structure_rules, valid_for}
use Rattle.graph_rules.specs.declared.rule.Rule.TheVariants as rules
use Rattle.literal_table.specs.Tables.{Table, table_names}
use Rattle.literal_table.specs.Spells.{Spells}
use Rattle.graph_levels.specs.Stages.{Nothing, Both, Models, Stage, Decodes}
use Rattle.graph_levels.specs.Rules.{Holds, FitsGates, ValuesSay, asked_among, KeepsAsked}
use Rattle.graph_levels.proofs.Growing.{added, restated}
use Rattle.graph_levels.proofs.Adapters.{asserted, defined, demanded, begun}
use Rattle.graph_levels.specs.Edges.{EdgesSay, EdgesBelow, edges_on}
use Rattle.graph_levels.specs.Levels.{SpellsEdges, AGraph, KeepsLevelRules, PathsSay, input_for, places_of}
use Rattle.graph_levels.proofs.EdgeLaws.{edges-are, edge-stage}
use Rattle.graph_levels.proofs.InputLaws.{input-right, lits-below}
use Rattle.graph_levels.proofs.LevelStage.{level-stage, path-below}
use Rattle.graph_encoding.specs.Formulas.{Formulas, PathFormulas, other_rules, IsSpelled, IsRightTable, PathsBelow, MetBelow, AreRightFormulas}
use Rattle.graph_encoding.specs.Encodings.{base, edges_made, levels_made, path_of, rules_on, encode_on, told_in, IsValid}
use Rattle.graph_encoding.proofs.JoinedRules.{rules-join, rules-part}

-- demands over the variables
demands-below : (n : ℕ) (f : Demand → Statement) → ((d : Demand) → SaidBelow n (f d)) → (ds : List Demand)
    → SaidBelow n (any_statement (map f ds))
demands-below n f each [] = tt
demands-below n f each (d ∷ ds) = (each d, demands-below n f each ds)

-- ---- the stages

module _ (problem : Problem) (t : Table) (n : ℕ) (f : Formulas) (decode : (ℕ → Bool) → Content)
    (right : IsRightTable problem t n f decode) where
  -- a graph of which some assignment spells all
  abbrev pub R0 : (ℕ → Bool) → Content → Type 0
  R0 asked g = IsWellFormed g × IsSpelled t g

  abbrev pub S0 : (ℕ → Bool) → Content → Type 0
  S0 v g = Spells v t g

  abbrev pub shaped : Clauses
  shaped = assert_all (base n) f.structure

  shaped-says : ClausesSay (base n) shaped (λ asked v. list_all (eval v) f.structure)
  shaped-says = assert_all-says f.structure (base n) right.structure_below

  -- models of the structure
  pub shaped-models : Models shaped S0 R0
  shaped-models = begun (base n) shaped S0 R0 (λ asked v. list_all (eval v) f.structure) refl right.local shaped-says
      (λ asked v h. let r = right.reads v h in (decode v, r.0, (r.1, (v, r.0))))
      (λ asked g r. (r.1.0, r.1.1, right.fits r.1.0 g r.1.1 r.0))

  -- a literal for each edge
  abbrev pub edged : Grown (List Lit)
  edged = edges_on shaped t.edges

  abbrev pub S1 : (ℕ → Bool) → Content → Type 0
  S1 v g = Spells v t g × EdgesSay t.edges edged.answer v g

  abbrev pub R1 : (ℕ → Bool) → Content → Type 0
  R1 asked g = R0 asked g × Unit {0}

  shaped-more : n ≤ shaped.vars
  shaped-more = shaped-says.grows.more

  edges-below : EdgesBelow shaped.vars t.edges
  edges-below k d lt = let h = right.edges_below k d lt in
      (omega (arith, shaped-more, h.0), omega (arith, shaped-more, h.1), omega (arith, shaped-more, h.2))

  edges-stage : Stage shaped edged.list S0 (EdgesSay t.edges edged.answer) R0 Nothing
  edges-stage = restated shaped edged.list S0 (EdgesSay t.edges edged.answer) AGraph Nothing S0 R0 (λ asked v g s r. s)
      (λ asked v g s r. r.0.is_graph) (edge-stage t right.table shaped edges-below)

  -- with the literals of edges
  pub edges-models : Models edged.list S1 R1
  edges-models = added shaped edged.list S0 (EdgesSay t.edges edged.answer) R0 Nothing shaped-models edges-stage

  edged-more : n ≤ edged.list.vars
  edged-more = omega (arith, shaped-more, edges-stage.grows.more)

  module _ (targets : List Text) where
    abbrev pub level_in : LevelData
    level_in = input_for t edged.answer (root_names problem) targets edged.list.vars

    abbrev pub levelled : Clauses
    levelled = levels_on level_in edged.list

    abbrev pub paths : List (Option Lit)
    paths = paths_of level_in

    levels-kept : KeepsLevels level_in edged.list levelled paths
    levels-kept = levels-keep level_in edged.list paths
        (input-right t edged.answer (root_names problem) targets edged.list.vars
        (λ k d lt. let h = right.nodes_below k d lt in omega (arith, edged-more, h))
        (lits-below shaped edged.list t.edges edged.answer (edges-are shaped t.edges edges-below).1)) refl refl

    abbrev pub P : (ℕ → Bool) → Content → Type 0
    P = PathsSay (table_names t) (places_of (table_names t) targets) paths

    abbrev pub S2 : (ℕ → Bool) → Content → Type 0
    S2 v g = S1 v g × P v g

    abbrev pub R2 : (ℕ → Bool) → Content → Type 0
    R2 asked g = R1 asked g × KeepsLevelRules problem asked g

    levels-stage : Stage edged.list levelled S1 P R1 (KeepsLevelRules problem)
    levels-stage = restated edged.list levelled (SpellsEdges t edged.answer) P AGraph (KeepsLevelRules problem) S1 R1 (λ asked v g s r. s)
        (λ asked v g s r. r.0.0.is_graph) (level-stage problem t edged.answer targets edged.list levelled paths right.table levels-kept)

    -- with levels
    pub levels-models : Models levelled S2 R2
    levels-models = added edged.list levelled S1 P R1 (KeepsLevelRules problem) edges-models levels-stage

    abbrev pub path : PathFormulas
    path = path_of t targets paths

    levelled-more : n ≤ levelled.vars
    levelled-more = omega (arith, edged-more, levels-stage.grows.more)

    paths-below : (m : ℕ) → levelled.vars ≤ m → PathsBelow m path
    paths-below m h from to = SaidBelow-le levelled.vars m (path from to) h
        (path-below levelled.vars paths levels-kept.in_range (table_names t) (places_of (table_names t) targets) from to)

    module _ (holds : ℕ → Content → Bool) (says : AreRightFormulas problem t n f (told_in t targets) holds) where
      -- values of conditions
      abbrev pub valued : Shared (List Defined)
      valued = define_all_in (bare levelled) (f.conditions path)

      abbrev pub defined-list : Clauses
      defined-list = valued.state.list

      abbrev pub met : ℕ → Statement
      met = statement_at valued.answer

      values-are : DefinesValues (bare levelled) valued.state valued.answer (f.conditions path)
      values-are = define_all_is (bare levelled) (f.conditions path) tt
          (says.conditions_below levelled.vars path levelled-more (paths-below levelled.vars (omega arith)))

      abbrev pub S3 : (ℕ → Bool) → Content → Type 0
      S3 v g = S2 v g × (ValuesSay valued.answer holds v g × FitsGates valued.state.gates v g)

      abbrev pub R3 : (ℕ → Bool) → Content → Type 0
      R3 asked g = R2 asked g × Unit {0}

      values-stage : Stage levelled defined-list S2 (Both (ValuesSay valued.answer holds) (FitsGates valued.state.gates)) R2 Nothing
      values-stage = defined (bare levelled) valued.state S2 R2 (λ v g s. tt) valued.answer (f.conditions path) holds values-are
          (λ k asked v g s r. says.conditions_say v g path s.0.0 r.0.0.0 s.1 k)

      -- with the values of conditions
      pub values-models : Models defined-list S3 R3
      values-models = added levelled defined-list S2 (Both (ValuesSay valued.answer holds) (FitsGates valued.state.gates)) R2 Nothing
          levels-models values-stage

      valued-more : levelled.vars ≤ defined-list.vars
      valued-more = values-stage.grows.more

      met-below : (m : ℕ) → defined-list.vars ≤ m → MetBelow m met
      met-below m h k = SaidBelow-le defined-list.vars m (met k) h
          (value-below (bare levelled) valued.state valued.answer (f.conditions path) values-are.means k)

      -- the rules that are always asked
      abbrev pub ruled : Gated
      ruled = assert_in Structure valued.state true (f.rules path met)

      abbrev pub R4 : (ℕ → Bool) → Content → Type 0
      R4 asked g = R3 asked g × Holds (keeps_all other_rules problem) asked g

      abbrev pub S4 : (ℕ → Bool) → Content → Type 0
      S4 v g = S3 v g × FitsGates ruled.gates v g

      rules-said : SaysIn valued.state ruled (where_asked Structure (λ v. eval v (f.rules path met)))
      rules-said = assert_in_is Structure (f.rules path met) true valued.state values-are.keeps.below
          (says.rules_below defined-list.vars path met (omega (arith, levelled-more, valued-more))
          (paths-below defined-list.vars valued-more)
          (met-below defined-list.vars (omega arith)))

      rules-stage : Stage defined-list ruled.list S3 (FitsGates ruled.gates) R3 (Holds (keeps_all other_rules problem))
      rules-stage = asserted valued.state ruled S3 R3 (λ v g s. s.1.1) (f.rules path met) (keeps_all other_rules problem) rules-said
          (λ asked v g s r. says.rules_say v g path met s.0.0.0 r.0.0.0.0 s.0.1 s.1.0)

      -- with the rules
      pub rules-models : Models ruled.list S4 R4
      rules-models = added defined-list ruled.list S3 (FitsGates ruled.gates) R3 (Holds (keeps_all other_rules problem))
          values-models rules-stage

      ruled-more : defined-list.vars ≤ ruled.list.vars
      ruled-more = rules-stage.grows.more

      -- the demands
      abbrev pub demanding : Gated
      demanding = demand_all_in ruled 0 (map (f.demand path met) (demands problem))

      abbrev pub whole : Clauses
      whole = demanding.list

      abbrev pub K : (ℕ → Bool) → Content → Type 0
      K = KeepsAsked (λ g d. keeps_demand problem g d) (demands problem)

      abbrev pub S5 : (ℕ → Bool) → Content → Type 0
      S5 v g = S4 v g × FitsGates demanding.gates v g

      abbrev pub R5 : (ℕ → Bool) → Content → Type 0
      R5 asked g = R4 asked g × K asked g

      demands-stage : Stage ruled.list whole S4 (FitsGates demanding.gates) R4 K
      demands-stage = demanded ruled demanding S4 R4 (λ v g s. s.1) (demands problem) (f.demand path met) (λ g d. keeps_demand problem g d)
          (demand_all_is ruled 0 (map (f.demand path met) (demands problem)) rules-said.allows.below
          (demands-below ruled.list.vars (f.demand path met) (λ d. says.demand_below ruled.list.vars path met d
          (omega (arith, levelled-more, valued-more, ruled-more)) (paths-below ruled.list.vars (omega (arith, valued-more, ruled-more)))
          (met-below ruled.list.vars ruled-more)) (demands problem)))
          (λ d asked v g s r. says.demand_says v g path met d s.0.0.0.0 r.0.0.0.0.0 s.0.0.1 s.0.1.0)

      -- and with the demands
      pub whole-models : Models whole S5 R5
      whole-models = added ruled.list whole S4 (FitsGates demanding.gates) R4 K rules-models demands-stage

      -- ---- valid graphs

      -- what all stages say of a graph is that it is valid
      pub is-valid : (asked : ℕ → Bool) (g : Content) → R5 asked g → IsValid problem asked g
      unfolding valid_for
      is-valid asked g r = (
        r.0.0.0.0.0.0,
        and_from (keeps_all structure_rules problem g) (list_all (keeps_demand problem g) (asked_among asked 0 (demands problem)))
            (rules-join problem g r.0.1 r.0.0.0.1) r.1,
      )

      -- and the other way
      pub valid-is : (asked : ℕ → Bool) (g : Content) → IsValid problem asked g → R5 asked g
      unfolding valid_for
      valid-is asked g ok =
          let p = and_parts (keeps_all structure_rules problem g)
          (list_all (keeps_demand problem g) (asked_among asked 0 (demands problem))) ok.1 in
          let q = rules-part problem g p.0 in
          (((((((ok.0, right.spelled (asked_among asked 0 (demands problem)) g ok.0 ok.1), tt), q.1), tt), q.0), p.1))

      -- so models decode to just the valid graphs
      pub whole-decodes : Decodes whole decode (IsValid problem)
      whole-decodes = record {
        sound = λ asked v m.
            let w = whole-models.sound asked v m in
            let ok = is-valid asked w.0 w.2 in
            subst (IsValid problem asked) (sym (right.decoded v w.0 w.1.0.0.0.0.0 ok.0)) ok;
        complete = λ asked g ok.
            let w = whole-models.complete asked g (valid-is asked g ok) in
            (w.0, right.decoded w.0 g w.1.0.0.0.0.0 ok.0, w.2);
      }

      -- of the whole encoding
      pub encoded : Decodes (encode_on problem t n f targets) decode (IsValid problem)
      unfolding encode_on rules_on levels_made edges_made
      encoded = whole-decodes

      -- ---- variables

      whole-later : defined-list.vars ≤ whole.vars
      whole-later = omega (arith, ruled-more, demands-stage.grows.more)

      -- its variables are in range
      pub in-range : (n ≤ (encode_on problem t n f targets).vars) × MetBelow (encode_on problem t n f targets).vars met
      unfolding encode_on rules_on levels_made edges_made
      in-range = (omega (arith, levelled-more, valued-more, whole-later), met-below whole.vars whole-later)
