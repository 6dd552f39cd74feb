-- The code of an encoding, step by step.
use Rattle.std.proofs.Common.{◌≡◌, refl, sym, ap, subst, ◌∙◌, true, ℕ, suc, ◌+◌, ◌<◌, ◌≤◌, List, [], ◌∷◌, length, map, drop, get_or, Option, Some, None, arith}
use Rattle.std.specs.List.{AllZip, slice_get}
use Rattle.std.proofs.lemmas.List.{drop_more}
use Rattle.std.proofs.lemmas.Option.{none-some, slice_get_within, slice_get-get_or, get_or_from_slice_get}
use Rattle.clause_store.specs.declared.Lit.{Lit}
use Rattle.clause_store.specs.declared.Label.TheVariants.{Structure}
use Rattle.clause_store.specs.Lits.{AllBelow}
use Rattle.clause_store.specs.Clauses.{Clauses}
use Rattle.clause_formulas.specs.Statements.{Statement, any_statement, SaidBelow}
use Rattle.clause_formulas.specs.Drafts.{statement_at}
use Rattle.clause_formulas.specs.declared.defined.Defined.{Defined}
use Rattle.clause_formulas.specs.Values.{DefinesValues}
use Rattle.clause_formulas.specs.Gated.{Gate, Gated, gated, bare}
use Rattle.clause_formulas.specs.Built.{Grown, Shared, assert_in, define_all_in, demand_in, demand_all_in}
use Rattle.clause_formulas.proofs.DraftLaws.{SaidBelow-le}
use Rattle.clause_formulas.proofs.Words.{value-below}
use Rattle.level_encoding.specs.Asserted.{assert_all, levels_on}
use Rattle.level_encoding.specs.Encoding.{paths_of}
use Rattle.graph_core.specs.Graphs.{Text}
use Rattle.problem.specs.Problems.{Problem, root_names}
use Rattle.problem.specs.Demands.{demands}
use Rattle.problem.specs.declared.demand.Demand.{Demand}
use Rattle.problem.specs.declared.demand.Demand.TheVariants as demand
use Rattle.literal_table.specs.Tables.{Table, table_names}
use Rattle.literal_table.specs.declared.block.EdgeLits.{EdgeLits}
use Rattle.graph_levels.specs.Edges.{edges_on, EdgesBelow}
use Rattle.graph_levels.specs.Levels.{input_for, places_of, PresentBelow, PathTable, path_table}
use Rattle.graph_levels.proofs.EdgeLaws.{edges-are, Told}
use Rattle.graph_levels.proofs.InputLaws.{lits-below}
use Rattle.graph_encoding.specs.Formulas.{Formulas, PathFormulas, PathsBelow}
use Rattle.graph_encoding.specs.Encodings.{base, edges_made, levels_made, path_of, rules_on, encode_on}
use Rattle.graph_encoding.specs.Best.{values_for}
use Rattle.graph_encoding.specs.Ranges.{path_words, AreInRange}

-- ---- edges

zip-length : (s t : Clauses) (es : List EdgeLits) (ls : List Lit) → AllZip (Told s t) es ls → length ls ≡ length es
zip-length s t [] [] all = refl
zip-length s t [] (l ∷ ls) all = elim all [ ]
zip-length s t (e ∷ es) [] all = elim all [ ]
zip-length s t (e ∷ es) (l ∷ ls) all = ap (λ k. suc k) (zip-length s t es ls all.1)

-- the literals of edges are known behind them
pub edges_known : (t : Table) (old new : Clauses) (ls : List Lit) → EdgesBelow old.vars t.edges
    → edges_on old t.edges ≡ record { list = new; answer = ls } → AllBelow new.vars ls × (length ls ≡ length t.edges)
    × (old.vars ≤ new.vars)
edges_known t old new ls below e =
    let a = edges-are old t.edges below in
    subst (λ (m : Grown (List Lit)). AllBelow m.list.vars m.answer × (length m.answer ≡ length t.edges) × (old.vars ≤ m.list.vars)) e (
      lits-below old (edges_on old t.edges).list t.edges (edges_on old t.edges).answer a.1,
      zip-length old (edges_on old t.edges).list t.edges (edges_on old t.edges).answer a.1,
      a.0.says.grows.more,
    )

-- what is below a number is below a greater one
pub edges_later : (t : Table) (m n : ℕ) → m ≤ n → EdgesBelow m t.edges → EdgesBelow n t.edges
edges_later t m n h below = λ k d lt. let e = below k d lt in (omega (arith, h, e.0), omega (arith, h, e.1), omega (arith, h, e.2))

-- so with nodes
pub nodes_later : (t : Table) (m n : ℕ) → m ≤ n → PresentBelow m t → PresentBelow n t
nodes_later t m n h below = λ k d lt. let e = below k d lt in omega (arith, h, e)

-- ---- the structure, edges and levels

-- the levels are those of the definition
pub levels_step : (problem : Problem) (t : Table) (n : ℕ) (f : Formulas) (targets : List Text) (shaped edged new : Clauses)
    (fs : List Statement)
    (ls : List Lit) (made : PathTable) → shaped ≡ assert_all (base n) fs → fs ≡ f.structure
    → edges_on shaped t.edges ≡ record { list = edged; answer = ls }
    → new ≡ levels_on (input_for t ls (root_names problem) targets edged.vars) edged
    → made ≡ path_table (places_of (table_names t) targets) (paths_of (input_for t ls (root_names problem) targets edged.vars))
    → levels_made problem t n f targets ≡ record { list = new; answer = made.paths }
unfolding levels_made edges_made
levels_step problem t n f targets shaped edged new fs ls made a b e c d =
    ap (λ (m : Grown (List Lit)). let s = input_for t m.answer (root_names problem) targets m.list.vars in
    record { list = levels_on s m.list; answer = paths_of s })
    (ap (λ s. edges_on s t.edges) (ap (assert_all (base n)) (sym b) ∙ sym a) ∙ e)
    ∙ ap (λ l. record { list = l; answer = paths_of (input_for t ls (root_names problem) targets edged.vars) }) (sym c)
    ∙ ap (λ ps. record { list = new; answer = ps }) (ap (λ (p : PathTable). p.paths) (sym d))

-- ---- the rules

-- the formulas of conditions are in range
pub conditions_range : (t : Table) (n : ℕ) (f : Formulas) (old : Clauses) (path : PathFormulas) (fs : List Statement) → AreInRange t n f
    → n ≤ old.vars
    → PathsBelow old.vars path → fs ≡ f.conditions path → SaidBelow old.vars (any_statement fs)
conditions_range t n f old path fs range more paths e =
    subst (λ gs. SaidBelow old.vars (any_statement gs)) (sym e) (range.conditions old.vars path more paths)

paths-later : (m n : ℕ) (path : PathFormulas) → m ≤ n → PathsBelow m path → PathsBelow n path
paths-later m n path h below from to = SaidBelow-le m n (path from to) h (below from to)

-- that of the rules
pub rules_range : (t : Table) (n : ℕ) (f : Formulas) (old mid : Gated) (path : PathFormulas) (ds : List Defined) (fs : List Statement)
    (rule : Statement)
    → AreInRange t n f → n ≤ old.list.vars → PathsBelow old.list.vars path → DefinesValues old mid ds fs
    → rule ≡ f.rules path (statement_at ds) → SaidBelow mid.list.vars rule
rules_range t n f old mid path ds fs rule range more paths values e =
    let later : old.list.vars ≤ mid.list.vars = values.defines.says.grows.more in
    subst (SaidBelow mid.list.vars) (sym e) (range.rules mid.list.vars path (statement_at ds) (omega (arith, more, later))
    (paths-later old.list.vars mid.list.vars path later paths) (λ k. value-below old mid ds fs values.means k))

-- those of the demands
pub demand_range : (t : Table) (n : ℕ) (f : Formulas) (old mid : Gated) (late : ℕ) (path : PathFormulas) (ds : List Defined)
    (fs : List Statement) → AreInRange t n f → n ≤ old.list.vars → PathsBelow old.list.vars path → DefinesValues old mid ds fs
    → mid.list.vars ≤ late → (d : Demand) → SaidBelow late (f.demand path (statement_at ds) d)
demand_range t n f old mid late path ds fs range more paths values h d =
    let later : old.list.vars ≤ mid.list.vars = values.defines.says.grows.more in
    range.demand late path (statement_at ds) d (omega (arith, more, later, h))
    (paths-later old.list.vars late path (omega (arith, later, h)) paths)
    (λ k. SaidBelow-le mid.list.vars late (statement_at ds k) h (value-below old mid ds fs values.means k))

-- the rules are those of the definition
pub rules_step : (problem : Problem) (f : Formulas) (path : PathFormulas) (old : Clauses) (none : List Gate) (mid late new : Gated)
    (fs : List Statement) (ds : List Defined) (rule : Statement) → none ≡ [] → fs ≡ f.conditions path
    → define_all_in (gated old none) fs ≡ record { state = mid; answer = ds }
    → rule ≡ f.rules path (statement_at ds) → assert_in Structure mid true rule ≡ late
    → demand_all_in late 0 (map (f.demand path (statement_at ds)) (demands problem)) ≡ new → rules_on problem f path old ≡ new.list
unfolding rules_on
rules_step problem f path old none mid late new fs ds rule empty a b c d g =
    ap (λ (m : Shared (List Defined)). (demand_all_in (assert_in Structure m.state true (f.rules path (statement_at m.answer))) 0
    (map (f.demand path (statement_at m.answer)) (demands problem))).list)
    (ap (λ gs. define_all_in (gated old gs) (f.conditions path)) (sym empty) ∙ ap (define_all_in (gated old none)) (sym a) ∙ b)
    ∙ ap (λ s. (demand_all_in s 0 (map (f.demand path (statement_at ds)) (demands problem))).list)
    (ap (assert_in Structure mid true) (sym c) ∙ d)
    ∙ ap (λ (s : Gated). s.list) g

-- ---- demands, one by one

-- one demand more
pub demand_more : (say : Demand → Statement) (ds : List Demand) (old new all : Gated) (i : ℕ) (d : Demand) → slice_get ds i ≡ Some d
    → demand_in old (say d) i ≡ new → demand_all_in old i (map say (drop i ds)) ≡ all
    → demand_all_in new (i + 1) (map say (drop (i + 1) ds)) ≡ all
demand_more say ds old new all i d e b rest =
    let at : get_or ds i d ≡ d = get_or_from_slice_get ds i d d e in
    let cut : drop i ds ≡ d ∷ drop (i + 1) ds = drop_more ds i d (slice_get_within ds i d e) ∙ ap (λ x. x ∷ drop (i + 1) ds) at in
    ap (λ s. demand_all_in s (i + 1) (map say (drop (i + 1) ds))) (sym b)
    ∙ sym (ap (λ xs. demand_all_in old i (map say xs)) cut) ∙ rest

-- no demand is left out
pub demand_gap : (ds : List Demand) (i : ℕ) → i < length ds → slice_get ds i ≡ None → ⊥
demand_gap ds i h e = none-some (get_or ds i (demand.Root 0)) (sym e ∙ slice_get-get_or ds i (demand.Root 0) h)

-- ---- all of it

-- the whole is that of the definition
pub encode_step : (problem : Problem) (t : Table) (n : ℕ) (f : Formulas) (targets : List Text) (mid new : Clauses) (made : PathTable)
    → levels_made problem t n f targets ≡ record { list = mid; answer = made.paths } → made.targets ≡ places_of (table_names t) targets
    → rules_on problem f (path_words t made) mid ≡ new → encode_on problem t n f targets ≡ new
unfolding encode_on
encode_step problem t n f targets mid new made a b c =
    ap (λ (m : Grown (List (Option Lit))). rules_on problem f (path_of t targets m.answer) m.list) a
    ∙ ap (λ ts. rules_on problem f (path_words t (path_table ts made.paths)) mid) (sym b) ∙ c

-- what is defined for the conditions
pub values_step : (problem : Problem) (t : Table) (n : ℕ) (f : Formulas) (targets : List Text) (mid : Clauses) (made : PathTable)
    (ds : List Defined)
    → levels_made problem t n f targets ≡ record { list = mid; answer = made.paths } → made.targets ≡ places_of (table_names t) targets
    → ds ≡ (define_all_in (bare mid) (f.conditions (path_words t made))).answer → ds ≡ values_for problem t n f targets
values_step problem t n f targets mid made ds a b c = sym (
    ap (λ (m : Grown (List (Option Lit))). (define_all_in (bare m.list) (f.conditions (path_of t targets m.answer))).answer) a
    ∙ ap (λ ts. (define_all_in (bare mid) (f.conditions (path_words t (path_table ts made.paths)))).answer) (sym b) ∙ sym c)

-- the values of the code are those of the definition
pub values_made : (old : Clauses) (none : List Gate) (mid : Gated) (fs gs : List Statement) (ds : List Defined) → none ≡ [] → fs ≡ gs
    → define_all_in (gated old none) fs ≡ record { state = mid; answer = ds } → ds ≡ (define_all_in (bare old) gs).answer
values_made old none mid fs gs ds empty a b =
    sym (ap (λ (m : Shared (List Defined)). m.answer)
    (ap (λ hs. define_all_in (gated old hs) gs) (sym empty) ∙ ap (define_all_in (gated old none)) (sym a) ∙ b))
