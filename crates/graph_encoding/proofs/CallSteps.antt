-- Steps in the form in which calls give their facts.
use Rattle.std.proofs.Common.{◌≡◌, sym, ap, subst, ◌∙◌, Bool, true, ℕ, ◌+◌, ◌≤◌, List, [], length, map, Result, Ok, Err, IfOk, arith}
use Rattle.clause_store.specs.declared.Lit.{Lit}
use Rattle.clause_store.specs.Lits.{AllBelow}
use Rattle.clause_store.specs.declared.Label.TheVariants.{Structure}
use Rattle.clause_store.specs.Clauses.{Clauses}
use Rattle.clause_formulas.specs.Statements.{Statement, SaidBelow}
use Rattle.clause_formulas.specs.Drafts.{statement_at}
use Rattle.clause_formulas.specs.declared.defined.Defined.{Defined}
use Rattle.clause_formulas.specs.Values.{DefinesValues}
use Rattle.clause_formulas.specs.Gated.{Gate, Gated, gated}
use Rattle.clause_formulas.specs.Built.{assert_in, define_all_in, demand_all_in}
use Rattle.level_encoding.specs.Asserted.{assert_all, levels_on, with_vars}
use Rattle.level_encoding.specs.Encoding.{paths_of}
use Rattle.graph_core.specs.Graphs.{Text, Content}
use Rattle.problem.specs.Problems.{Problem, root_names}
use Rattle.problem.specs.Demands.{demands}
use Rattle.problem.specs.declared.demand.Demand.{Demand}
use Rattle.literal_table.specs.Tables.{Table, table_names}
use Rattle.graph_levels.specs.Stages.{Decodes}
use Rattle.graph_levels.specs.Edges.{edges_on}
use Rattle.graph_levels.specs.Levels.{input_for, places_of, PathTable, path_table}
use Rattle.graph_encoding.specs.Formulas.{Formulas, PathFormulas, PathsBelow, IsRightTable, AreRightFormulas}
use Rattle.graph_encoding.specs.Encodings.{base, levels_made, rules_on, encode_on, told_in, IsValid}
use Rattle.graph_encoding.proofs.Joining.{encoded}
use Rattle.graph_encoding.specs.Ranges.{AreInRange}
use Rattle.graph_encoding.proofs.Steps.{edges_known, edges_later, levels_step, rules_range, demand_range, rules_step}

-- two facts of an answer give a third
pub if_both : {T E : Type 0} (r : Result T E) (P Q R : T → Type 0) → ((x : T) → P x → Q x → R x) → IfOk r P → IfOk r Q → IfOk r R
if_both (Ok x) P Q R h p q = h x p q
if_both (Err y) P Q R h p q = tt

-- an empty list with the variables of the table
pub base_made : (old made : Clauses) (n : ℕ) → old ≡ record { entries = []; vars = 0 } → made ≡ with_vars old (old.vars + n) → made ≡ base n
base_made old made n e h =
    let none : 0 + n ≡ n = omega arith in
    h ∙ ap (λ (s : Clauses). with_vars s (s.vars + n)) e ∙ ap base none

-- a literal for each edge
pub edges_fit : (t : Table) (n : ℕ) (f : Formulas) (old made shaped edged : Clauses) (ls lits : List Lit) → AreInRange t n f
    → made ≡ with_vars old (old.vars + n) → made.vars ≤ shaped.vars → edges_on shaped t.edges ≡ record { list = edged; answer = ls }
    → lits ≡ ls → AllBelow edged.vars lits × (length lits ≡ length t.edges)
edges_fit t n f old made shaped edged ls lits range m more e same =
    let size : made.vars ≡ old.vars + n = ap (λ (s : Clauses). s.vars) m in
    let known = edges_known t shaped edged ls (edges_later t n shaped.vars (omega (arith, size, more)) range.edges) e in
    subst (λ xs. AllBelow edged.vars xs × (length xs ≡ length t.edges)) (sym same) (known.0, known.1)

-- the clauses up to the levels
pub structure_made : (problem : Problem) (t : Table) (n : ℕ) (f : Formulas) (targets : List Text) (old made shaped edged new : Clauses)
    (fs : List Statement) (ls lits : List Lit) (paths : PathTable) → old ≡ record { entries = []; vars = 0 }
    → made ≡ with_vars old (old.vars + n) → shaped ≡ assert_all made fs → fs ≡ f.structure
    → edges_on shaped t.edges ≡ record { list = edged; answer = ls } → lits ≡ ls
    → new ≡ levels_on (input_for t lits (root_names problem) targets edged.vars) edged
    → paths ≡ path_table (places_of (table_names t) targets) (paths_of (input_for t lits (root_names problem) targets edged.vars))
    → levels_made problem t n f targets ≡ record { list = new; answer = paths.paths }
structure_made problem t n f targets old made shaped edged new fs ls lits paths o m a b e same c d =
    levels_step problem t n f targets shaped edged new fs lits paths (a ∙ ap (λ s. assert_all s fs) (base_made old made n o m)) b
    (e ∙ ap (λ xs. record { list = edged; answer = xs }) (sym same)) c d

-- the formula of the rules is in range
pub rules_fit : (t : Table) (n : ℕ) (f : Formulas) (old mid : Gated) (path : PathFormulas) (ds xs : List Defined) (fs : List Statement)
    (rule : Statement)
    → AreInRange t n f → n ≤ old.list.vars → PathsBelow old.list.vars path → DefinesValues old mid ds fs → xs ≡ ds
    → rule ≡ f.rules path (statement_at xs) → SaidBelow mid.list.vars rule
rules_fit t n f old mid path ds xs fs rule range more paths values same e =
    rules_range t n f old mid path ds fs rule range more paths values (e ∙ ap (λ zs. f.rules path (statement_at zs)) same)

-- so are those of the demands
pub demands_fit : (t : Table) (n : ℕ) (f : Formulas) (old mid : Gated) (late : ℕ) (path : PathFormulas) (ds xs : List Defined)
    (fs : List Statement) → AreInRange t n f → n ≤ old.list.vars → PathsBelow old.list.vars path → DefinesValues old mid ds fs
    → mid.list.vars ≤ late → xs ≡ ds → (d : Demand) → SaidBelow late (f.demand path (statement_at xs) d)
demands_fit t n f old mid late path ds xs fs range more paths values later same =
    subst (λ zs. (d : Demand) → SaidBelow late (f.demand path (statement_at zs) d)) (sym same)
    (demand_range t n f old mid late path ds fs range more paths values later)

-- the clauses of the rules
pub rules_made : (problem : Problem) (f : Formulas) (path : PathFormulas) (old : Clauses) (none : List Gate) (mid late new : Gated)
    (fs : List Statement) (ds xs ys : List Defined) (rule : Statement) → none ≡ [] → fs ≡ f.conditions path
    → define_all_in (gated old none) fs ≡ record { state = mid; answer = ds }
    → xs ≡ ds → rule ≡ f.rules path (statement_at xs) → assert_in Structure mid true rule ≡ late → ys ≡ ds
    → demand_all_in late 0 (map (f.demand path (statement_at ys)) (demands problem)) ≡ new → rules_on problem f path old ≡ new.list
rules_made problem f path old none mid late new fs ds xs ys rule empty a b same c d same_too e =
    rules_step problem f path old none mid late new fs ds rule empty a b (c ∙ ap (λ zs. f.rules path (statement_at zs)) same) d
    (ap (λ zs. demand_all_in late 0 (map (f.demand path (statement_at zs)) (demands problem))) (sym same_too) ∙ e)

-- what was made decodes to the valid graphs
pub decodes_step : (problem : Problem) (t : Table) (n : ℕ) (f : Formulas) (targets : List Text) (new : Clauses)
    → encode_on problem t n f targets ≡ new → (decode : (ℕ → Bool) → Content) (holds : ℕ → Content → Bool)
    → IsRightTable problem t n f decode
    → AreRightFormulas problem t n f (told_in t targets) holds → Decodes {X = Content} new decode (IsValid problem)
decodes_step problem t n f targets new e decode holds right says =
    subst (λ s. Decodes {X = Content} s decode (IsValid problem)) e (encoded problem t n f decode right targets holds says)

-- a right table and right formulas are in range
pub ranges_of : (problem : Problem) (t : Table) (n : ℕ) (f : Formulas) (decode : (ℕ → Bool) → Content) (told : Text → Bool)
    (holds : ℕ → Content → Bool) → IsRightTable problem t n f decode → AreRightFormulas problem t n f told holds → AreInRange t n f
ranges_of problem t n f decode told holds right says = record {
  edges = right.edges_below;
  nodes = right.nodes_below;
  structure = right.structure_below;
  conditions = says.conditions_below;
  rules = says.rules_below;
  demand = says.demand_below;
}
