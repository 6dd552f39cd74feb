-- The clauses of each problem are in order.
use Rattle.std.proofs.Common.{ℕ, true, false, List, [], ◌∷◌, map}
use Rattle.clause_store.specs.Clauses.{Clauses}
use Rattle.clause_store.specs.declared.Label.TheVariants.{Structure}
use Rattle.clause_circuits.specs.Steps.{plan_at}
use Rattle.clause_formulas.specs.declared.defined.Defined.{Defined}
use Rattle.clause_formulas.specs.declared.defined.Defined.TheVariants.{Known, By}
use Rattle.clause_formulas.specs.Built.{assert_in, assert_on, define_all_in, define_in, define_on}
use Rattle.clause_formulas.specs.Drafts.{statement_at}
use Rattle.clause_formulas.specs.Gated.{Gated, bare}
use Rattle.clause_formulas.specs.Statements.{Statement}
use Rattle.level_encoding.specs.Asserted.{assert_all, levels_on, with_vars}
use Rattle.level_encoding.specs.Encoding.{constraints, end}
use Rattle.level_encoding.specs.Input.{LevelData}
use Rattle.literal_table.specs.Edges.{edge_there}
use Rattle.literal_table.specs.Tables.{Table}
use Rattle.literal_table.specs.declared.block.EdgeLits.{EdgeLits}
use Rattle.graph_core.specs.Graphs.{Text}
use Rattle.graph_levels.specs.Edges.{edge_on, edges_on}
use Rattle.graph_encoding.specs.Encodings.{base, edges_made, encode_on, level_input, levels_made, path_of, rules_on}
use Rattle.graph_encoding.specs.Formulas.{Formulas, PathFormulas}
use Rattle.problem.specs.Demands.{demands}
use Rattle.problem.specs.Problems.{Problem}
use Rattle.criteria_totals.specs.Totals.{totals_on}
use Rattle.cost_terms.specs.declared.weighted.Weighted.{Weighted}
use Rattle.cost_terms.specs.Built.{define_totals_on}
use Rattle.cost_terms.specs.Weighed.{lists_in, lists_on, one_in, term_on, terms_in}
use Rattle.ranked_costs.specs.Built.{rank_costs_on}
use Rattle.problem_encoding.specs.Built.{encoding_of, rule_clauses}
use Rattle.encoding_laws.proofs.Ordered.{IsOrdered, all_defined, all_demanded, asserted, asserted_alone, defined, defined_alone, gates_in, literal_made}

-- ---- structure, levels and edges

all_asserted : (s : Clauses) (fs : List Statement) → IsOrdered s → IsOrdered (assert_all s fs)
unfolding assert_all
all_asserted s [] o = o
all_asserted s (f ∷ fs) o = all_asserted (assert_on Structure s true f) fs (asserted_alone Structure s true f o)

levels : (s : LevelData) (old : Clauses) → IsOrdered old → IsOrdered (levels_on s old)
unfolding levels_on
levels s old o = all_asserted (with_vars old (end s)) (constraints s) o

edge : (s : Clauses) (e : EdgeLits) → IsOrdered s → IsOrdered (edge_on s e).list
unfolding edge_on
edge s e o = literal_made (define_on s (edge_there e)).list (define_on s (edge_there e)).answer (defined_alone s (edge_there e) o)

edges : (s : Clauses) (es : List EdgeLits) → IsOrdered s → IsOrdered (edges_on s es).list
edges s [] o = o
edges s (e ∷ es) o = edges (edge_on s e).list es (edge s e o)

-- ---- the rules

first_made : (t : Table) (n : ℕ) (f : Formulas) → IsOrdered (edges_made t n f).list
unfolding edges_made
first_made t n f = edges (assert_all (base n) f.structure) t.edges (all_asserted (base n) f.structure tt)

then_levels : (problem : Problem) (t : Table) (n : ℕ) (f : Formulas) (targets : List Text) → IsOrdered (levels_made problem t n f targets).list
unfolding levels_made
then_levels problem t n f targets =
    levels (level_input problem t targets (edges_made t n f)) (edges_made t n f).list (first_made t n f)

then_rules : (problem : Problem) (f : Formulas) (path : PathFormulas) (s : Clauses) → IsOrdered s → IsOrdered (rules_on problem f path s)
unfolding rules_on
then_rules problem f path s o =
    let m = define_all_in (bare s) (f.conditions path) in
    let rules = f.rules path (statement_at m.answer) in
    all_demanded (assert_in Structure m.state true rules) 0 (map (f.demand path (statement_at m.answer)) (demands problem))
    (asserted Structure m.state true rules (all_defined (bare s) (f.conditions path) o))

encoded : (problem : Problem) (t : Table) (n : ℕ) (f : Formulas) (targets : List Text) → IsOrdered (encode_on problem t n f targets)
unfolding encode_on
encoded problem t n f targets =
    let m = levels_made problem t n f targets in
    then_rules problem f (path_of t targets m.answer) m.list (then_levels problem t n f targets)

-- the clauses of the rules
pub rules_ordered : (problem : Problem) → IsOrdered (rule_clauses problem)
rules_ordered problem = encoded problem _ _ _ _

-- ---- costs

term : (s : Clauses) (weight : ℕ) (d : Defined) → IsOrdered s → IsOrdered (term_on s weight d).list
term s weight (Known false) o = o
term s weight (Known true) o = literal_made s (Known true) o
term s weight (By l) o = literal_made s (By l) o

one-ordered : (s : Gated) (t : Weighted) → IsOrdered s.list → IsOrdered (one_in s t).state.list
unfolding one_in
one-ordered s t o = term (define_in s t.formula).state.list t.weight (define_in s t.formula).answer (defined s t.formula o)

terms : (s : Gated) (ts : List Weighted) → IsOrdered s.list → IsOrdered (terms_in s ts).state.list
terms s [] o = o
terms s (t ∷ ts) o = terms (one_in s t).state ts (one-ordered s t o)

lists : (s : Gated) (ls : List (List Weighted)) → IsOrdered s.list → IsOrdered (lists_in s ls).state.list
lists s [] o = o
lists s (ts ∷ ls) o = lists (terms_in s ts).state ls (terms s ts o)

totals : (s : Clauses) (ls : List (List Weighted)) → IsOrdered s → IsOrdered (define_totals_on s ls).list
unfolding define_totals_on
totals s ls o =
    gates_in (lists_on s ls).list (totals_on (plan_at (lists_on s ls).list) (lists_on s ls).answer).plan.gates (lists (bare s) ls o)

-- all clauses
pub all_ordered : (problem : Problem) → IsOrdered (encoding_of problem).clauses
unfolding encoding_of rank_costs_on
all_ordered problem = totals (rule_clauses problem) _ (rules_ordered problem)
