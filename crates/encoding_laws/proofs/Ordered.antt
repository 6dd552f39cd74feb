-- Clauses stay in order through all that makes more of them.
use Rattle.std.proofs.Common.{◌≡◌, refl, ℕ, Bool, true, false, cond, List, [], ◌∷◌, ◌++◌, map, Option, Some, None}
use Rattle.clause_store.specs.declared.Label.{Label}
use Rattle.clause_store.specs.declared.Label.TheVariants.{Demand}
use Rattle.clause_store.specs.declared.Lit.{Lit}
use Rattle.clause_store.specs.declared.list.Entry.{Entry}
use Rattle.clause_store.specs.Clauses.{Clauses}
use Rattle.clause_store.specs.Kept.{AllInOrder}
use Rattle.clause_store.specs.Lits.{IsClause, clause_of, negation}
use Rattle.clause_store.proofs.Sets.{IsClause-clause_of}
use Rattle.clause_circuits.specs.Gates.{Sides, clauses_from, gate_rules, kept_clauses, labelled, lit_of, option_list, with_defined, with_gates}
use Rattle.clause_circuits.specs.Shapes.{any_of as some_of, cover_rules, with_cover}
use Rattle.clause_formulas.specs.declared.defined.Defined.{Defined}
use Rattle.clause_formulas.specs.declared.defined.Defined.TheVariants.{Known, By}
use Rattle.clause_formulas.specs.Built.{
  Grown,
  Shared,
  ask_in,
  assert_in,
  assert_on,
  by_clause,
  by_cover,
  cover_on,
  covered_on,
  define_all_in,
  define_in,
  define_on,
  demand_all_in,
  demand_in,
  found_or,
  literal_on,
  named_in,
  or_in,
  or_on,
  spread_in,
  with_draft,
  with_kept,
}
use Rattle.clause_formulas.specs.Drafts.{ClauseDraft, draft_with, empty}
use Rattle.clause_formulas.specs.Gated.{Gated, bare, gate_of}
use Rattle.clause_formulas.specs.Statements.{Statement, atom, never, or, no}

-- each clause of a list has its variables in rising order, each once
abbrev pub IsOrdered : Clauses → Type 0
IsOrdered s = AllInOrder s.entries

AreClauses : List (List Lit) → Type 0
AreClauses [] = Unit {0}
AreClauses (c ∷ cs) = IsClause c × AreClauses cs

-- ---- clauses of rules

both : (xs ys : List (List Lit)) → AreClauses xs → AreClauses ys → AreClauses (xs ++ ys)
unfolding AreClauses
both [] ys first second = second
both (x ∷ xs) ys first second = (first.0, both xs ys first.1 second)

some : (o : Option (List Lit)) → ((c : List Lit) → o ≡ Some c → IsClause c) → AreClauses (option_list o)
unfolding AreClauses
some None each = tt
some (Some c) each = (each c refl, tt)

kept : (ls : List Lit) → AreClauses (kept_clauses ls)
unfolding kept_clauses
kept ls = some (clause_of ls) (λ c e. IsClause-clause_of ls c e)

from_rules : (rs : List (List Lit)) → AreClauses (clauses_from rs)
unfolding AreClauses
from_rules [] = tt
from_rules (r ∷ rs) = both (kept_clauses r) (clauses_from rs) (kept r) (from_rules rs)

-- ---- lists of clauses

entries_in : (label : Label) (cs : List (List Lit)) → AreClauses cs → AllInOrder (map (labelled label) cs)
unfolding AreClauses
entries_in label [] are = tt
entries_in label (c ∷ cs) are = (are.0, entries_in label cs are.1)

more_in : (xs ys : List Entry) → AllInOrder xs → AllInOrder ys → AllInOrder (xs ++ ys)
more_in [] ys first second = second
more_in (x ∷ xs) ys first second = (first.0, more_in xs ys first.1 second)

defined_in : (s : Clauses) (cs : List (List Lit)) → AreClauses cs → IsOrdered s → IsOrdered (with_defined s cs)
defined_in s cs are o = more_in s.entries _ o (entries_in _ cs are)

-- gates put clauses in order behind others
pub gates_in : (s : Clauses) (gs : List Sides) → IsOrdered s → IsOrdered (with_gates s gs)
gates_in s [] o = o
gates_in s (g ∷ gs) o =
    defined_in (with_gates s gs) (clauses_from (gate_rules (lit_of (with_gates s gs).vars) g)) (from_rules _) (gates_in s gs o)

cover_in : (s : Clauses) (ls : List Lit) → IsOrdered s → IsOrdered (with_cover s ls)
cover_in s ls o = defined_in s (clauses_from (cover_rules (lit_of s.vars) ls)) (from_rules _) o

kept_in : (s : Clauses) (label : Label) (ls : List Lit) → IsOrdered s → IsOrdered (with_kept s label ls)
kept_in s label ls o = more_in s.entries _ o (entries_in label (kept_clauses ls) (kept ls))

-- ---- formulas

or_made : (s : Clauses) (ls : List Lit) → IsOrdered s → IsOrdered (or_on s ls).list
unfolding or_on
or_made s ls o = gates_in s (some_of ls ∷ []) o

or_found : (s : Gated) (ls : List Lit) (r : Option Lit) → IsOrdered s.list → IsOrdered (found_or s ls r).state.list
or_found s ls (Some l) o = o
or_found s ls None o = or_made s.list ls o

or_shared : (s : Gated) (ls : List Lit) → IsOrdered s.list → IsOrdered (or_in s ls).state.list
unfolding or_in
or_shared s ls o = or_found s ls (gate_of s.gates ls) o

clause_named : (s : Gated) (r : Option (List Lit)) → IsOrdered s.list → IsOrdered (by_clause s r).state.list
clause_named s None o = o
clause_named s (Some []) o = o
clause_named s (Some (l ∷ [])) o = o
clause_named s (Some (l ∷ k ∷ c)) o = or_shared s (l ∷ k ∷ c) o

either : (b : Bool) (x y : Shared Defined) → IsOrdered x.state.list → IsOrdered y.state.list → IsOrdered (cond b x y).state.list
either true x y o p = o
either false x y o p = p

named : (s : Gated) (d : ClauseDraft) → IsOrdered s.list → IsOrdered (named_in s d).state.list
unfolding named_in
named s d o = either d.always _ _ o (clause_named s (clause_of d.lits) o)

spread : (s : Gated) (d : ClauseDraft) (f : Statement) → IsOrdered s.list → IsOrdered (spread_in s d f).state.list
spread s d (atom l) o = o
spread s d never o = o
spread s d (or f g) o = spread (spread_in s d f).state (spread_in s d f).answer g (spread s d f o)
spread s d (no f) o = named (spread_in s empty f).state (spread_in s empty f).answer (spread s empty f o)

cover_made : (s : Clauses) (ls : List Lit) → IsOrdered s → IsOrdered (cover_on s ls).list
unfolding cover_on
cover_made s ls o = cover_in s ls o

clause_covered : (s : Clauses) (r : Option (List Lit)) → IsOrdered s → IsOrdered (by_cover s r).list
clause_covered s None o = o
clause_covered s (Some []) o = o
clause_covered s (Some (l ∷ [])) o = o
clause_covered s (Some (l ∷ k ∷ c)) o = cover_made s (l ∷ k ∷ c) o

either_grown : (b : Bool) (x y : Grown Defined) → IsOrdered x.list → IsOrdered y.list → IsOrdered (cond b x y).list
either_grown true x y o p = o
either_grown false x y o p = p

covered : (s : Clauses) (d : ClauseDraft) → IsOrdered s → IsOrdered (covered_on s d).list
unfolding covered_on
covered s d o = either_grown d.always _ _ o (clause_covered s (clause_of d.lits) o)

asked : (s : Gated) (d : ClauseDraft) (f : Statement) → IsOrdered s.list → IsOrdered (ask_in s d f).state.list
asked s d (atom l) o = o
asked s d never o = o
asked s d (or f g) o = asked (ask_in s d f).state (ask_in s d f).answer g (asked s d f o)
asked s d (no f) o = covered (spread_in s empty f).state.list (spread_in s empty f).answer (spread s empty f o)

-- whatever is defined, asserted or demanded, clauses with rising variables stay so
pub defined : (s : Gated) (f : Statement) → IsOrdered s.list → IsOrdered (define_in s f).state.list
unfolding define_in
defined s f o = named (spread_in s empty f).state (spread_in s empty f).answer (spread s empty f o)

either_list : (b : Bool) (x y : Clauses) → IsOrdered x → IsOrdered y → IsOrdered (cond b x y)
either_list true x y o p = o
either_list false x y o p = p

drafted_in : (s : Clauses) (label : Label) (d : ClauseDraft) → IsOrdered s → IsOrdered (with_draft s label d)
unfolding with_draft
drafted_in s label d o = either_list d.always _ _ o (kept_in s label d.lits o)

-- clauses stay in order where a formula, or its opposite, is asserted
pub asserted : (label : Label) (s : Gated) (sign : Bool) (f : Statement) → IsOrdered s.list → IsOrdered (assert_in label s sign f).list
asserted label s true (no f) o = asserted label s false f o
asserted label s false (no f) o = asserted label s true f o
asserted label s false (atom l) o = drafted_in s.list label (draft_with empty (By (negation l))) o
asserted label s false never o = o
asserted label s false (or f g) o = asserted label (assert_in label s false f) false g (asserted label s false f o)
asserted label s true (atom l) o = drafted_in s.list label (draft_with empty (By l)) o
asserted label s true never o = drafted_in s.list label empty o
asserted label s true (or f g) o =
    drafted_in (ask_in s empty (or f g)).state.list label (ask_in s empty (or f g)).answer (asked s empty (or f g) o)

demanded : (s : Gated) (f : Statement) (id : ℕ) → IsOrdered s.list → IsOrdered (demand_in s f id).list
unfolding demand_in
demanded s f id o = drafted_in (define_in s f).state.list (Demand id) (draft_with empty (define_in s f).answer) (defined s f o)

-- where formulas are defined, one after another
pub all_defined : (s : Gated) (fs : List Statement) → IsOrdered s.list → IsOrdered (define_all_in s fs).state.list
all_defined s [] o = o
all_defined s (f ∷ fs) o = all_defined (define_in s f).state fs (defined s f o)

-- where formulas are demanded, one after another
pub all_demanded : (s : Gated) (id : ℕ) (fs : List Statement) → IsOrdered s.list → IsOrdered (demand_all_in s id fs).list
all_demanded s id [] o = o
all_demanded s id (f ∷ fs) o = all_demanded (demand_in s f id) _ fs (demanded s f id o)

-- where one is defined over clauses of which no gate is known
pub defined_alone : (s : Clauses) (f : Statement) → IsOrdered s → IsOrdered (define_on s f).list
unfolding define_on
defined_alone s f o = defined (bare s) f o

-- where one is asserted over such clauses
pub asserted_alone : (label : Label) (s : Clauses) (sign : Bool) (f : Statement) → IsOrdered s → IsOrdered (assert_on label s sign f)
asserted_alone label s sign f o = asserted label (bare s) sign f o

-- where what is defined gets a literal of its own
pub literal_made : (s : Clauses) (d : Defined) → IsOrdered s → IsOrdered (literal_on s d).list
unfolding literal_on
literal_made s (By l) o = o
literal_made s (Known b) o = or_made s [] o
