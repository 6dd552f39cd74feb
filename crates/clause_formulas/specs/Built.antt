-- The clauses of a formula, as functions from a list of clauses with its gates to the longer list.
use Rattle.std.specs.Prelude.{ℕ, ◌+◌, Bool, true, false, not, ◌&&◌, ◌||◌, List, [], ◌∷◌, ◌++◌, Option, Some, None, map, if◌then◌else◌}
use Rattle.clause_store.specs.declared.Lit.{Lit}
use Rattle.clause_store.specs.declared.Label.{Label}
use Rattle.clause_store.specs.declared.Label.TheVariants.{Demand}
use Rattle.clause_store.specs.Lits.{negation, clause_of}
use Rattle.clause_store.specs.Clauses.{Clauses}
use Rattle.clause_formulas.specs.declared.defined.Defined.{Defined}
use Rattle.clause_formulas.specs.declared.defined.Defined.TheVariants.{Known, By}
use Rattle.clause_formulas.specs.Statements.{Statement, atom, never, or, no, eval}
use Rattle.clause_formulas.specs.Drafts.{ClauseDraft, empty, draft_with, reverse_of}
use Rattle.clause_formulas.specs.Gated.{Gated, gated, bare, gate_of}
use Rattle.clause_circuits.specs.Gates.{kept_clauses, labelled, lit_of, with_gates}
use Rattle.clause_circuits.specs.Shapes.{any_of as some_of, with_cover}

-- a longer list, and what was answered
pub record Grown (A : Type 0) : Type 0 where
  pub list : Clauses
  pub answer : A

-- a new gate that is true where some literal is
unfoldable pub or_on : Clauses → List Lit → Grown Lit
or_on s ls = record { list = with_gates s (some_of ls ∷ []); answer = lit_of s.vars }

-- the list with one more clause, if it doesn't always hold
abbrev pub with_kept : Clauses → Label → List Lit → Clauses
with_kept s label ls = record s { entries = s.entries ++ map (labelled label) (kept_clauses ls) }

-- a longer list with its gates, and what was answered
pub record Shared (A : Type 0) : Type 0 where
  pub state : Gated
  pub answer : A

-- with a new gate, which is kept
abbrev pub with_new_gate : Gated → List Lit → Shared Lit
with_new_gate s ls = let m = or_on s.list ls in record { state = gated m.list (s.gates ++ (ls, m.answer) ∷ []); answer = m.answer }

abbrev pub found_or : Gated → List Lit → Option Lit → Shared Lit
found_or s ls (Some l) = record { state = s; answer = l }
found_or s ls None = with_new_gate s ls

-- a gate that is true where some literal is: the one that was made, or a new one
unfoldable pub or_in : Gated → List Lit → Shared Lit
or_in s ls = found_or s ls (gate_of s.gates ls)

abbrev pub by_gate : Shared Lit → Shared Defined
by_gate m = record { state = m.state; answer = By m.answer }

abbrev pub by_clause : Gated → Option (List Lit) → Shared Defined
by_clause s None = record { state = s; answer = Known true }
by_clause s (Some []) = record { state = s; answer = Known false }
by_clause s (Some (l ∷ [])) = record { state = s; answer = By l }
by_clause s (Some (l ∷ k ∷ c)) = by_gate (or_in s (l ∷ k ∷ c))

-- the value of a draft: a gate only for a clause of two literals and more
unfoldable pub named_in : Gated → ClauseDraft → Shared Defined
named_in s d = if d.always then record { state = s; answer = Known true } else by_clause s (clause_of d.lits)

-- a draft with the literals that make a formula true
abbrev pub spread_in : Gated → ClauseDraft → Statement → Shared ClauseDraft
spread_in s d (atom l) = record { state = s; answer = draft_with d (By l) }
spread_in s d never = record { state = s; answer = d }
spread_in s d (or f g) = let m = spread_in s d f in spread_in m.state m.answer g
spread_in s d (no f) =
    let m = spread_in s empty f in
    let n = named_in m.state m.answer in
    record { state = n.state; answer = draft_with d (reverse_of n.answer) }

-- a literal that is true where some literal is, and may be true elsewhere
unfoldable pub cover_on : Clauses → List Lit → Grown Lit
cover_on s ls = record { list = with_cover s ls; answer = lit_of s.vars }

abbrev pub by_cover : Clauses → Option (List Lit) → Grown Defined
by_cover s None = record { list = s; answer = Known true }
by_cover s (Some []) = record { list = s; answer = Known false }
by_cover s (Some (l ∷ [])) = record { list = s; answer = By l }
by_cover s (Some (l ∷ k ∷ c)) = let m = cover_on s (l ∷ k ∷ c) in record { list = m.list; answer = By m.answer }

-- a value that is true where a draft is, and may be true elsewhere
unfoldable pub covered_on : Clauses → ClauseDraft → Grown Defined
covered_on s d = if d.always then record { list = s; answer = Known true } else by_cover s (clause_of d.lits)

-- a draft with literals of which none is true unless a formula is: of what stands under the other sign, one side is enough
abbrev pub ask_in : Gated → ClauseDraft → Statement → Shared ClauseDraft
ask_in s d (atom l) = record { state = s; answer = draft_with d (By l) }
ask_in s d never = record { state = s; answer = d }
ask_in s d (or f g) = let m = ask_in s d f in ask_in m.state m.answer g
ask_in s d (no f) =
    let m = spread_in s empty f in
    let n = covered_on m.state.list m.answer in
    record { state = gated n.list m.state.gates; answer = draft_with d (reverse_of n.answer) }

unfoldable pub define_in : Gated → Statement → Shared Defined
define_in s f = let m = spread_in s empty f in named_in m.state m.answer

-- the list with the clause of a draft
unfoldable pub with_draft : Clauses → Label → ClauseDraft → Clauses
with_draft s label d = if d.always then s else with_kept s label d.lits

abbrev pub drafted : Gated → Label → ClauseDraft → Gated
drafted s label d = gated (with_draft s.list label d) s.gates

abbrev pub claimed : Bool → Bool → Bool
claimed sign b = if sign then b else not b

-- the list with the clauses that make a formula true, or false
abbrev pub assert_in : Label → Gated → Bool → Statement → Gated
assert_in label s true (no f) = assert_in label s false f
assert_in label s false (no f) = assert_in label s true f
assert_in label s false (atom l) = drafted s label (draft_with empty (By (negation l)))
assert_in label s false never = s
assert_in label s false (or f g) = assert_in label (assert_in label s false f) false g
assert_in label s true (atom l) = drafted s label (draft_with empty (By l))
assert_in label s true never = drafted s label empty
assert_in label s true (or f g) = let m = ask_in s empty (or f g) in drafted m.state label m.answer

-- a formula's value, and the clause of this value alone
unfoldable pub demand_in : Gated → Statement → ℕ → Gated
demand_in s f id = let m = define_in s f in drafted m.state (Demand id) (draft_with empty m.answer)

-- the values of formulas, in their order
abbrev pub define_all_in : Gated → List Statement → Shared (List Defined)
define_all_in s [] = record { state = s; answer = [] }
define_all_in s (f ∷ fs) =
    let m = define_in s f in
    let n = define_all_in m.state fs in
    record { state = n.state; answer = m.answer ∷ n.answer }

-- demands with the ids from a number on
abbrev pub demand_all_in : Gated → ℕ → List Statement → Gated
demand_all_in s id [] = s
demand_all_in s id (f ∷ fs) = demand_all_in (demand_in s f id) (id + 1) fs

-- ---- alone, over no gates

unfoldable pub define_on : Clauses → Statement → Grown Defined
define_on s f = let m = define_in (bare s) f in record { list = m.state.list; answer = m.answer }

abbrev pub assert_on : Label → Clauses → Bool → Statement → Clauses
assert_on label s sign f = (assert_in label (bare s) sign f).list

-- a literal with a value: a constant gets a variable that a clause fixes
unfoldable pub literal_on : Clauses → Defined → Grown Lit
literal_on s (By l) = record { list = s; answer = l }
literal_on s (Known b) = let m = or_on s [] in record { list = m.list; answer = if b then negation m.answer else m.answer }

-- whether each demand holds that is asked for
abbrev pub demands_true : (ℕ → Bool) → (ℕ → Bool) → ℕ → List Statement → Bool
demands_true asked v id [] = true
demands_true asked v id (f ∷ fs) = (not (asked id) || eval v f) && demands_true asked v (id + 1) fs
