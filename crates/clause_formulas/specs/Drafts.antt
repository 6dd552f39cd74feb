-- What is known of a formula: a constant, or a literal; and the literals of a clause in the making.
use Rattle.std.specs.Prelude.{ℕ, ◌<◌, Bool, false, not, ◌||◌, List, [], ◌∷◌, ◌++◌, Option, Some, None, slice_get, if◌then◌else◌}
use Rattle.clause_store.specs.declared.Lit.{Lit}
use Rattle.clause_store.specs.Lits.{var_of, negation, lit_true, clause_true}
use Rattle.clause_formulas.specs.declared.defined.Defined.{Defined}
use Rattle.clause_formulas.specs.declared.defined.Defined.TheVariants.{Known, By}
use Rattle.clause_formulas.specs.Statements.{Statement, atom, never, no}

abbrev pub defined_true : (ℕ → Bool) → Defined → Bool
defined_true v (Known b) = b
defined_true v (By l) = lit_true v l

abbrev pub DefinedBelow : ℕ → Defined → Type 0
DefinedBelow n (Known b) = Unit {0}
DefinedBelow n (By l) = var_of l < n

abbrev pub reverse_of : Defined → Defined
reverse_of (Known b) = Known (not b)
reverse_of (By l) = By (negation l)

-- the formula that it is
abbrev pub statement_of : Defined → Statement
statement_of (Known b) = if b then no never else never
statement_of (By l) = atom l

abbrev pub value_in : Option Defined → Statement
value_in None = never
value_in (Some d) = statement_of d

-- the formula of a value in a list: false beyond its end
abbrev pub statement_at : List Defined → ℕ → Statement
statement_at ds k = value_in (slice_get ds k)

abbrev pub part_in : Option Statement → Statement
part_in None = never
part_in (Some f) = f

abbrev pub part_at : List Statement → ℕ → Statement
part_at fs k = part_in (slice_get fs k)

-- some of these literals is true, or it always holds
pub record ClauseDraft : Type 0 where
  pub lits : List Lit
  pub always : Bool

abbrev pub draft_true : (ℕ → Bool) → ClauseDraft → Bool
draft_true v d = d.always || clause_true v d.lits

abbrev pub empty : ClauseDraft
empty = record { lits = []; always = false }

abbrev pub draft_with : ClauseDraft → Defined → ClauseDraft
draft_with d (Known b) = record d { always = d.always || b }
draft_with d (By l) = record d { lits = d.lits ++ l ∷ [] }
