-- At most one, and exactly one, of a long list: halves are kept apart, and only short lists pair by pair.
use Prim.Native.Nat.{zero, suc}
use Rattle.std.specs.Prelude.{ℕ, ◌/◌, Bool, true, List, [], ◌∷◌, ◌++◌, map, length, take, drop, nat_lt, if◌then◌else◌}
use Rattle.clause_store.specs.declared.Lit.{Lit}
use Rattle.clause_store.specs.declared.Label.TheVariants.{Structure}
use Rattle.clause_circuits.specs.Gates.{lit_of}
use Rattle.clause_formulas.specs.Built.{assert_on}
use Rattle.clause_formulas.specs.Statements.{Statement, atom, no, any_statement, all_statements, apart, none_true}

-- whether at most one of a list is true
abbrev pub few_true : List Bool → Bool
few_true [] = true
few_true (b ∷ bs) = if b then none_true bs else few_true bs

-- none of a list
abbrev pub none_of : List Lit → Statement
none_of lits = no (any_statement (map atom lits))

-- none of these, or none of those
abbrev pub halves_apart : List Lit → List Lit → Statement
halves_apart ks ls = any_statement (none_of ks ∷ none_of ls ∷ [])

abbrev pub half_count : List Lit → ℕ
half_count lits = length lits / 2

-- at most one: a list of more than eight literals is halved, so many times at most
unfoldable pub few_of : ℕ → List Lit → List Statement
few_of zero lits = apart lits
few_of (suc times) lits =
    if nat_lt 8 (length lits)
    then halves_apart (take (half_count lits) lits) (drop (half_count lits) lits)
    ∷ (few_of times (take (half_count lits) lits) ++ few_of times (drop (half_count lits) lits))
    else apart lits

-- at most one: halved until no part has more than eight
abbrev pub few_among : List Lit → List Statement
few_among lits = few_of (length lits / 8) lits

-- exactly one
abbrev pub one_among : List Lit → Statement
one_among lits = all_statements (any_statement (map atom lits) ∷ few_among lits)

-- ---- worked rows

-- so many variables, the last first
abbrev pub some_lits : ℕ → List Lit
some_lits zero = []
some_lits (suc n) = lit_of n ∷ some_lits n

-- how many clauses a formula takes
abbrev pub clauses_of : Statement → ℕ
clauses_of f = length (assert_on Structure (record { entries = []; vars = 100 }) true f).entries
