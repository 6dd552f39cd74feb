-- None of a long list of formulas, where blocks of it stand behind gates of their own: lists with one end share these.
use Prim.Native.Nat.{zero, suc}
use Rattle.std.specs.Prelude.{ℕ, ◌-◌, ◌/◌, List, [], ◌∷◌, length, take, drop, nat_lt, if◌then◌else◌}
use Rattle.clause_formulas.specs.Statements.{Statement, no, any_statement, all_statements}

-- some of these, behind a gate
abbrev pub any_gated : List Statement → Statement
any_gated fs = all_statements (any_statement fs ∷ [])

-- a block of so many is cut off at the end, if there are so many, and of what is left one of half as many, so many times
unfoldable pub blocks_of : ℕ → ℕ → List Statement → List Statement
blocks_of zero size fs = fs
blocks_of (suc times) size fs =
    if nat_lt (length fs) size then blocks_of times (size / 2) fs
    else any_gated (drop (length fs - size) fs) ∷ blocks_of times (size / 2) (take (length fs - size) fs)

-- none of these: the first block has 2^27, and the last one 8
abbrev pub none_among : List Statement → Statement
none_among fs = no (any_statement (blocks_of 25 134217728 fs))
