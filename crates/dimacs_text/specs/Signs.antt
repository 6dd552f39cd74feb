-- Numbers and literals as DIMACS has them.
use Rattle.std.specs.Prelude.{ℕ, ◌+◌, Bool, true, false, List, [], ◌++◌, codes, decimal}
use Rattle.std.specs.List.{flat_map}
use Rattle.clause_store.specs.declared.Lit.{Lit}
use Rattle.clause_store.specs.Lits.{var_of}

unfoldable pub sign_text : Bool → List ℕ
sign_text true = []
sign_text false = codes "-"

-- a literal by its variable, which counts from 1, behind `-` where it is negated; and a blank
unfoldable pub lit_text : Lit → List ℕ
lit_text l = sign_text l.positive ++ (decimal (var_of l + 1) ++ codes " ")

-- literals, and `0` behind them
unfoldable pub lits_line : List Lit → List ℕ
lits_line lits = flat_map lit_text lits ++ codes "0\n"
