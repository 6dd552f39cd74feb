-- How known clauses stand in one list of literals, by where each ends.
use Prim.Native.Nat.{zero, suc}
use Rattle.std.specs.Prelude.{◌≡◌, ℕ, ◌≤◌, Bool, false, List, [], ◌∷◌, Option, Some, None, slice_get, slice_range}
use Rattle.clause_store.specs.declared.Lit.{Lit}
use Rattle.log_checker.specs.declared.known.Known.{Known}
use Rattle.log_checker.specs.declared.known.End.{End}

abbrev pub end_in : Option End → ℕ
end_in None = 0
end_in (Some e) = e.place

abbrev pub is_bit_in : Option End → Bool
is_bit_in None = false
is_bit_in (Some e) = e.by_bit

-- where the clause at a place begins, of those from some literal on
abbrev pub start_of : ℕ → List End → ℕ → ℕ
start_of from ends zero = from
start_of from ends (suc place) = end_in (slice_get ends place)

-- the clauses from some literal on
abbrev pub known_from : List Lit → ℕ → List End → List Known
known_from lits from [] = []
known_from lits from (e ∷ ends) = record { clause = slice_range lits from e.place; by_bit = e.by_bit } ∷ known_from lits e.place ends

-- the ends never fall, and the last is the end of all
abbrev pub IsCut : ℕ → List End → ℕ → Type 0
IsCut from [] all = from ≡ all
IsCut from (e ∷ ends) all = (from ≤ e.place) × IsCut e.place ends all
