-- Clauses by their ids.
use Rattle.std.proofs.Common.{◌≡◌, ℕ, zero, suc, ◌-◌, ◌<◌, List, [], ◌∷◌, ◌++◌, length, Some, sym, ap, ◌∙◌, arith}
use Rattle.std.specs.Prelude.{slice_get}
use Rattle.std.proofs.lemmas.Option.{none-some, slice_get_within}
use Rattle.clause_store.specs.declared.Lit.{Lit}
use Rattle.clause_store.specs.Clauses.{at_id}

pred : (k : ℕ) → suc k - 1 ≡ k
pred k = omega arith

-- an id counts from 1
pub at_id-get : (known : List (List Lit)) (id : ℕ) (c : List Lit) → at_id known id ≡ Some c → (0 < id) × (slice_get known (id - 1) ≡ Some c)
at_id-get known zero c e = absurd (none-some c e)
at_id-get known (suc k) c e = (omega arith, ap (slice_get known) (pred k) ∙ e)

-- and the other way round
pub get-at_id : (known : List (List Lit)) (id : ℕ) (c : List Lit) → 0 < id → slice_get known (id - 1) ≡ Some c → at_id known id ≡ Some c
get-at_id known zero c h e = absurd (omega arith)
get-at_id known (suc k) c h e = ap (slice_get known) (sym (pred k)) ∙ e

-- an id that names a clause is within the length
pub at_id-within : (known : List (List Lit)) (id : ℕ) (c : List Lit) → at_id known id ≡ Some c → (0 < id) × (id - 1 < length known)
at_id-within known id c e = let g = at_id-get known id c e in (g.0, slice_get_within known (id - 1) c g.1)

get-append : (known more : List (List Lit)) (k : ℕ) (c : List Lit) → slice_get known k ≡ Some c → slice_get (known ++ more) k ≡ Some c
get-append [] more k c e = absurd (none-some c e)
get-append (d ∷ ds) more zero c e = e
get-append (d ∷ ds) more (suc k) c e = get-append ds more k c e

-- an id keeps its clause as the list grows
pub at_id-append : (known more : List (List Lit)) (id : ℕ) (c : List Lit) → at_id known id ≡ Some c → at_id (known ++ more) id ≡ Some c
at_id-append known more zero c e = absurd (none-some c e)
at_id-append known more (suc k) c e = get-append known more k c e
