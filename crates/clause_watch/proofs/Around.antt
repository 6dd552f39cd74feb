-- A list of literals that is gone through from a place on, and then from its beginning.
use Rattle.std.proofs.Common.{ℕ, List, length}
use Rattle.std.specs.Prelude.{Option, Some, None, IfNone}
use Rattle.clause_store.specs.declared.Lit.{Lit}
use Rattle.clause_watch.specs.declared.trail.Placed.{Placed}
use Rattle.clause_watch.specs.Picks.{AreFalseFrom, AreFalseBetween}
use Rattle.clause_watch.proofs.RowPlaces.{at-within}

-- to the end is all that is behind
pub none-behind : (ps : List Placed) (ls : List Lit) (from : ℕ) (other : Lit) (found : Option ℕ)
    → IfNone found (AreFalseBetween ps ls from (length ls) other) → IfNone found (AreFalseFrom ps ls from other)
none-behind ps ls from other None are = λ k l le e. are k l le (at-within ls k l e) e
none-behind ps ls from other (Some at) are = tt
