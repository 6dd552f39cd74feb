use Rattle.std.proofs.Common.{◌≡◌, ◌-◌, List, ◌++◌, ◌∷◌, [], drop, length}
use Rattle.clause_store.specs.declared.Lit.{Lit}
use Rattle.clause_store.specs.Lits.{IsClause}
use Rattle.clause_store.proofs.clause.rises.Given as goal

abbrev pub invariant-loop-i : goal.invariant-loop-i
invariant-loop-i l = (ks : List Lit) × (drop (length l.lits - l.i) l.lits ++ l.fn.last ∷ [] ≡ l.next ∷ ks) × IsClause (l.next ∷ ks)
