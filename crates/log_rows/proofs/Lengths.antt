-- A trail has as many places as true literals.
use Rattle.std.proofs.Common.{◌≡◌, List, [], ◌∷◌, length, refl, ap, ◌∙◌, arith}
use Rattle.clause_store.specs.declared.Lit.{Lit}
use Rattle.clause_watch.specs.declared.trail.Placed.{Placed}
use Rattle.clause_watch.specs.Trails.{lits_of}

own : (ps : List Placed) → length (lits_of ps) ≡ length ps
own [] = refl
own (p ∷ ps) = let h = own ps in omega (arith, h)

pub length-lits : (ps : List Placed) (xs : List Lit) → xs ≡ lits_of ps → length xs ≡ length ps
length-lits ps xs e = ap length e ∙ own ps
