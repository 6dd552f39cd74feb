-- The first numbers of cost vectors.
use Rattle.std.proofs.Common.{◌≡◌, refl, sym, ap, ◌∙◌, ℕ, zero, suc, ◌≤◌, false, List, [], ◌∷◌, take, get_or, arith}
use Rattle.std.specs.Ordering.{is_lt, nat_cmp, ordering_then}
use Rattle.std.specs.declared.cmp.Ordering.{Ordering}
use Rattle.std.specs.declared.cmp.Ordering.TheVariants.{Less, Equal, Greater}
use Rattle.std.specs.Cmp.{tied_itself}
use Rattle.std.specs.Cmp.Lexicographic.{slice_cmp}
use Rattle.std.proofs.lemmas.Cmp.{nat_cmp_total}
use Rattle.std.proofs.lemmas.Map.Keys.{ge_from_not_lt}
use Rattle.graph_core.specs.Graphs.{Content}
use Rattle.problem.specs.Problems.{Problem}
use Rattle.graph_rules.specs.Costs.{summed_cost, criteria, smaller, vector}
use Rattle.cost_laws.specs.Words.{deprecated_builds}

not-first : (o r : Ordering) → is_lt (ordering_then o r) ≡ false → is_lt o ≡ false
not-first Less r h = h
not-first Equal r h = refl
not-first Greater r h = refl

-- where a list is not smaller than another one, and they agree before a place, the other's number there is no greater
pub least-next : (a b : List ℕ) (k : ℕ) → smaller a b ≡ false → take k a ≡ take k b → get_or b k 0 ≤ get_or a k 0
least-next a [] k h same = omega arith
least-next [] (y ∷ ys) k h same = absurd cc
least-next (x ∷ xs) (y ∷ ys) zero h same = ge_from_not_lt x y (not-first (nat_cmp x y) (slice_cmp nat_cmp xs ys) h)
least-next (x ∷ xs) (y ∷ ys) (suc k) h same =
    let first : x ≡ y = cc in
    let rest : take k xs ≡ take k ys = cc in
    let tied : nat_cmp x y ≡ Equal = ap (nat_cmp x) (sym first) ∙ tied_itself nat_cmp_total x in
    least-next xs ys k (rw tied at h) rest

-- the first number counts the deprecated nodes to build
pub first-is : (problem : Problem) (graph : Content) → get_or (vector problem graph) 0 0 ≡ deprecated_builds problem graph
unfolding vector criteria summed_cost
first-is problem graph = refl
