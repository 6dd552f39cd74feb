-- The place of a literal in a clause, as a search by halves finds it.
use Rattle.std.proofs.Common.{◌≡◌, ℕ, zero, suc, ◌<◌, ◌+◌, ◌≤◌, true, false, ltb, List, [], ◌∷◌, ◌++◌, length, get_or, Some, refl, ap, arith}
use Rattle.std.specs.List.Sorted.{IsPartitionPoint, IsPartitionedBy, IsNonDecreasingBy}
use Rattle.std.proofs.lemmas.List.Sorted.{IsPartitionedBy-ltb}
use Rattle.std.proofs.lemmas.Bool.{le-ltb, ne_eqb}
use Rattle.clause_store.specs.declared.Lit.{Lit}
use Rattle.clause_store.specs.Lits.{var_of, place_of, with_lit, IsClause, AllAbove, AllBelow}

AllAbove-at : (n : ℕ) (ks : List Lit) (k : ℕ) (d : Lit) → AllAbove n ks → k < length ks → n < var_of (get_or ks k d)
AllAbove-at n [] k d a h = absurd (omega (arith, h))
AllAbove-at n (l ∷ ks) zero d a h = a.0
AllAbove-at n (l ∷ ks) (suc k) d a h = AllAbove-at n ks k d a.1 (omega (arith, h))

-- variables rise, so those below a number come first
pub clause-parted : (n : ℕ) (ks : List Lit) → IsClause ks → IsPartitionedBy (λ k. ltb (var_of k) n) ks
clause-parted n ks i = IsPartitionedBy-ltb var_of ks n (rising ks i)
  where
    rising : (ks : List Lit) → IsClause ks → IsNonDecreasingBy var_of ks
    rising [] i a b d h l = absurd (omega (arith, l))
    rising (k ∷ ks) i zero zero d h l = omega arith
    rising (k ∷ ks) i zero (suc b) d h l = omega (arith, AllAbove-at (var_of k) ks b d i.0 (omega (arith, l)))
    rising (k ∷ ks) i (suc a) zero d h l = absurd (omega (arith, h))
    rising (k ∷ ks) i (suc a) (suc b) d h l = rising ks i.1 a b d (omega (arith, h)) (omega (arith, l))

-- the place found by halves is the literal's
pub place-parted : (ks : List Lit) (l : Lit) (i : ℕ) → i ≤ length ks
    → IsPartitionPoint (λ k. ltb (var_of k) (var_of l) ≡ true) (λ k. ltb (var_of k) (var_of l) ≡ false) ks i → i ≡ place_of ks l
place-parted [] l i h p = omega (arith, h)
place-parted (k ∷ ks) l zero h p = rw (p.1 0 k (omega arith) (omega arith)) refl
place-parted (k ∷ ks) l (suc i) h p =
    rw (p.0 0 k (omega arith) (omega arith)) (ap (λ n. suc n)
    (place-parted ks l i (omega (arith, h)) (
      (λ j d a b. p.0 (suc j) d (omega (arith, a)) (omega (arith, b))),
      (λ j d a b. p.1 (suc j) d (omega (arith, a)) (omega (arith, b))),
    )))

-- variables rise, so all are below what the last one is below
pub below-last : (n : ℕ) (ks : List Lit) (i : ℕ) (d : Lit) → IsClause ks → i + 1 ≡ length ks → var_of (get_or ks i d) < n → AllBelow n ks
below-last n [] i d c e h = tt
below-last n (k ∷ []) zero d c e h = (h, tt)
below-last n (k ∷ []) (suc i) d c e h = absurd (omega (arith, e))
below-last n (k ∷ l ∷ ks) zero d c e h = absurd (omega (arith, e))
below-last n (k ∷ l ∷ ks) (suc i) d c e h = (
  omega (arith, AllAbove-at (var_of k) (l ∷ ks) i d c.0 (omega (arith, e)), h),
  below-last n (l ∷ ks) i d c.1 (omega (arith, e)) h,
)

-- a literal above all others goes to the end
pub with-last : (ks : List Lit) (l : Lit) → AllBelow (var_of l) ks → with_lit ks l ≡ Some (ks ++ l ∷ [])
with-last [] l b = refl
with-last (k ∷ ks) l b =
    rw (le-ltb (var_of l) (var_of k) (omega (arith, b.0)), ne_eqb (var_of k) (var_of l) (omega (arith, b.0)), with-last ks l b.1) refl
