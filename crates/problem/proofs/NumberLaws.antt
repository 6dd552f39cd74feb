-- Numbers sorted, each once, as one list: that of putting them to their places one after another.
use Rattle.std.proofs.Common.{◌≡◌, refl, sym, ap, ◌∙◌, ℕ, zero, suc, ◌+◌, ◌<◌, arith, length, get_or, drop, drop-cons, append_assoc, List, [], ◌∷◌, ◌++◌, map, fold, Contains, ◌↔◌, ◌⊎◌, inl, inr, ⊎_elim, ◌==◌}
use Rattle.std.specs.List.{dedup, range_with_len, flat_map}
use Rattle.std.specs.List.Sorted.{IsPermutation, IsSorted, IsStrictlySortedBy}
use Rattle.std.specs.BTreeSet.{insert_key}
use Rattle.std.specs.Cmp.{nat_cmp_total, nat_eq_equiv, unsigned_ties, unsigned_Decides}
use Rattle.std.specs.FinMap.{IsAntisymmetric}
use Rattle.std.specs.Ordering.{nat_cmp}
use Rattle.std.proofs.lemmas.List.Kept.{Contains-dedup, Contains-from_dedup, IsStrictlySortedBy-dedup}
use Rattle.std.proofs.lemmas.List.Sorted.{Contains-permutation, IsPermutation-sym}
use Rattle.condition_rules.proofs.OfVariantValues.Keys.{Contains-cons, lacks_all, IsStrictlySortedBy-insert_key, same_keys, Contains-insert_key}
use Rattle.condition_rules.proofs.OfKeyedLists.RiseLaws.{rises_none}
use Rattle.problem.specs.declared.demand.Demand.{Demand}
use Rattle.problem.specs.declared.demand.Demand.TheVariants.{Root}

exact : IsAntisymmetric nat_cmp
exact a b e = grind arith

in_order : (numbers kept : List ℕ) → IsStrictlySortedBy nat_cmp kept → IsStrictlySortedBy nat_cmp (fold (insert_key nat_cmp) kept numbers)
in_order [] kept ordered = ordered
in_order (n ∷ numbers) kept ordered = in_order numbers (insert_key nat_cmp kept n)
    (IsStrictlySortedBy-insert_key nat_cmp_total kept n ordered)

has : (numbers kept : List ℕ) (q : ℕ) → Contains (fold (insert_key nat_cmp) kept numbers) q ↔ (Contains numbers q ⊎ Contains kept q)
has [] kept q = (λ h. inr h, λ h. ⊎_elim (λ no. absurd (lacks_all q no)) (λ there. there) h)
has (n ∷ numbers) kept q =
    let cons = Contains-cons n numbers q in
    let adds = Contains-insert_key nat_cmp_total exact kept n q in
    let rest = has numbers (insert_key nat_cmp kept n) q in (
      λ h. ⊎_elim (λ later. inl (cons.1 (inr later))) (λ there. ⊎_elim (λ is. inl (cons.1 (inl is))) (λ old. inr old) (adds.0 there))
          (rest.0 h),
      λ h. ⊎_elim (λ new. ⊎_elim (λ is. rest.1 (inr (adds.1 (inl is)))) (λ later. rest.1 (inl later)) (cons.0 new))
          (λ old. rest.1 (inr (adds.1 (inr old)))) h,
    )

-- a sort without its repeats is the numbers put in order, each once
pub once : (numbers sorted : List ℕ) → IsPermutation numbers sorted → IsSorted nat_cmp sorted
    → dedup (λ x y. x == y) sorted ≡ fold (insert_key nat_cmp) [] numbers
once numbers sorted moved order = same_keys nat_cmp_total _ _ (IsStrictlySortedBy-dedup nat_cmp_total unsigned_ties sorted order)
    (in_order numbers [] (rises_none nat_cmp)) (λ q.
    let all = has numbers [] q in (
      λ h. all.1 (inl (Contains-permutation sorted numbers q (IsPermutation-sym numbers sorted moved)
          (Contains-from_dedup (λ x y. x == y) sorted q h))),
      λ h. ⊎_elim (λ there. Contains-dedup nat_eq_equiv (λ x y e. (unsigned_Decides x y).0 e) sorted q
          (Contains-permutation numbers sorted q moved there)) (λ no. absurd (lacks_all q no)) (all.0 h),
    ))

-- ---- the roots

range_more : (a n : ℕ) → range_with_len a (suc n) ≡ range_with_len a n ++ (a + n) ∷ []
range_more a zero = let e : a ≡ a + 0 = omega arith in ap (λ (k : ℕ). k ∷ []) e
range_more a (suc n) = let e : a + 1 + n ≡ a + suc n = omega arith in
    ap (λ l. a ∷ l) (range_more (a + 1) n ∙ ap (λ (k : ℕ). range_with_len (a + 1) n ++ k ∷ []) e)

map_more : {X Y : Type 0} (f : X → Y) (xs : List X) (x : X) → map f (xs ++ x ∷ []) ≡ map f xs ++ f x ∷ []
map_more f [] x = refl
map_more f (y ∷ ys) x = ap (λ l. f y ∷ l) (map_more f ys x)

-- one root's demand more
pub roots_more : (list more : List Demand) (i : ℕ) → list ≡ map Root (range_with_len 0 i) → more ≡ list ++ Root i ∷ []
    → more ≡ map Root (range_with_len 0 (i + 1))
roots_more list more i is grown =
    let next : i + 1 ≡ suc i = omega arith in
    let last : 0 + i ≡ i = omega arith in
    grown ∙ ap (λ (l : List Demand). l ++ Root i ∷ []) is ∙ sym (map_more Root (range_with_len 0 i) i)
    ∙ ap (map Root) (sym (range_more 0 i ∙ ap (λ (k : ℕ). range_with_len 0 i ++ k ∷ []) last))
    ∙ ap (λ (n : ℕ). map Root (range_with_len 0 n)) (sym next)

-- one place's demand more, behind others
pub places_more : (f : ℕ → Demand) (before list more : List Demand) (i : ℕ) → list ≡ before ++ map f (range_with_len 0 i)
    → more ≡ list ++ f i ∷ [] → more ≡ before ++ map f (range_with_len 0 (i + 1))
places_more f before list more i is grown =
    let next : i + 1 ≡ suc i = omega arith in
    let last : 0 + i ≡ i = omega arith in
    let here : map f (range_with_len 0 i) ++ f i ∷ [] ≡ map f (range_with_len 0 (i + 1)) =
    sym (map_more f (range_with_len 0 i) i)
    ∙ ap (map f) (sym (range_more 0 i ∙ ap (λ (k : ℕ). range_with_len 0 i ++ k ∷ []) last))
    ∙ ap (λ (n : ℕ). map f (range_with_len 0 n)) (sym next) in
    grown ∙ ap (λ (l : List Demand). l ++ f i ∷ []) is ∙ append_assoc before (map f (range_with_len 0 i)) (f i ∷ [])
    ∙ ap (λ (l : List Demand). before ++ l) here

-- ---- one recipe after another

-- one element of a list more was gone over
pub flat_step : {X A : Type 0} (f : X → List A) (xs : List X) (i : ℕ) (x : X) (acc more whole : List A) → i < length xs → x ≡ get_or xs i x
    → more ≡ acc ++ f x → acc ++ flat_map f (drop i xs) ≡ whole → more ++ flat_map f (drop (i + 1) xs) ≡ whole
flat_step f xs i x acc more whole lt is grown before =
    let next : suc i ≡ i + 1 = omega arith in
    let split : drop i xs ≡ x ∷ drop (i + 1) xs = drop-cons xs i x lt ∙ ap (λ y. y ∷ drop (suc i) xs) (sym is)
    ∙ ap (λ (n : ℕ). x ∷ drop n xs) next in
    ap (λ l. l ++ flat_map f (drop (i + 1) xs)) grown ∙ append_assoc acc (f x) (flat_map f (drop (i + 1) xs))
    ∙ ap (λ l. acc ++ flat_map f l) (sym split) ∙ before
