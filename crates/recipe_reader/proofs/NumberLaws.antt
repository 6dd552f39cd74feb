-- Numbers of directives: they rise in each list, and differ.
use Rattle.std.proofs.Common.{◌≡◌, ◌≢◌, ◌∙◌, ℕ, ◌+◌, ◌<◌, true, List, [], ◌∷◌, ◌++◌, length, map, fold, refl, sym, ap, subst, arith, append_assoc}
use Rattle.std.specs.Prelude.{nat_le}
use Rattle.std.specs.List.{AllByRecursion}
use Rattle.std.specs.Cmp.{nat_cmp_is}
use Rattle.std.specs.Ordering.{nat_cmp, is_lt, match_ordering}
use Rattle.std.specs.declared.cmp.Ordering.{Ordering}
use Rattle.std.specs.declared.cmp.Ordering.TheVariants.{Less, Equal, Greater}
use Rattle.std.specs.BTreeSet.{insert_key}
use Rattle.std.specs.FinMap.{nat_cmp-IsAntisymmetric}
use Rattle.std.proofs.lemmas.Bool.{and_parts, and_from, le-leb}
use Rattle.std.proofs.lemmas.List.{append-nil}
use Rattle.keyed_lists.specs.Keyed.{rises}
use Rattle.recipe_reader.specs.Kept.{climbs}
use Rattle.directive_arguments.proofs.ListLaws.{all_append, all_push, all_weaker}

-- ---- all are below the next number

abbrev pub Below : ℕ → List ℕ → Type 0
Below n ks = AllByRecursion (λ k. k < n) ks

-- numbers below one are below the next
pub below_more : (n : ℕ) (ks : List ℕ) → Below n ks → Below (n + 1) ks
below_more n ks b = all_weaker (λ k. k < n) (λ k. k < n + 1) (λ k lt. omega (arith, lt)) ks b

-- ---- they rise

pub record IsNumbered (next : ℕ) (ks : List ℕ) : Type 0 where
  pub rising : rises nat_cmp ks ≡ true
  pub below : Below next ks

is_less : (k n : ℕ) → k < n → is_lt (nat_cmp k n) ≡ true
is_less k n lt = ap is_lt (sym (nat_cmp_is k n Less lt))

rises_push : (ks : List ℕ) (n : ℕ) → rises nat_cmp ks ≡ true → Below n ks → rises nat_cmp (ks ++ n ∷ []) ≡ true
rises_push [] n r b = refl
rises_push (k ∷ []) n r b = and_from (is_lt (nat_cmp k n)) true (is_less k n b.0) refl
rises_push (k ∷ j ∷ more) n r b =
    let parts = and_parts (is_lt (nat_cmp k j)) (rises nat_cmp (j ∷ more)) r in
    and_from (is_lt (nat_cmp k j)) (rises nat_cmp (j ∷ more ++ n ∷ [])) parts.0 (rises_push (j ∷ more) n parts.1 b.1)

-- no numbers rise and are below 0
pub none_numbered : IsNumbered 0 []
none_numbered = record { rising = refl; below = tt }

-- numbers that rise below one do so below the next
pub numbered_more : (n : ℕ) (ks : List ℕ) → IsNumbered n ks → IsNumbered (n + 1) ks
numbered_more n ks k = record { rising = k.rising; below = below_more n ks k.below }

-- the next number behind numbers that rise below it
pub numbered_push : (n : ℕ) (ks js : List ℕ) → js ≡ ks ++ n ∷ [] → IsNumbered n ks → IsNumbered (n + 1) js
numbered_push n ks js e k = subst (IsNumbered (n + 1)) (sym e) (record {
  rising = rises_push ks n k.rising k.below;
  below = all_push (λ i. i < n + 1) ks n (below_more n ks k.below) (omega arith);
})

-- ---- they do not fall

pub record IsClimbing (next : ℕ) (ks : List ℕ) : Type 0 where
  pub climbing : climbs ks ≡ true
  pub below : Below next ks

climbs_push : (ks : List ℕ) (n : ℕ) → climbs ks ≡ true → Below (n + 1) ks → climbs (ks ++ n ∷ []) ≡ true
climbs_push [] n r b = refl
climbs_push (k ∷ []) n r b = and_from (nat_le k n) true (le-leb k n (omega (arith, b.0))) refl
climbs_push (k ∷ j ∷ more) n r b =
    let parts = and_parts (nat_le k j) (climbs (j ∷ more)) r in
    and_from (nat_le k j) (climbs (j ∷ more ++ n ∷ [])) parts.0 (climbs_push (j ∷ more) n parts.1 b.1)

-- no numbers climb and are below 0
pub none_climbing : IsClimbing 0 []
none_climbing = record { climbing = refl; below = tt }

-- numbers that climb below one do so below the next
pub climbing_more : (n : ℕ) (ks : List ℕ) → IsClimbing n ks → IsClimbing (n + 1) ks
climbing_more n ks k = record { climbing = k.climbing; below = below_more n ks k.below }

-- each of these is the number n
pub climbing_append : {X : Type 0} (n : ℕ) (ks : List ℕ) (xs : List X) → IsClimbing (n + 1) ks → IsClimbing (n + 1) (ks ++ map (λ x. n) xs)
climbing_append n ks [] k = rw (append-nil ks) k
climbing_append n ks (x ∷ xs) k =
    subst (IsClimbing (n + 1)) (append_assoc ks (n ∷ []) (map (λ x. n) xs)) (climbing_append n (ks ++ n ∷ []) xs (record {
      climbing = climbs_push ks n k.climbing k.below;
      below = all_push (λ i. i < n + 1) ks n k.below (omega arith);
    }))

-- ---- they differ

abbrev pub Lacks : ℕ → List ℕ → Type 0
Lacks k ks = AllByRecursion (λ j. j ≢ k) ks

abbrev pub Differ : List ℕ → Type 0
Differ [] = Unit {0}
Differ (k ∷ ks) = Lacks k ks × Differ ks

all_between : {X : Type 0} (P : X → Type 0) (xs ys : List X) (y : X) → AllByRecursion P (xs ++ ys) → P y → AllByRecursion P (xs ++ y ∷ ys)
all_between P [] ys y p q = (q, p)
all_between P (x ∷ xs) ys y p q = (p.0, all_between P xs ys y p.1 q)

differ_between : (xs ys : List ℕ) (n : ℕ) → Differ (xs ++ ys) → Below n (xs ++ ys) → Differ (xs ++ n ∷ ys)
differ_between [] ys n d b = (all_weaker (λ k. k < n) (λ k. k ≢ n) (λ k lt e. omega (arith, lt, e)) ys b, d)
differ_between (x ∷ xs) ys n d b = (all_between (λ j. j ≢ x) xs ys n d.0 (λ e. omega (arith, b.0, e)), differ_between xs ys n d.1 b.1)

-- one number more in the first, in the second or in the third of three lists
module _ (a b c : List ℕ) (n : ℕ) (differ : Differ (a ++ b ++ c)) (in_a : Below n a) (in_b : Below n b) (in_c : Below n c) where
  all_below : Below n (a ++ b ++ c)
  all_below = all_append (λ k. k < n) (a ++ b) c (all_append (λ k. k < n) a b in_a in_b) in_c

  between : (xs ys after : List ℕ) → a ++ b ++ c ≡ xs ++ ys → after ≡ xs ++ n ∷ ys → Differ after
  between xs ys after before now = subst Differ (sym now)
      (differ_between xs ys n (subst Differ before differ) (subst (Below n) before all_below))

  -- a new number in the first of three lists differs from all
  pub differ_first : Differ ((a ++ n ∷ []) ++ b ++ c)
  differ_first = between a (b ++ c) _ (append_assoc a b c) (append_assoc (a ++ n ∷ []) b c ∙ append_assoc a (n ∷ []) (b ++ c))

  -- a new number in the second of three lists differs from all
  pub differ_second : Differ (a ++ (b ++ n ∷ []) ++ c)
  differ_second = between (a ++ b) c _ refl (ap (λ l. l ++ c) (sym (append_assoc a b (n ∷ []))) ∙ append_assoc (a ++ b) (n ∷ []) c)

  -- a new number in the third of three lists differs from all
  pub differ_third : Differ (a ++ b ++ (c ++ n ∷ []))
  differ_third = between (a ++ b ++ c) [] _ (sym (append-nil (a ++ b ++ c))) (sym (append_assoc (a ++ b) c (n ∷ [])))

-- ---- so none is lost where they are put in order, each once

put_length : (acc : List ℕ) (k : ℕ) → Lacks k acc → length (insert_key nat_cmp acc k) ≡ length acc + 1
put_length [] k lacks = refl
put_length (x ∷ acc) k lacks = longer_by_order (nat_cmp k x) refl (put_length acc k lacks.1)
  where
    longer_by_order : (r : Ordering) → nat_cmp k x ≡ r → length (insert_key nat_cmp acc k) ≡ length acc + 1
        → length (match_ordering r (k ∷ x ∷ acc) (x ∷ acc) (x ∷ insert_key nat_cmp acc k)) ≡ length (x ∷ acc) + 1
    longer_by_order Less e rest = omega arith
    longer_by_order Equal e rest = absurd (lacks.0 (sym (nat_cmp-IsAntisymmetric k x e)))
    longer_by_order Greater e rest = omega (arith, rest)

put_lacks : (acc : List ℕ) (k j : ℕ) → Lacks j acc → (k ≢ j) → Lacks j (insert_key nat_cmp acc k)
put_lacks [] k j lacks ne = (ne, tt)
put_lacks (x ∷ acc) k j lacks ne = lacks_by_order (nat_cmp k x) (put_lacks acc k j lacks.1 ne)
  where
    lacks_by_order : (r : Ordering) → Lacks j (insert_key nat_cmp acc k)
        → Lacks j (match_ordering r (k ∷ x ∷ acc) (x ∷ acc) (x ∷ insert_key nat_cmp acc k))
    lacks_by_order Less rest = (ne, lacks)
    lacks_by_order Equal rest = lacks
    lacks_by_order Greater rest = (lacks.0, rest)

all_lack : (acc ks : List ℕ) (k : ℕ) → Lacks k ks → AllByRecursion (λ j. Lacks j acc) ks
    → AllByRecursion (λ j. Lacks j (insert_key nat_cmp acc k)) ks
all_lack acc [] k lacks all = tt
all_lack acc (j ∷ ks) k lacks all = (put_lacks acc k j all.0 (λ e. lacks.0 (sym e)), all_lack acc ks k lacks.1 all.1)

put_all : (ks acc : List ℕ) → Differ ks → AllByRecursion (λ k. Lacks k acc) ks
    → length (fold (insert_key nat_cmp) acc ks) ≡ length acc + length ks
put_all [] acc d apart = omega arith
put_all (k ∷ ks) acc d apart =
    let rest = put_all ks (insert_key nat_cmp acc k) d.1 (all_lack acc ks k d.0 apart.1) in
    let one = put_length acc k apart.0 in
    omega (arith, rest, one)

none_lack : (ks : List ℕ) → AllByRecursion (λ k. Lacks k []) ks
none_lack [] = tt
none_lack (k ∷ ks) = (tt, none_lack ks)

-- numbers that differ are as many as their set has
pub all_differ : (ks : List ℕ) → Differ ks → length (fold (insert_key nat_cmp) [] ks) ≡ length ks
all_differ ks d = let all = put_all ks [] d (none_lack ks) in omega (arith, all)
