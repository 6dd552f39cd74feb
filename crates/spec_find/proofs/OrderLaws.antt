-- Records by bytes of their hashes: a sort of hashes that differ makes them rise.
use Rattle.std.proofs.Common.{◌≡◌, refl, sym, ap, subst, ◌∙◌, ℕ, zero, suc, ◌+◌, ◌<◌, Bool, true, false, List, [], ◌∷◌, ◌++◌, length, get_or, take, map, filter, cond, All, Contains, Some, None, ◌⊎◌, ⊎_elim, arith}
use Rattle.std.specs.List.{IsDistinct, slice_get}
use Rattle.std.specs.List.Sorted.{IsSortedBy, IsPermutation, IsStrictlySortedBy}
use Rattle.std.specs.Ordering.{is_lt, ordering_reverse}
use Rattle.std.specs.declared.cmp.Ordering.{Ordering}
use Rattle.std.specs.declared.cmp.Ordering.TheVariants.{Less, Equal, Greater}
use Rattle.std.specs.Cmp.Lexicographic.{nat_list_cmp_total, bytes_decides}
use Rattle.std.specs.Str.{bytes_eq}
use Rattle.std.proofs.lemmas.Bool.{and_from, cases_lt, false≢true, false_from_ne_true}
use Rattle.std.proofs.lemmas.Bool.Decides.{same_from_decides}
use Rattle.std.proofs.lemmas.List.{length-map, length-take, get_or-map, get_or-take, get_or_default, map_push, take_more, take_all}
use Rattle.std.proofs.lemmas.List.Elements.{All-push, All-nil, Contains-push, Contains-append_left, recursion_from_All, All-contains}
use Rattle.std.proofs.lemmas.List.Sorted.{IsPermutation-map, All-permutation, Contains-permutation}
use Rattle.std.proofs.lemmas.Map.Keys.{IsDistinct-IsPermutation}
use Rattle.reachability.specs.Places.{IsAt, AreOnce}
use Rattle.reachability.proofs.CountLaws.{has_image, image_of}
use Rattle.reachability.proofs.SpreadLaws.{from_filter}
use Rattle.keyed_lists.specs.OfVariantValues.Texts.{byte_cmp}
use Rattle.keyed_lists.specs.Keyed.{IsInOrder, find_key, rises}
use Rattle.keyed_lists.proofs.LookupLaws.{found_iff}
use Rattle.keyed_lists.proofs.OfVariantValues.Texts2.{ties_are_equal}
use Rattle.keyed_lists.proofs.RiseLaws.{all_from, rises_decides, rises_above, rises_rest, rises_more, rises_none}
use Rattle.graph_core.specs.Graphs.{Text}
use Rattle.reuse_db.specs.Databases.{HasNoTwice, hashes_of}
use Rattle.reuse_db.specs.declared.record.Record.{Record}
use Rattle.spec_find.specs.declared.order.Placed.{Placed}
use Rattle.spec_find.specs.Orders.{hash_of, ArePlaced, AreByHash}

-- ---- what stands at a place

pub got_lt : {X : Type 0} (xs : List X) (i : ℕ) (x : X) → slice_get xs i ≡ Some x → i < length xs
got_lt [] i x got = absurd (let no : None ≡ Some x = got in cc)
got_lt (y ∷ ys) zero x got = omega arith
got_lt (y ∷ ys) (suc i) x got = omega (arith, got_lt ys i x got)

pub got_is : {X : Type 0} (xs : List X) (i : ℕ) (x d : X) → slice_get xs i ≡ Some x → get_or xs i d ≡ x
got_is [] i x d got = absurd (let no : None ≡ Some x = got in cc)
got_is (y ∷ ys) zero x d got = let same : y ≡ x = cc in same
got_is (y ∷ ys) (suc i) x d got = got_is ys i x d got

pub got_from : {X : Type 0} (xs : List X) (i : ℕ) (x d : X) → i < length xs → get_or xs i d ≡ x → slice_get xs i ≡ Some x
got_from [] i x d lt is = absurd (omega (arith, lt))
got_from (y ∷ ys) zero x d lt is = ap (λ z. Some z) is
got_from (y ∷ ys) (suc i) x d lt is = got_from ys i x d (omega (arith, lt)) is

pub got_some : {X : Type 0} (xs : List X) (i : ℕ) → i < length xs → (x : X) × (slice_get xs i ≡ Some x)
got_some [] i lt = absurd (omega (arith, lt))
got_some (y ∷ ys) zero lt = (y, refl)
got_some (y ∷ ys) (suc i) lt = got_some ys i (omega (arith, lt))

-- the hash of a record stands at its place
pub hash_there : (records : List Record) (i : ℕ) (entry : Record) → slice_get records i ≡ Some entry → IsAt (hashes_of records) entry.hash i
hash_there records i entry got = (
  omega (arith, got_lt records i entry got, length-map records (λ (e : Record). e.hash)),
  get_or-map (λ (e : Record). e.hash) records i entry entry.hash (got_lt records i entry got)
      ∙ ap (λ (e : Record). e.hash) (got_is records i entry entry got),
)

-- a record stands where a hash does
pub record_there : (records : List Record) (hash : Text) (i : ℕ) → IsAt (hashes_of records) hash i
    → (entry : Record) × (slice_get records i ≡ Some entry) × (entry.hash ≡ hash)
record_there [] hash i at = absurd (omega (arith, at.0))
record_there (e ∷ es) hash zero at = (e, refl, at.1)
record_there (e ∷ es) hash (suc i) at = record_there es hash i (omega (arith, at.0), at.1)

-- ---- hashes that differ

-- no hash stands at two places
pub hashes_once : (records : List Record) → HasNoTwice records → AreOnce (hashes_of records)
hashes_once records once hash i j at_i at_j = ⊎_elim (λ less. absurd (earlier i j less at_i at_j))
    (λ le. ⊎_elim (λ more. absurd (earlier j i more at_j at_i)) (λ same. omega (arith, le, same)) (cases_lt j i)) (cases_lt i j)
  where
    earlier : (i j : ℕ) → i < j → IsAt (hashes_of records) hash i → IsAt (hashes_of records) hash j → ⊥
    earlier i j less at_i at_j =
        let lt : j < length records = omega (arith, at_j.0, length-map records (λ (e : Record). e.hash)) in
        let before : Contains (take j (hashes_of records)) hash = (
          i,
          omega (arith, length-take j (hashes_of records), at_j.0, less),
          get_or-take j (hashes_of records) i hash less ∙ at_i.1,
        ) in
        once j (
          lt,
          λ d. subst (Contains (take j (hashes_of records)))
              (sym at_j.1 ∙ get_or-map (λ (e : Record). e.hash) records j d hash lt) before,
        )

-- texts that stand once each are distinct
pub texts_distinct : (keys : List Text) → AreOnce keys → IsDistinct bytes_eq keys
unfolding IsDistinct
texts_distinct [] once = tt
texts_distinct (k ∷ ks) once = (
  recursion_from_All (λ y. bytes_eq k y ≡ false) ks (all_from (λ y. bytes_eq k y ≡ false) ks
      (λ y has. false_from_ne_true (bytes_eq k y) (λ same. absurd (omega (
        arith,
        once y zero (suc has.0) (omega arith, (bytes_decides k y).0 same)
            (omega (arith, has.1), has.2),
      ))))),
  texts_distinct ks (λ key i j at_i at_j.
      omega (arith, once key (suc i) (suc j) (omega (arith, at_i.0), at_i.1) (omega (arith, at_j.0), at_j.1))),
)

-- ---- sorted and distinct

-- where neither the other is below nor the two are one
below_by : (p q : Text) (r : Ordering) → byte_cmp q p ≡ r → is_lt r ≡ false → (p ≡ q → ⊥) → is_lt (ordering_reverse r) ≡ true
below_by p q Less is fails differ = absurd (let bad : true ≡ false = fails in cc)
below_by p q Equal is fails differ = absurd (differ (sym (ties_are_equal q p is)))
below_by p q Greater is fails differ = refl

below : (p q : Text) → is_lt (byte_cmp q p) ≡ false → bytes_eq p q ≡ false → is_lt (byte_cmp p q) ≡ true
below p q fails differ = ap is_lt (nat_list_cmp_total.antisymm p q)
    ∙ below_by p q (byte_cmp q p) refl fails (λ same. absurd (false≢true (sym differ ∙ (bytes_decides p q).1 same)))

module _ {X : Type 0} (key : X → Text) where
  rising : (xs : List X) → IsSortedBy (λ a b. is_lt (byte_cmp (key a) (key b))) xs → IsDistinct bytes_eq (map key xs)
      → rises byte_cmp (map key xs) ≡ true
  unfolding IsDistinct
  rising [] sorted distinct = refl
  rising (x ∷ []) sorted distinct = refl
  rising (x ∷ y ∷ zs) sorted distinct = and_from _ _
      (below (key x) (key y) (sorted 0 x (omega arith) (omega arith)) distinct.0.0)
      (rising (y ∷ zs) (λ k d le lt.
      let on : suc k + 1 ≡ suc (k + 1) = omega arith in
      subst (λ n. is_lt (byte_cmp (key (get_or (x ∷ y ∷ zs) n d)) (key (get_or (x ∷ y ∷ zs) (suc k) d))) ≡ false) on
      (sorted (suc k) d (omega arith) (omega (arith, lt)))) distinct.1)

  -- what is sorted and distinct is in order
  pub in_order : (xs : List X) → IsSortedBy (λ a b. is_lt (byte_cmp (key a) (key b))) xs → IsDistinct bytes_eq (map key xs)
      → IsInOrder byte_cmp key xs
  in_order xs sorted distinct = (rises_decides byte_cmp nat_list_cmp_total (map key xs)).0 (rising xs sorted distinct)

  -- what passes of a list in order is in order
  pub in_order-filter : (p : X → Bool) (xs : List X) → IsInOrder byte_cmp key xs → IsInOrder byte_cmp key (filter p xs)
  in_order-filter p [] order = rises_none byte_cmp
  in_order-filter p (x ∷ xs) order = with_test (p x) (in_order-filter p xs (rises_rest byte_cmp (key x) (map key xs) order))
    where
      above : (k : Text) → Contains (map key (filter p xs)) k → byte_cmp (key x) k ≡ Less
      above k has =
          let is = image_of key (filter p xs) k has in
          rises_above byte_cmp (key x) (map key xs) order k
          (subst (Contains (map key xs)) is.2 (has_image key xs is.0 (from_filter p xs is.0 is.1).0))

      with_test : (b : Bool) → IsInOrder byte_cmp key (filter p xs)
          → IsStrictlySortedBy byte_cmp (map key (cond b (x ∷ filter p xs) (filter p xs)))
      with_test true rest = rises_more byte_cmp (key x) (map key (filter p xs)) above rest
      with_test false rest = rest

flips : (p q : Text) → bytes_eq p q ≡ bytes_eq q p
flips p q = same_from_decides (bytes_eq p q) (bytes_eq q p) (bytes_decides p q)
    (λ t. sym ((bytes_decides q p).0 t), λ e. (bytes_decides q p).1 (sym e))

-- hashes with their places, sorted by the hashes
pub sorted_hashes : (records : List Record) (order sorted : List Placed) → HasNoTwice records → ArePlaced records order
    → IsPermutation order sorted → IsSortedBy (λ a b. is_lt (byte_cmp (hash_of a) (hash_of b))) sorted → AreByHash records sorted
sorted_hashes records order sorted once are permuted by_hash = record {
  rises = in_order hash_of sorted by_hash (IsDistinct-IsPermutation bytes_eq flips (map hash_of order) (map hash_of sorted)
      (IsPermutation-map hash_of order sorted permuted)
      (subst (IsDistinct bytes_eq) (sym are.hashes) (texts_distinct (hashes_of records) (hashes_once records once))));
  places = All-permutation (λ placed. IsAt (hashes_of records) (hash_of placed) placed.place) order sorted permuted are.places;
  each = λ place lt.
      let w = are.each place lt in
      (w.0, Contains-permutation order sorted w.0 permuted w.1, w.2);
}

-- ---- while hashes are put down with their places

pub record ArePlacedBefore (records : List Record) (end : ℕ) (order : List Placed) : Type 0 where
  pub hashes : map hash_of order ≡ take end (hashes_of records)
  pub places : All (λ placed. IsAt (hashes_of records) (hash_of placed) placed.place) order
  pub each : (place : ℕ) → place < end → (placed : Placed) × Contains order placed × (placed.place ≡ place)

pub placed_none : (records : List Record) → ArePlacedBefore records 0 []
placed_none records = record {
  hashes = refl;
  places = All-nil (λ (placed : Placed). IsAt (hashes_of records) (hash_of placed) placed.place);
  each = λ place lt. absurd (omega (arith, lt));
}

pub placed_more : (records : List Record) (end : ℕ) (order : List Placed) (placed : Placed) (entry : Record)
    → ArePlacedBefore records end order
    → slice_get records end ≡ Some entry → hash_of placed ≡ entry.hash → placed.place ≡ end
    → ArePlacedBefore records (end + 1) (order ++ placed ∷ [])
placed_more records end order placed entry so_far got is at = record {
  hashes =
      let there = hash_there records end entry got in
      map_push hash_of order placed ∙ ap (λ l. l ++ hash_of placed ∷ []) so_far.hashes
      ∙ ap (λ h. take end (hashes_of records) ++ h ∷ []) (is ∙ sym there.1)
      ∙ sym (take_more (hashes_of records) end entry.hash there.0);
  places = All-push (λ (p : Placed). IsAt (hashes_of records) (hash_of p) p.place) order placed so_far.places
      (subst (IsAt (hashes_of records) (hash_of placed)) (sym at)
      (subst (λ h. IsAt (hashes_of records) h end) (sym is) (hash_there records end entry got)));
  each = λ place lt. ⊎_elim
      (λ less. let w = so_far.each place less in (w.0, Contains-append_left order (placed ∷ []) w.0 w.1, w.2))
      (λ le. (placed, Contains-push order placed, at ∙ omega (arith, lt, le))) (cases_lt place end);
}

pub placed_all : (records : List Record) (end : ℕ) (order : List Placed) → ArePlacedBefore records end order → end ≡ length records
    → ArePlaced records order
placed_all records end order are all = record {
  hashes = are.hashes ∙ take_all end (hashes_of records) (omega (arith, all, length-map records (λ (e : Record). e.hash)));
  places = are.places;
  each = λ place lt. are.each place (omega (arith, all, lt));
}

-- ---- hashes that are looked up

module _ (records : List Record) (order : List Placed) (are : AreByHash records order) (hash : Text) where
  -- what is found has the place of the hash
  pub found_place : (placed : Placed) → find_key byte_cmp hash_of order hash ≡ Some placed → IsAt (hashes_of records) hash placed.place
  found_place placed found =
      let is = (found_iff nat_list_cmp_total ties_are_equal hash_of order hash placed are.rises).0 found in
      subst (λ h. IsAt (hashes_of records) h placed.place) is.1
      (All-contains (λ (p : Placed). IsAt (hashes_of records) (hash_of p) p.place) order placed are.places is.0)

  -- a hash that is there is found
  pub not_missing : Contains (hashes_of records) hash → find_key byte_cmp hash_of order hash ≡ None → ⊥
  not_missing there none =
      let w = are.each there.0 (omega (arith, there.1, length-map records (λ (e : Record). e.hash))) in
      let at = subst (IsAt (hashes_of records) (hash_of w.0)) w.2
      (All-contains (λ (p : Placed). IsAt (hashes_of records) (hash_of p) p.place) order w.0 are.places w.1) in
      let same : hash_of w.0 ≡ hash = sym at.1 ∙ get_or_default (hashes_of records) there.0 (hash_of w.0) hash at.0 ∙ there.2 in
      let found : find_key byte_cmp hash_of order hash ≡ Some w.0 =
      (found_iff nat_list_cmp_total ties_are_equal hash_of order hash w.0 are.rises).1 (w.1, same) in
      let no : None ≡ Some w.0 = sym none ∙ found in cc
