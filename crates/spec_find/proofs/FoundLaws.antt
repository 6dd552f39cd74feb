-- From marks to places by bytes of hashes.
use Rattle.std.proofs.Common.{◌≡◌, ◌↔◌, refl, sym, ap, subst, ◌∙◌, ℕ, ◌+◌, ◌<◌, ◌≤◌, Bool, true, false, List, [], ◌∷◌, ◌++◌, length, get_or, set, take, map, filter, All, Contains, Some, IsTrue, ◌⊎◌, ⊎_elim, arith}
use Rattle.std.specs.List.{slice_get}
use Rattle.std.proofs.lemmas.Bool.{cases_lt, false≢true}
use Rattle.std.proofs.lemmas.List.{get_or_default, get_or_append_left, get_or_push, get_or-set_same, get_or-set_other, get_or_past, length_push, length-set, take_more, map-append, append-nil}
use Rattle.std.proofs.lemmas.List.Elements.{All-nil, All-head, All-tail, All-push, All-contains, Contains-append_left, Contains-push, filter-append}
use Rattle.reachability.specs.Places.{IsAt, IsMarked}
use Rattle.reachability.proofs.CountLaws.{has_image, image_of}
use Rattle.reachability.proofs.SpreadLaws.{from_filter, in_filter}
use Rattle.keyed_lists.specs.OfVariantValues.Texts.{byte_cmp}
use Rattle.keyed_lists.proofs.RiseLaws.{all_from}
use Rattle.std.specs.List.Sorted.{IsStrictlySortedBy}
use Rattle.reuse_db.specs.Databases.{hashes_of}
use Rattle.reuse_db.specs.declared.record.Record.{Record}
use Rattle.condition_rules.specs.OfSpecGrammar.Part.{Part}
use Rattle.condition_rules.specs.OfSpecGrammar.Spec.{Spec}
use Rattle.condition_rules.specs.Worlds.{World}
use Rattle.condition_rules.specs.Meets.{meets}
use Rattle.spec_find.specs.declared.order.Placed.{Placed}
use Rattle.spec_find.specs.Found.{IsMetBelow, MeetsSpec, AreFound, placed_hash}
use Rattle.reuse_db.specs.Installed.{installed_node}
use Rattle.spec_find.specs.Orders.{hash_of, AreByHash}
use Rattle.spec_find.specs.Marks.{AreMarks, MeetsParts}
use Rattle.spec_find.proofs.OrderLaws.{got_lt, record_there, in_order-filter}

-- ---- marks, record by record

-- a mark for each record before the end
pub record AreMarksBefore (records : List Record) (Holds : Record → Type 0) (end : ℕ) (marks : List Bool) : Type 0 where
  pub each : length marks ≡ end
  pub exact : (place : ℕ) (entry : Record) → place < end → slice_get records place ≡ Some entry → IsMarked marks place ↔ Holds entry

module _ (records : List Record) (Holds : Record → Type 0) where
  pub marks_none : AreMarksBefore records Holds 0 []
  marks_none = record { each = refl; exact = λ place entry lt got. absurd (omega (arith, lt)) }

  pub marks_more : (end : ℕ) (marks : List Bool) (entry : Record) (mark : Bool) → AreMarksBefore records Holds end marks
      → slice_get records end ≡ Some entry → (IsTrue mark ↔ Holds entry) → AreMarksBefore records Holds (end + 1) (marks ++ mark ∷ [])
  marks_more end marks entry mark so_far got tells = record {
    each = length_push marks mark ∙ ap (λ n. n + 1) so_far.each;
    exact = λ place other lt got_other. ⊎_elim
        (λ less.
        let read : get_or (marks ++ mark ∷ []) place false ≡ get_or marks place false =
        get_or_append_left marks (mark ∷ []) false place (omega (arith, less, so_far.each)) in
        let told = so_far.exact place other less got_other in
        (λ marked. told.0 (sym read ∙ marked), λ holds. read ∙ told.1 holds))
        (λ le.
        let same : place ≡ end = omega (arith, lt, le) in
        let read : get_or (marks ++ mark ∷ []) place false ≡ mark = get_or_push marks mark false place (so_far.each ∙ sym same) in
        let is : Some entry ≡ Some other = sym got ∙ ap (slice_get records) (sym same) ∙ got_other in
        let one : entry ≡ other = cc in
        (λ marked. subst Holds one (tells.0 (sym read ∙ marked)), λ holds. read ∙ tells.1 (subst Holds (sym one) holds)))
        (cases_lt place end);
  }

  pub marks_all : (end : ℕ) (marks : List Bool) → AreMarksBefore records Holds end marks → length records ≤ end
      → AreMarks records Holds marks
  marks_all end marks are all = record {
    exact =
        λ place entry got. are.exact place entry (omega (arith, got_lt records place entry got, all)) got;
  }

-- ---- parts, one after another

module _ (world : World) (records : List Record) (top : Part) where
  -- where the top part holds, no part is met yet
  pub top_alone : (entry : Record) (is : Bool) → is ≡ meets world top (installed_node entry)
      → IsTrue is ↔ MeetsParts world records top [] entry
  top_alone entry is e = (
    λ t. record { top = sym e ∙ t; below = All-nil (IsMetBelow world records entry) },
    λ met. e ∙ met.top,
  )

  -- one part more
  pub one_more_part : (parts : List Part) (part : Part) (marks met both : List Bool)
      → AreMarks records (MeetsParts world records top parts) marks
      → AreMarks records (λ entry. IsMetBelow world records entry part) met
      → ((place : ℕ) → IsMarked both place ↔ (IsMarked marks place × IsMarked met place))
      → AreMarks records (MeetsParts world records top (parts ++ part ∷ [])) both
  one_more_part parts part marks met both told met_told both_told = record {
    exact = λ place entry got. (
      λ marked.
          let two = (both_told place).0 marked in
          let before = (told.exact place entry got).0 two.0 in
          record {
            top = before.top;
            below = All-push (IsMetBelow world records entry) parts part before.below ((met_told.exact place entry got).0 two.1);
          },
      λ meets_all. (both_told place).1 (
        (told.exact place entry got).1 (record {
          top = meets_all.top;
          below =
              front (IsMetBelow world records entry) parts part meets_all.below;
        }),
        (met_told.exact place entry got).1 (last (IsMetBelow world records entry) parts part meets_all.below),
      ),
    );
  }
    where
      front : (P : Part → Type 0) (xs : List Part) (x : Part) → All P (xs ++ x ∷ []) → All P xs
      front P xs x all = all_from P xs (λ y has. All-contains P (xs ++ x ∷ []) y all (Contains-append_left xs (x ∷ []) y has))

      last : (P : Part → Type 0) (xs : List Part) (x : Part) → All P (xs ++ x ∷ []) → P x
      last P xs x all = All-contains P (xs ++ x ∷ []) x all (Contains-push xs x)

-- ---- places

-- what two functions agree on
map_agree : {X Y : Type 0} (f g : X → Y) (xs : List X) → All (λ x. f x ≡ g x) xs → map f xs ≡ map g xs
map_agree f g [] all = refl
map_agree f g (x ∷ xs) all = λ i. All-head (λ y. f y ≡ g y) x xs all i ∷ map_agree f g xs (All-tail (λ y. f y ≡ g y) x xs all) i

mapped_twice : {X Y Z : Type 0} (f : X → Y) (g : Y → Z) (xs : List X) → map g (map f xs) ≡ map (λ x. g (f x)) xs
mapped_twice f g [] = refl
mapped_twice f g (x ∷ xs) = ap (λ l. g (f x) ∷ l) (mapped_twice f g xs)

module _ (world : World) (records : List Record) (spec : Spec) (order : List Placed) (marks : List Bool) (are : AreByHash records order)
    (told : AreMarks records (MeetsParts world records spec.top spec.below) marks) where
  abbrev is_marked : Placed → Bool
  is_marked placed = get_or marks placed.place false

  abbrev place_of : Placed → ℕ
  place_of placed = placed.place

  same_hash : (placed : Placed) → IsAt (hashes_of records) (hash_of placed) placed.place → placed_hash records placed.place ≡ hash_of placed
  same_hash placed at = get_or_default (hashes_of records) placed.place [] (hash_of placed) at.0 ∙ at.1

  hashes_same : map (placed_hash records) (map place_of (filter is_marked order)) ≡ map hash_of (filter is_marked order)
  hashes_same = mapped_twice place_of (placed_hash records) (filter is_marked order)
      ∙ map_agree (λ p. placed_hash records (place_of p)) hash_of (filter is_marked order)
      (all_from (λ p. placed_hash records (place_of p) ≡ hash_of p) (filter is_marked order) (λ p has.
      same_hash p (All-contains (λ (x : Placed). IsAt (hashes_of records) (hash_of x) x.place) order p are.places
      (from_filter is_marked order p has).0)))

  whole : (entry : Record) → MeetsParts world records spec.top spec.below entry ↔ MeetsSpec world records spec entry
  whole entry = (λ met. record { top = met.top; below = met.below }, λ met. record { top = met.top; below = met.below })

  -- the places of the marked records are those that are looked for
  pub are_found : AreFound world records spec (map place_of (filter is_marked order))
  are_found = record {
    order = subst (IsStrictlySortedBy byte_cmp) (sym hashes_same) (in_order-filter hash_of is_marked order are.rises);
    exact = λ place. (
      λ has.
          let placed = image_of place_of (filter is_marked order) place has in
          let parts = from_filter is_marked order placed.0 placed.1 in
          let at = All-contains (λ (x : Placed). IsAt (hashes_of records) (hash_of x) x.place) order placed.0 are.places parts.0 in
          let entry = record_there records (hash_of placed.0) place (subst (IsAt (hashes_of records) (hash_of placed.0)) placed.2 at) in
          let marked : IsMarked marks place = ap (λ p. get_or marks p false) (sym placed.2) ∙ parts.1 in
          (entry.0, entry.1, (whole entry.0).0 ((told.exact place entry.0 entry.1).0 marked)),
      λ w.
          let placed = are.each place (got_lt records place w.0 w.1) in
          let marked = (told.exact place w.0 w.1).1 ((whole w.0).1 w.2) in
          let passes : is_marked placed.0 ≡ true = ap (λ p. get_or marks p false) placed.2 ∙ marked in
          subst (Contains (map place_of (filter is_marked order))) placed.2
          (has_image place_of (filter is_marked order) placed.0 (in_filter is_marked order placed.0 placed.1 passes)),
    );
  }

-- ---- places, one after another

module _ (order : List Placed) (marks : List Bool) (done : ℕ) (d : Placed) (places : List ℕ) (lt : done < length order)
    (so_far : places ≡ map (λ (p : Placed). p.place) (filter (λ (p : Placed). get_or marks p.place false) (take done order))) where
  pub places_more : get_or marks (get_or order done d).place false ≡ true
      → places ++ (get_or order done d).place ∷ []
      ≡ map (λ (p : Placed). p.place) (filter (λ (p : Placed). get_or marks p.place false) (take (done + 1) order))
  places_more passes = rw (
    take_more order done d lt,
    filter-append (λ (p : Placed). get_or marks p.place false) (take done order) (get_or order done d ∷ []),
    passes,
    map-append,
    ← so_far,
  ) refl

  pub places_same : get_or marks (get_or order done d).place false ≡ false
      → places ≡ map (λ (p : Placed). p.place) (filter (λ (p : Placed). get_or marks p.place false) (take (done + 1) order))
  places_same fails = rw (
    take_more order done d lt,
    filter-append (λ (p : Placed). get_or marks p.place false) (take done order) (get_or order done d ∷ []),
    fails,
    append-nil,
  ) so_far

-- ---- marks that stay

-- marks that are taken away where others have none, up to a place
pub record IsBothBefore (old others new : List Bool) (end : ℕ) : Type 0 where
  pub each : length new ≡ length old
  pub both : (place : ℕ) → place < end → IsMarked new place ↔ (IsMarked old place × IsMarked others place)
  pub rest : (place : ℕ) → end ≤ place → get_or new place false ≡ get_or old place false

pub both_none : (old others : List Bool) → IsBothBefore old others old 0
both_none old others = record { each = refl; both = λ place lt. absurd (omega (arith, lt)); rest = λ place le. refl }

module _ (old others new : List Bool) (end : ℕ) (so_far : IsBothBefore old others new end) where
  -- the place keeps its mark, or has none
  pub both_kept : get_or others end false ≡ true → IsBothBefore old others new (end + 1)
  both_kept there = record {
    each = so_far.each;
    both = λ place lt. ⊎_elim
        (λ less. so_far.both place less)
        (λ le.
        let same : place ≡ end = omega (arith, lt, le) in
        let is = so_far.rest place le in
        (λ marked. (sym is ∙ marked, ap (λ p. get_or others p false) same ∙ there), λ two. is ∙ two.0))
        (cases_lt place end);
    rest = λ place le. so_far.rest place (omega (arith, le));
  }

  -- its mark is taken away
  pub both_taken : end < length new → get_or others end false ≡ false → IsBothBefore old others (set new end false) (end + 1)
  both_taken lt_end none = record {
    each = length-set new end false ∙ so_far.each;
    both = λ place lt. ⊎_elim
        (λ less.
        let other = get_or-set_other new end place false false (λ e. omega (arith, e, less)) in
        let told = so_far.both place less in
        (λ marked. told.0 (sym other ∙ marked), λ two. other ∙ told.1 two))
        (λ le.
        let same : place ≡ end = omega (arith, lt, le) in
        let here : get_or (set new end false) place false ≡ false =
        ap (λ p. get_or (set new end false) p false) same ∙ get_or-set_same new end false false lt_end in (
          λ marked. absurd (false≢true (sym here ∙ marked)),
          λ two. absurd (false≢true (sym (ap (λ p. get_or others p false) same ∙ none) ∙ two.1)),
        ))
        (cases_lt place end);
    rest = λ place le. get_or-set_other new end place false false (λ e. omega (arith, e, le)) ∙ so_far.rest place (omega (arith, le));
  }

pub both_all : (old others new : List Bool) (end : ℕ) → IsBothBefore old others new end → length old ≤ end → (place : ℕ)
    → IsMarked new place ↔ (IsMarked old place × IsMarked others place)
both_all old others new end are all place = ⊎_elim
    (λ lt. are.both place lt)
    (λ past.
    let none_old : get_or old place false ≡ false = get_or_past old place false (omega (arith, past, all)) in
    let none_new : get_or new place false ≡ false = are.rest place past ∙ none_old in
    (λ marked. absurd (false≢true (sym none_new ∙ marked)), λ two. absurd (false≢true (sym none_old ∙ two.0))))
    (cases_lt place end)
