-- What is written of lists and maps in order is read as they.
use Rattle.std.proofs.Common.{◌≡◌, refl, sym, ap, subst, ◌∙◌, ℕ, ◌+◌, false, Option, None, Ok, List, [], ◌∷◌, ◌++◌, map, fold, Contains, append-nil, append_assoc, ⊎_elim}
use Rattle.std.specs.List.{list_any}
use Rattle.std.specs.List.Sorted.{IsStrictlySortedBy}
use Rattle.std.specs.Ordering.{is_eq, ordering_reverse}
use Rattle.std.specs.declared.cmp.Ordering.TheVariants.{Less, Greater}
use Rattle.std.specs.Cmp.Lexicographic.{nat_list_cmp_total}
use Rattle.reachability.proofs.CountLaws.{has_first, has_later, has_image, first_or_later}
use Rattle.keyed_lists.specs.Keyed.{IsInOrder}
use Rattle.keyed_lists.proofs.RiseLaws.{rises_above, rises_rest}
use Rattle.variant_values.specs.Texts.{byte_cmp}
use Rattle.serde_json.specs.Data.{Data, item, Members, no_members, member, put}
use Rattle.serde_json.specs.View.{items_of}
use Rattle.json_readers.specs.Faults.{Reading}
use Rattle.json_readers.specs.Lists.{items_from, twice_after}
use Rattle.json_readers.specs.Maps.{entries_of}
use Rattle.reuse_db.specs.Canonical.{values_of}
use Rattle.graph_core.specs.Graphs.{Text}
use Rattle.lockfile.specs.Faults.{named_after}
use Rattle.lockfile.specs.Again.{Has}

above : (a b : Text) → byte_cmp a b ≡ Less → byte_cmp b a ≡ Greater
above a b e = nat_list_cmp_total.antisymm b a ∙ ap ordering_reverse e

middle : {X : Type 0} (done : List X) (x : X) (xs : List X) → Contains (done ++ x ∷ xs) x
middle [] x xs = has_first x xs
middle (d ∷ done) x xs = has_later d (done ++ x ∷ xs) x (middle done x xs)

module _ {X : Type 0} (key : X → Text) (f : X → Data) where
  -- the members of these, in their order
  abbrev pub members_by : List X → Members
  members_by [] = no_members
  members_by (x ∷ xs) = member (key x) (f x) (members_by xs)

  -- what is above all before it goes last
  put_last : (done : List X) (x : X) (xs : List X) → IsInOrder byte_cmp key (done ++ x ∷ xs)
      → put (key x) (f x) (members_by done) ≡ members_by (done ++ x ∷ [])
  put_last [] x xs o = refl
  put_last (d ∷ done) x xs o =
      let all = done ++ x ∷ xs in
      rw (above (key d) (key x) (rises_above byte_cmp (key d) (map key all) o (key x) (has_image key all x (middle done x xs))))
      (ap (member (key d) (f d)) (put_last done x xs (rises_rest byte_cmp (key d) (map key all) o)))

  behind : (done xs : List X) → IsInOrder byte_cmp key (done ++ xs)
      → fold (λ ms x. put (key x) (f x) ms) (members_by done) xs ≡ members_by (done ++ xs)
  behind done [] o = ap members_by (sym (append-nil done))
  behind done (x ∷ xs) o =
      let same = append_assoc done (x ∷ []) xs in
      ap (λ ms. fold (λ ms x. put (key x) (f x) ms) ms xs) (put_last done x xs o)
      ∙ behind (done ++ x ∷ []) xs (subst (IsInOrder byte_cmp key) (sym same) o) ∙ ap members_by same

  -- what is put one by one in order stays so
  pub written : (xs : List X) → IsInOrder byte_cmp key xs → fold (λ ms x. put (key x) (f x) ms) no_members xs ≡ members_by xs
  written xs o = behind [] xs o

  -- the values of an object whose keys are in order are those of the list
  pub values_written : (xs : List X) → values_of (members_by xs) ≡ items_of (map f xs)
  values_written [] = refl
  values_written (x ∷ xs) = ap (item (f x)) (values_written xs)

  -- a list of what is read as it was written
  pub items_again : (read : Data → Reading X) (i : ℕ) (xs : List X) → ((x : X) → Contains xs x → read (f x) ≡ Ok x)
      → items_from read i (items_of (map f xs)) ≡ Ok xs
  items_again read i [] each = refl
  items_again read i (x ∷ xs) each = rw (each x (has_first x xs), items_again read (i + 1) xs (λ y has. each y (has_later x xs y has))) refl

-- a map of what is read as it was written
pub entries_again : {T : Type 0} (f : Text × T → Data) (means : Text → Option Text) (read : Data → Reading T) (xs : List (Text × T))
    → ((x : Text × T) → Contains xs x → Has means x.0 × (read (f x) ≡ Ok x.1))
    → entries_of means read (members_by (λ (x : Text × T). x.0) f xs) ≡ Ok xs
entries_again f means read [] each = refl
entries_again f means read (x ∷ xs) each =
    let first = each x (has_first x xs) in
    rw (first.0, first.1, entries_again f means read xs (λ y has. each y (has_later x xs y has))) refl

-- nothing stands twice in order
no_tie : (before : List Text) (k : Text) → ((b : Text) → Contains before b → byte_cmp b k ≡ Less)
    → list_any (λ b. is_eq (byte_cmp b k)) before ≡ false
no_tie [] k low = refl
no_tie (b ∷ before) k low = rw (low b (has_first b before)) (no_tie before k (λ c has. low c (has_later b before c has)))

-- what is below all keys is so beside the first of them
low_more : (before : List Text) (k : Text) (ks : List Text) → ((b j : Text) → Contains before b → Contains (k ∷ ks) j → byte_cmp b j ≡ Less)
    → IsStrictlySortedBy byte_cmp (k ∷ ks) → (b j : Text) → Contains (k ∷ before) b → Contains ks j → byte_cmp b j ≡ Less
low_more before k ks low o b j old new = ⊎_elim
    (λ same. subst (λ z. byte_cmp z j ≡ Less) same (rises_above byte_cmp k ks o j new))
    (λ later. low b j later (has_later k ks j new))
    (first_or_later k before b old)

-- texts in order, all behind others, never stand twice
pub never_twice : (before ks : List Text) (i : ℕ) → ((b k : Text) → Contains before b → Contains ks k → byte_cmp b k ≡ Less)
    → IsStrictlySortedBy byte_cmp ks → twice_after byte_cmp before i ks ≡ None
never_twice before [] i low o = refl
never_twice before (k ∷ ks) i low o =
    rw (no_tie before k (λ b has. low b k has (has_first k ks)))
    (never_twice (k ∷ before) ks (i + 1) (low_more before k ks low o) (rises_rest byte_cmp k ks o))

-- so no name is read twice
pub never_named_twice : (before names : List Text) → ((b k : Text) → Contains before b → Contains names k → byte_cmp b k ≡ Less)
    → IsStrictlySortedBy byte_cmp names → named_after before names ≡ None
never_named_twice before [] low o = refl
never_named_twice before (k ∷ ks) low o =
    rw (no_tie before k (λ b has. low b k has (has_first k ks)))
    (never_named_twice (k ∷ before) ks (low_more before k ks low o) (rises_rest byte_cmp k ks o))
