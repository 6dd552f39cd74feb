-- How much steps of reading can give.
use Rattle.std.proofs.Common.{◌≡◌, ap, ℕ, ◌+◌, ◌≤◌, List, [], ◌∷◌, Option, Some, None, Ok, decimal, arith}
use Rattle.std.proofs.lemmas.List.Sums.{sum_by-cons}
use Rattle.std.specs.List.{sum_by}
use Rattle.serde_json.specs.Data.{Data, array, Items, no_items, item, Members, no_members, member}
use Rattle.serde_json.specs.Find.{as_array, get_member}
use Rattle.json_readers.specs.Faults.{given}
use Rattle.file_limits.specs.Weights.{weight, items_weight, members_weight, weight_or_none, weight_at}
use Rattle.json_readers.proofs.Steps.{items_ok}
use Rattle.settings_reader.specs.Told.{Told, Below}
use Rattle.settings_reader.proofs.Outcomes.{ok_same, then_ok, below_ok, said_ok}
use Rattle.settings_reader.specs.Parsed.{AreEach, IsListOf, IsListAt, IsOptional, items_at, member_pairs}

-- ---- how much a step can give

abbrev pub AtMost : {T : Type 0} → (T → ℕ) → ℕ → Told T → Type 0
AtMost {T = T} size n told = (x : T) → told (Ok x) → size x ≤ n

abbrev values_weight : List (List ℕ × Data) → ℕ
values_weight vs = sum_by (λ v. weight v.1) vs

values_first : (v : List ℕ × Data) (vs : List (List ℕ × Data)) → values_weight (v ∷ vs) ≡ weight v.1 + values_weight vs
values_first v vs = sum_by-cons (λ (u : List ℕ × Data). weight u.1) v vs

each_most : {T : Type 0} (size : T → ℕ) (tells : List ℕ → Data → Told T)
    → ((key : List ℕ) (d : Data) → AtMost size (weight d) (tells key d)) → (vs : List (List ℕ × Data))
    → AtMost (sum_by size) (values_weight vs) (AreEach tells vs)
each_most size tells each [] xs h = omega (arith, ap (sum_by size) (ok_same xs [] h))
each_most size tells each (v ∷ vs) xs h =
    let first = then_ok (Below v.0 (tells v.0 v.1)) _ xs h in
    let rest = then_ok (AreEach tells vs) _ xs first.2 in
    let here = each v.0 v.1 first.0 (below_ok v.0 (tells v.0 v.1) first.0 first.1) in
    omega (
      arith,
      here,
      each_most size tells each vs rest.0 rest.1,
      values_first v vs,
      sum_by-cons size first.0 rest.0,
      ap (sum_by size) (ok_same xs (first.0 ∷ rest.0) rest.2),
    )

members_most : (ms : Members) → values_weight (member_pairs ms) ≤ members_weight ms
members_most no_members = omega arith
members_most (member key d ms) = omega (arith, members_most ms, values_first (key, d) (member_pairs ms))

items_most : (i : ℕ) (ds : Items) → values_weight (items_at i ds) ≤ items_weight ds
items_most i no_items = omega arith
items_most i (item d ds) = omega (arith, items_most (i + 1) ds, values_first (decimal i, d) (items_at (i + 1) ds))

module _ {T : Type 0} (size : T → ℕ) where
  -- all members of an object
  pub members_at_most : (tells : List ℕ → Data → Told T) → ((key : List ℕ) (d : Data) → AtMost size (weight d) (tells key d))
      → (ms : Members) → AtMost (sum_by size) (members_weight ms) (AreEach tells (member_pairs ms))
  members_at_most tells each ms xs h = omega (arith, each_most size tells each (member_pairs ms) xs h, members_most ms)

  -- what may be missing
  pub optional_at_most : (tells : Data → Told (List T)) → ((d : Data) → AtMost (sum_by size) (weight d) (tells d)) → (found : Option Data)
      → AtMost (sum_by size) (weight_or_none found) (IsOptional tells found)
  optional_at_most tells each None xs h = omega (arith, ap (sum_by size) (ok_same xs [] h))
  optional_at_most tells each (Some d) xs h = each d xs h

  -- a list
  pub list_at_most : (tells : Data → Told T) → ((d : Data) → AtMost size (weight d) (tells d)) → (d : Data)
      → AtMost (sum_by size) (weight d) (IsListOf tells d)
  list_at_most tells each d xs h =
      let items = then_ok _ _ xs h in
      let is : d ≡ array items.0 = items_ok d items.0 (said_ok (given (as_array d)) items.0 items.1) in
      omega (arith, each_most size (λ key. tells) (λ key. each) (items_at 0 items.0) xs items.2, items_most 0 items.0, ap weight is)

  -- the list at a key
  pub listed_at_most : (tells : Data → Told T) → ((d : Data) → AtMost size (weight d) (tells d)) → (key : List ℕ) (ms : Members)
      → AtMost (sum_by size) (weight_at ms key) (IsListAt tells key ms)
  listed_at_most tells each key ms xs h =
      optional_at_most (IsListOf tells) (list_at_most tells each) (get_member key ms) xs
      (below_ok key (IsOptional (IsListOf tells) (get_member key ms)) xs h)
