-- Lists of values in which texts of a grammar stand.
use Rattle.std.specs.Prelude.{ℕ, ◌+◌, List, [], ◌∷◌, decimal, Option, Some, None}
use Rattle.serde_json.specs.Data.{Data, Items, no_items, item, Members, no_members, member}
use Rattle.serde_json.specs.Find.{as_array, get_member}
use Rattle.json_readers.specs.Faults.{given}
use Rattle.settings_reader.specs.Told.{Told, ◌>>=◌, Below, done, told_by}

-- the values one after another, each with its key
abbrev pub AreEach : {T V : Type 0} → (List ℕ → V → Told T) → List (List ℕ × V) → Told (List T)
AreEach tells [] = done []
AreEach tells (v ∷ vs) = do
  x ← Below v.0 (tells v.0 v.1)
  xs ← AreEach tells vs
  done (x ∷ xs)

-- the items of a list, from a place on; the place is the key
abbrev pub items_at : ℕ → Items → List (List ℕ × Data)
items_at i no_items = []
items_at i (item d ds) = (decimal i, d) ∷ items_at (i + 1) ds

-- the members of an object
abbrev pub member_pairs : Members → List (List ℕ × Data)
member_pairs no_members = []
member_pairs (member key d ms) = (key, d) ∷ member_pairs ms

abbrev pub AreItems : {T : Type 0} → (Data → Told T) → Items → Told (List T)
AreItems tells ds = AreEach (λ key. tells) (items_at 0 ds)

abbrev pub IsListOf : {T : Type 0} → (Data → Told T) → Data → Told (List T)
IsListOf tells d = do
  ds ← told_by (given (as_array d))
  AreItems tells ds

-- nothing is written where it is not there
abbrev pub IsOptional : {T : Type 0} → (Data → Told (List T)) → Option Data → Told (List T)
IsOptional tells None = done []
IsOptional tells (Some d) = tells d

-- the list at a key
abbrev pub IsListAt : {T : Type 0} → (Data → Told T) → List ℕ → Members → Told (List T)
IsListAt tells key ms = Below key (IsOptional (IsListOf tells) (get_member key ms))
