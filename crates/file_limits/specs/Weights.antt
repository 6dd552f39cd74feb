-- How many bytes each text of a value has at least.
use Rattle.std.specs.Prelude.{ℕ, ◌+◌, List, length, Option, Some, None}
use Rattle.serde_json.specs.Data.{Data, null, boolean, number, string, array, object, Items, no_items, item, Members, no_members, member}
use Rattle.serde_json.specs.Find.{get_member}

-- Two quotes, or two brackets. With n items or members n - 1 commas stand between them, so each counts one and the brackets
-- one more. A key has two quotes and a colon.
abbrev mutual
  pub weight : Data → ℕ
  weight null = 1
  weight (boolean b) = 1
  weight (number n) = 1
  weight (string text) = length text + 2
  weight (array ds) = 1 + items_weight ds
  weight (object ms) = 1 + members_weight ms

  pub items_weight : Items → ℕ
  items_weight no_items = 0
  items_weight (item d ds) = 1 + weight d + items_weight ds

  pub members_weight : Members → ℕ
  members_weight no_members = 0
  members_weight (member key d ms) = length key + 4 + weight d + members_weight ms

-- what is not there weighs nothing
abbrev pub weight_or_none : Option Data → ℕ
weight_or_none None = 0
weight_or_none (Some d) = weight d

-- what stands at a key of an object
abbrev pub weight_at : Members → List ℕ → ℕ
weight_at ms key = weight_or_none (get_member key ms)
