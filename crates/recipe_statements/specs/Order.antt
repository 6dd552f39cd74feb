-- What holds of a file's items: they stand in order, each in the heads of the items before it.
use Rattle.std.specs.Prelude.{ℕ, ◌+◌, ◌<◌, ◌≤◌, List, [], ◌∷◌}
use Rattle.recipe_statements.specs.declared.item.ClassItem.{ClassItem}
use Rattle.recipe_statements.specs.declared.item.ClassItem.TheVariants.{With, Call}

-- ---- order

abbrev pub first_of : ClassItem → ℕ
first_of (With first last depth) = first
first_of (Call first last depth) = first

abbrev pub last_of : ClassItem → ℕ
last_of (With first last depth) = last
last_of (Call first last depth) = last

-- the items stand between two places of the list of tokens, each ending before the next one starts
abbrev pub AreInOrder : ℕ → ℕ → List ClassItem → Type 0
AreInOrder from to [] = from ≤ to
AreInOrder from to (item ∷ others) = (from ≤ first_of item) × (first_of item < last_of item) × AreInOrder (last_of item + 1) to others

-- ---- nesting

-- in how many heads an item stands, and in how many the next one may stand
abbrev pub depth_of : ClassItem → ℕ
depth_of (With first last depth) = depth
depth_of (Call first last depth) = depth

abbrev pub depth_behind : ClassItem → ℕ
depth_behind (With first last depth) = depth + 1
depth_behind (Call first last depth) = depth

-- the first item stands in `most` heads at most, and each other in at most one more than the one before it, and that
-- only where the one before it is a head
abbrev pub AreNested : ℕ → List ClassItem → Type 0
AreNested most [] = Unit {0}
AreNested most (item ∷ others) = (depth_of item ≤ most) × AreNested (depth_behind item) others
