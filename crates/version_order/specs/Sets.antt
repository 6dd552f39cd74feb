-- Which versions a set contains, and which sets overlap.
use Rattle.std.specs.Prelude.{ℕ, ◌&&◌, ◌||◌, Bool, true, List, [], ◌∷◌, Option, Some, None}
use Rattle.std.specs.List.{list_any}
use Rattle.std.specs.Ordering.{is_le}
use Rattle.std.specs.Str.{bytes_eq}
use Rattle.version_order.specs.Order.{version_cmp}
use Rattle.version_order.specs.Prefix.{is_prefix}
use Rattle.version_order.specs.declared.item.Item.{Item}
use Rattle.version_order.specs.declared.item.Item.TheVariants.{Exact, Prefix, Range}

-- v is not above the high end, or has it as a prefix
unfoldable pub is_under : List ℕ → List ℕ → Bool
is_under v high = is_le (version_cmp v high) || is_prefix high v

-- the low end is not above v; an end that is not written asks nothing
abbrev pub low_allows : Option (List ℕ) → List ℕ → Bool
low_allows None v = true
low_allows (Some low) v = is_le (version_cmp low v)

-- v is not above the high end, or has it as a prefix; an end that is not written asks nothing
abbrev pub high_allows : Option (List ℕ) → List ℕ → Bool
high_allows None v = true
high_allows (Some high) v = is_under v high

-- whether an item contains a version
unfoldable pub item_contains : Item → List ℕ → Bool
item_contains (Exact w) v = bytes_eq w v
item_contains (Prefix w) v = is_prefix w v
item_contains (Range low high) v = low_allows low v && high_allows high v

-- a set contains what an item of it does
abbrev pub set_contains : List Item → List ℕ → Bool
set_contains items v = list_any (λ item. item_contains item v) items

-- ---- overlaps

-- the ends of an item, where `w` counts as `w:w`
abbrev pub low_end : Item → Option (List ℕ)
low_end (Exact w) = Some w
low_end (Prefix w) = Some w
low_end (Range low high) = low

abbrev pub high_end : Item → Option (List ℕ)
high_end (Exact w) = Some w
high_end (Prefix w) = Some w
high_end (Range low high) = high

-- the low end is not above the high end, or has it as a prefix; an end that is not written never forbids
abbrev pub reaches : Option (List ℕ) → Option (List ℕ) → Bool
reaches None high = true
reaches (Some low) None = true
reaches (Some low) (Some high) = is_under low high

abbrev pub ends_meet : Item → Item → Bool
ends_meet one other = reaches (low_end one) (high_end other) && reaches (low_end other) (high_end one)

-- `=w` overlaps what contains w, `=x` where the texts are equal; other items overlap by their ends
unfoldable pub items_overlap : Item → Item → Bool
items_overlap (Exact w) other = item_contains other w
items_overlap (Prefix w) (Exact x) = item_contains (Prefix w) x
items_overlap (Prefix w) (Prefix x) = ends_meet (Prefix w) (Prefix x)
items_overlap (Prefix w) (Range low high) = ends_meet (Prefix w) (Range low high)
items_overlap (Range low high) (Exact x) = item_contains (Range low high) x
items_overlap (Range low high) (Prefix x) = ends_meet (Range low high) (Prefix x)
items_overlap (Range low high) (Range from to) = ends_meet (Range low high) (Range from to)

-- whether an item of the list overlaps the item
abbrev pub overlaps_item : List Item → Item → Bool
overlaps_item items one = list_any (λ other. items_overlap one other) items

-- two sets overlap where an item of the one overlaps an item of the other
abbrev pub sets_overlap : List Item → List Item → Bool
sets_overlap a b = list_any (overlaps_item b) a

-- ---- a set of one version

-- the version of the one item `w` or `=w`
abbrev pub version_of : Item → Option (List ℕ)
version_of (Exact w) = Some w
version_of (Prefix w) = Some w
version_of (Range low high) = None

abbrev pub single_of : List Item → Option (List ℕ)
single_of [] = None
single_of (item ∷ []) = version_of item
single_of (item ∷ other ∷ items) = None
