-- LIST: ITEM, then more ITEMs each after `,`. ITEM is `=VERSION`, `VERSION` or `[VERSION]:[VERSION]`.
use Rattle.std.specs.Prelude.{◌≡◌, ◌<◌, ℕ, ◌+◌, ◌&&◌, Bool, false, not, List, [], ◌∷◌, ◌++◌, length, Option, Some, None, IfSome, if◌then◌else◌}
use Rattle.std.specs.List.{AllByRecursion}
use Rattle.std.specs.Ordering.{is_gt}
use Rattle.version_order.specs.Signs.{IsVersion}
use Rattle.version_order.specs.Order.{version_cmp}
use Rattle.version_order.specs.Prefix.{is_prefix}
use Rattle.version_order.specs.declared.item.Item.{Item}
use Rattle.version_order.specs.declared.item.Item.TheVariants.{Exact, Prefix, Range}

-- an end of a range, which may not be written
abbrev pub written : Option (List ℕ) → List ℕ
written None = []
written (Some w) = w

abbrev pub spell : Item → List ℕ
spell (Exact w) = 61 ∷ w
spell (Prefix w) = w
spell (Range low high) = written low ++ 58 ∷ written high

abbrev pub IsItem : Item → Type 0
IsItem (Exact w) = IsVersion w
IsItem (Prefix w) = IsVersion w
IsItem (Range low high) = IfSome low IsVersion × IfSome high IsVersion

-- items, each after a comma
abbrev pub spell_more : List Item → List ℕ
spell_more [] = []
spell_more (item ∷ items) = 44 ∷ (spell item ++ spell_more items)

-- the one text of a list of items
abbrev pub spelling : List Item → List ℕ
spelling [] = []
spelling (item ∷ items) = spell item ++ spell_more items

-- the text is a LIST of these items
pub record Reads (text : List ℕ) (items : List Item) : Type 0 where
  pub some : 0 < length items
  pub each : AllByRecursion IsItem items
  pub spelled : text ≡ spelling items

abbrev pub IsList : List ℕ → Type 0
IsList text = (items : List Item) × Reads text items

-- a range is empty where its low end is above its high end, and the high end is no prefix of the low one
unfoldable pub is_empty_range : Item → Bool
is_empty_range (Exact w) = false
is_empty_range (Prefix w) = false
is_empty_range (Range None high) = false
is_empty_range (Range (Some low) None) = false
is_empty_range (Range (Some low) (Some high)) = is_gt (version_cmp low high) && not (is_prefix high low)

-- the place of the first empty range, where the first item stands at `place`
unfoldable pub first_empty : ℕ → List Item → Option ℕ
first_empty place [] = None
first_empty place (item ∷ items) =
    if is_empty_range item then Some place else first_empty (place + length (spell item) + 1) items

-- the items of a set: those of some LIST, and no range is empty
abbrev pub AreOfSet : List Item → Type 0
AreOfSet items = Reads (spelling items) items × (first_empty 0 items ≡ None)

-- the first list is the front of the second
abbrev pub IsFront : List ℕ → List ℕ → Type 0
IsFront front whole = (rest : List ℕ) × (whole ≡ front ++ rest)
