-- The place of the first empty range, item by item.
use Rattle.std.proofs.Common.{◌≡◌, ℕ, ◌<◌, ◌+◌, true, false, List, [], ◌∷◌, ◌++◌, length, drop, get_or, Some, None, refl, sym, ap, ◌∙◌, arith, add-zero}
use Rattle.std.specs.List.{All}
use Rattle.std.proofs.lemmas.List.Elements.{All-head, All-tail}
use Rattle.std.proofs.lemmas.List.{append-nil, drop_more, length-append}
use Rattle.version_order.specs.Items.{spell, spell_more, is_empty_range, first_empty}
use Rattle.version_order.specs.declared.item.Item.{Item}

-- an empty range at hand is the first
pub empty_here : (items : List Item) (i place : ℕ) (d : Item) → i < length items → is_empty_range (get_or items i d) ≡ true
    → first_empty place (drop i items) ≡ Some place
unfolding first_empty
empty_here items i place d lt h = rw (drop_more items i d lt, h) refl

-- behind an item that is no empty range the search goes on at the next item's place
pub empty_later : (items : List Item) (i place : ℕ) (d : Item) → i < length items → is_empty_range (get_or items i d) ≡ false
    → first_empty place (drop i items) ≡ first_empty (place + length (spell (get_or items i d)) + 1) (drop (i + 1) items)
unfolding first_empty
empty_later items i place d lt h = rw (drop_more items i d lt, h) refl

-- no items have no empty range
pub empty_none : (place : ℕ) → first_empty place [] ≡ None
unfolding first_empty
empty_none place = refl

-- the text from an item on is that of the item, one sign and the text behind it
pub longer : (items : List Item) (i : ℕ) (d : Item) → i < length items
    → length (spell_more (drop i items)) ≡ 1 + length (spell (get_or items i d)) + length (spell_more (drop (i + 1) items))
longer items i d lt = rw (drop_more items i d lt)
    (omega (arith, length-append (spell (get_or items i d)) (spell_more (drop (i + 1) items))))

-- past items that are no empty ranges
past : (place : ℕ) (before after : List Item) → All (λ item. is_empty_range item ≡ false) before
    → first_empty place (before ++ after) ≡ first_empty (place + length (spell_more before)) after
unfolding first_empty
past place [] after h = rw (add-zero place) refl
past place (x ∷ before) after h =
    rw (All-head (λ item. is_empty_range item ≡ false) x before h)
    (past (place + length (spell x) + 1) before after (All-tail (λ item. is_empty_range item ≡ false) x before h)
    ∙ ap (λ n. first_empty n after) (omega (arith, length-append (spell x) (spell_more before))))

-- the first empty range stands behind the text of the items before it
pub first_at : (before after : List Item) (item : Item) → All (λ other. is_empty_range other ≡ false) before → is_empty_range item ≡ true
    → first_empty 0 (before ++ item ∷ after) ≡ Some (length (spell_more before))
unfolding first_empty
first_at before after item h is = past 0 before (item ∷ after) h ∙ rw is (ap (λ n. Some n) (omega arith))

-- items that are no empty ranges have no first one
pub none_at : (items : List Item) → All (λ item. is_empty_range item ≡ false) items → first_empty 0 items ≡ None
none_at items h = sym (ap (first_empty 0) (append-nil items)) ∙ past 0 items [] h ∙ empty_none _
