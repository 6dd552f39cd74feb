-- To overlap is symmetric.
use Rattle.std.proofs.Common.{◌≡◌, ℕ, Bool, true, false, List, [], ◌∷◌, Some, None, refl, sym, ap, ◌∙◌}
use Rattle.std.specs.Ordering.{is_le, is_gt}
use Rattle.std.specs.declared.cmp.Ordering.{Ordering}
use Rattle.std.specs.declared.cmp.Ordering.TheVariants.{Less, Equal, Greater}
use Rattle.std.specs.Prelude.{◌&&◌, ◌||◌, not}
use Rattle.std.specs.List.{list_any}
use Rattle.std.specs.Str.{bytes_eq}
use Rattle.std.proofs.lemmas.Bool.Decides.{same_from_decides}
use Rattle.std.proofs.lemmas.Slice.Eq.{bytes_eq-Decides}
use Rattle.version_order.specs.Sets.{is_under, item_contains, reaches, low_end, high_end, items_overlap, overlaps_item, set_contains, sets_overlap}
use Rattle.version_order.specs.Items.{is_empty_range}
use Rattle.version_order.specs.Order.{version_cmp}
use Rattle.version_order.specs.Prefix.{is_prefix}
use Rattle.version_order.proofs.OrderLaws.{version_same}
use Rattle.version_order.specs.declared.item.Item.{Item}
use Rattle.version_order.specs.declared.item.Item.TheVariants.{Exact, Prefix, Range}

and_comm : (a b : Bool) → (a && b) ≡ (b && a)
and_comm true true = refl
and_comm true false = refl
and_comm false true = refl
and_comm false false = refl

regroup : (a b c d : Bool) → ((a || b) || (c || d)) ≡ ((a || c) || (b || d))
regroup true b c d = refl
regroup false true true d = refl
regroup false true false d = refl
regroup false false true d = refl
regroup false false false d = refl

bytes_comm : (a b : List ℕ) → bytes_eq a b ≡ bytes_eq b a
bytes_comm a b =
    let back = bytes_eq-Decides b a in
    same_from_decides (bytes_eq a b) (bytes_eq b a) (bytes_eq-Decides a b) (λ e. sym (back.0 e), λ e. back.1 (sym e))

-- items overlap both ways
pub items_symmetric : (a b : Item) → items_overlap a b ≡ items_overlap b a
unfolding items_overlap item_contains
items_symmetric (Exact w) (Exact x) = bytes_comm x w
items_symmetric (Exact w) (Prefix x) = refl
items_symmetric (Exact w) (Range low high) = refl
items_symmetric (Prefix w) (Exact x) = refl
items_symmetric (Prefix w) (Prefix x) = and_comm (reaches (low_end (Prefix w)) (high_end (Prefix x)))
    (reaches (low_end (Prefix x)) (high_end (Prefix w)))
items_symmetric (Prefix w) (Range low high) =
    and_comm (reaches (low_end (Prefix w)) (high_end (Range low high))) (reaches (low_end (Range low high)) (high_end (Prefix w)))
items_symmetric (Range low high) (Exact x) = refl
items_symmetric (Range low high) (Prefix x) =
    and_comm (reaches (low_end (Range low high)) (high_end (Prefix x))) (reaches (low_end (Prefix x)) (high_end (Range low high)))
items_symmetric (Range low high) (Range from to) =
    and_comm (reaches (low_end (Range low high)) (high_end (Range from to))) (reaches (low_end (Range from to)) (high_end (Range low high)))

none_overlaps : (a : List Item) → sets_overlap a [] ≡ false
none_overlaps [] = refl
none_overlaps (x ∷ a) = none_overlaps a

-- one item more in the second set
more_overlaps : (a : List Item) (y : Item) (b : List Item) → sets_overlap a (y ∷ b) ≡ (overlaps_item a y || sets_overlap a b)
more_overlaps [] y b = refl
more_overlaps (x ∷ a) y b = rw (more_overlaps a y b, items_symmetric x y)
    (regroup (items_overlap y x) (overlaps_item b x) (overlaps_item a y) (sets_overlap a b))

-- sets overlap both ways
pub sets_symmetric : (a b : List Item) → sets_overlap a b ≡ sets_overlap b a
sets_symmetric a [] = none_overlaps a
sets_symmetric a (y ∷ b) = more_overlaps a y b ∙ ap (λ rest. overlaps_item a y || rest) (sets_symmetric a b)

or_none : (b : Bool) → (b || false) ≡ b
or_none true = refl
or_none false = refl

any_same : {A : Type 0} (p q : A → Bool) → ((x : A) → p x ≡ q x) → (xs : List A) → list_any p xs ≡ list_any q xs
any_same p q h [] = refl
any_same p q h (x ∷ xs) = rw (h x, any_same p q h xs) refl

-- an exact version overlaps the items that contain it
pub exact_overlaps : (w : List ℕ) (item : Item) → items_overlap (Exact w) item ≡ item_contains item w
unfolding items_overlap
exact_overlaps w item = refl

-- an exact version overlaps the sets that contain it
pub exact_set : (w : List ℕ) (items : List Item) → sets_overlap (Exact w ∷ []) items ≡ set_contains items w
exact_set w items = or_none (overlaps_item items (Exact w))
    ∙ any_same (items_overlap (Exact w)) (λ item. item_contains item w) (exact_overlaps w) items

-- ---- empty ranges

twice : (b : Bool) → (b && b) ≡ b
twice true = refl
twice false = refl

not_empty : (r : Ordering) (p : Bool) → (is_le r || p) ≡ not (is_gt r && not p)
not_empty Less p = refl
not_empty Equal p = refl
not_empty Greater true = refl
not_empty Greater false = refl

-- an item overlaps itself unless it is an empty range
pub own_overlap : (item : Item) → items_overlap item item ≡ not (is_empty_range item)
unfolding items_overlap item_contains is_under is_empty_range
own_overlap (Exact w) = (bytes_eq-Decides w w).1 refl
own_overlap (Prefix w) = rw (version_same w w refl) refl
own_overlap (Range None None) = refl
own_overlap (Range None (Some high)) = refl
own_overlap (Range (Some low) None) = refl
own_overlap (Range (Some low) (Some high)) = twice (is_le (version_cmp low high) || is_prefix high low)
    ∙ not_empty (version_cmp low high) (is_prefix high low)
