-- What the first item of a text is.
use Rattle.std.proofs.Common.{◌≡◌, ℕ, suc, ◌≤◌, ◌+◌, true, false, List, [], ◌∷◌, ◌++◌, length, Option, Some, None, refl, ap, subst, ◌∙◌, arith, inl, inr, append_assoc}
use Rattle.std.specs.Prelude.{◌==◌, IfSome}
use Rattle.std.specs.List.{list_all, prefix_len}
use Rattle.std.proofs.lemmas.Bool.{cases_Bool, and_parts}
use Rattle.std.proofs.lemmas.Bool.Decides.{nat_tests}
use Rattle.std.proofs.lemmas.List.{length-drop}
use Rattle.version_order.specs.Signs.{is_start, is_version_byte, IsVersion, AreBytes}
use Rattle.version_order.specs.Items.{written, spell, spell_more, IsItem, IsList}
use Rattle.version_order.specs.Cut.{front, behind, end_of, after_low, first_item}
use Rattle.version_order.specs.declared.item.Item.{Item}
use Rattle.version_order.specs.declared.item.Item.TheVariants.{Exact, Prefix, Range}
use Rattle.version_order.proofs.VersionLaws.{version_bytes}

start_other : (b : ℕ) → is_start b ≡ true → (b == 61) ≡ false
start_other b h = grind (arith, nat_tests)

-- where the front ends
abbrev EndsFront : List ℕ → Type 0
EndsFront [] = Unit {0}
EndsFront (b ∷ rest) = is_version_byte b ≡ false

front_is : (w rest : List ℕ) → AreBytes w → EndsFront rest → (front (w ++ rest) ≡ w) × (behind (w ++ rest) ≡ rest)
unfolding front behind
front_is [] [] h e = (refl, refl)
front_is [] (b ∷ rest) h e = (rw e refl, rw e refl)
front_is (b ∷ w) rest h e =
    let p = and_parts (is_version_byte b) (list_all is_version_byte w) h in
    let r = front_is w rest p.1 e in
    let one : 1 + prefix_len is_version_byte (w ++ rest) ≡ suc (prefix_len is_version_byte (w ++ rest)) = omega arith in
    (rw (p.0, one) (ap (λ (l : List ℕ). b ∷ l) r.0), rw (p.0, one) r.1)

more_ends : (items : List Item) → EndsFront (spell_more items)
more_ends [] = tt
more_ends (x ∷ items) = refl

end_of_written : (o : Option (List ℕ)) → IfSome o IsVersion → end_of (written o) ≡ o
end_of_written None h = refl
end_of_written (Some []) h = absurd cc
end_of_written (Some (b ∷ w)) h = refl

written_bytes : (o : Option (List ℕ)) → IfSome o IsVersion → AreBytes (written o)
written_bytes None h = refl
written_bytes (Some w) h = version_bytes w h

-- a version does not begin with `=`
version_head : (w rest : List ℕ) → IsVersion w → first_item (w ++ rest) ≡ after_low (front (w ++ rest)) (behind (w ++ rest))
unfolding first_item
version_head [] rest h = absurd cc
version_head (b ∷ w) rest h =
    let p = and_parts (is_start b) (list_all is_version_byte w) h in
    let other : (b == 61) ≡ false = start_other b p.0 in
    rw other refl

low_then : (w rest : List ℕ) → IsVersion w → EndsFront rest → first_item (w ++ rest) ≡ after_low w rest
low_then w rest h e =
    let f = front_is w rest (version_bytes w h) e in
    version_head w rest h ∙ rw (f.0, f.1) refl

more_after : (w : List ℕ) (items : List Item) → after_low w (spell_more items) ≡ (Prefix w, spell_more items)
more_after w [] = refl
more_after w (x ∷ items) = refl

-- what stands behind the high end of a range
colon_then : (w : List ℕ) (high : Option (List ℕ)) (items : List Item) → IfSome high IsVersion
    → after_low w (58 ∷ (written high ++ spell_more items)) ≡ (Range (end_of w) high, spell_more items)
colon_then w high items h =
    let f = front_is (written high) (spell_more items) (written_bytes high h) (more_ends items) in
    rw (f.0, f.1, end_of_written high h) refl

-- the first item of a text of items is the first of them
pub first_item_is : (x : Item) (items : List Item) → IsItem x → first_item (spell x ++ spell_more items) ≡ (x, spell_more items)
unfolding first_item
first_item_is (Exact w) items h =
    let f = front_is w (spell_more items) (version_bytes w h) (more_ends items) in
    rw (f.0, f.1) refl
first_item_is (Prefix w) items h = low_then w (spell_more items) h (more_ends items) ∙ more_after w items
first_item_is (Range None high) items h =
    let f = front_is [] (58 ∷ (written high ++ spell_more items)) refl refl in
    rw (f.0, f.1) (colon_then [] high items h.1)
first_item_is (Range (Some low) high) items h =
    ap first_item (append_assoc low (58 ∷ written high) (spell_more items))
    ∙ low_then low (58 ∷ (written high ++ spell_more items)) h.0 refl
    ∙ colon_then low high items h.1
    ∙ ap (λ (o : Option (List ℕ)). (Range o high, spell_more items)) (end_of_written (Some low) h.0)

-- ---- the items one after another

behind-le : (text : List ℕ) → length (behind text) ≤ length text
unfolding behind
behind-le text = omega (arith, length-drop (prefix_len is_version_byte text) text)

after_low-le : (low rest : List ℕ) → length (after_low low rest).1 ≤ length rest
after_low-le low [] = omega arith
after_low-le low (b ∷ rest) = elim (cases_Bool (b == 58)) [
  | inl is ↦ rw is (omega (arith, behind-le rest))
  | inr other ↦ rw other (omega arith)
]

-- what stands behind the first item is no longer than the text
pub first_item-le : (text : List ℕ) → length (first_item text).1 ≤ length text
unfolding first_item
first_item-le [] = omega (arith, after_low-le (front []) (behind []), behind-le [])
first_item-le (b ∷ rest) = elim (cases_Bool (b == 61)) [
  | inl is ↦ rw is (omega (arith, behind-le rest))
  | inr other ↦ rw other (omega (arith, after_low-le (front (b ∷ rest)) (behind (b ∷ rest)), behind-le (b ∷ rest)))
]

-- the first item of a LIST is a right one
pub first_right : (text : List ℕ) → IsList text → IsItem (first_item text).0
first_right text ([], r) = absurd (omega (arith, r.some))
first_right text (x ∷ items, r) =
    let first : first_item text ≡ (x, spell_more items) = ap first_item r.spelled ∙ first_item_is x items r.each.0 in
    rw first r.each.0

-- the version behind `=`
pub exact_right : (text rest : List ℕ) → text ≡ 61 ∷ rest → IsList text → IsVersion (front rest)
unfolding first_item
exact_right text rest whole list = first_right (61 ∷ rest) (subst IsList whole list)

-- an item that does not begin with `=`
pub low_right : (text : List ℕ) → first_item text ≡ after_low (front text) (behind text) → IsList text
    → IsItem (after_low (front text) (behind text)).0
low_right text first list = subst (λ (p : Item × List ℕ). IsItem p.0) first (first_right text list)
