-- What the machine accepts is a LIST.
use Rattle.std.proofs.Common.{◌≡◌, ℕ, true, List, [], ◌∷◌, ◌++◌, Option, Some, None, refl, sym, ap, subst, ◌∙◌, arith, inl, inr, append_assoc}
use Rattle.std.proofs.lemmas.Option.{same_Some}
use Rattle.std.specs.Prelude.{◌==◌, ◌⊎◌, IfSome, option_and_then}
use Rattle.std.specs.List.{AllByRecursion}
use Rattle.std.proofs.lemmas.Bool.{cases_Bool, eqb-true}
use Rattle.std.proofs.lemmas.List.{append-nil}
use Rattle.version_order.specs.Signs.{is_start, is_version_byte, IsVersion, AreBytes}
use Rattle.version_order.specs.Machine.{run}
use Rattle.version_order.specs.Items.{written, spell, spell_more, IsItem, IsList}
use Rattle.version_order.specs.declared.item.Item.{Item}
use Rattle.version_order.specs.declared.item.Item.TheVariants as item
use Rattle.version_order.specs.Scan.{sign_of, after, is_final, step}
use Rattle.version_order.specs.declared.scan.Sign.{Sign}
use Rattle.version_order.specs.declared.scan.Sign.TheVariants.{Start, Inner, Equals, Colon, Comma, Other}
use Rattle.version_order.specs.declared.scan.Place.{Place}
use Rattle.version_order.specs.declared.scan.Place.TheVariants as place
use Rattle.version_order.proofs.VersionLaws.{start_byte}

abbrev AreItems : List Item → Type 0
AreItems items = AllByRecursion IsItem items

-- the rest of a version, and more items
abbrev Inside : List ℕ → Type 0
Inside text = (w : List ℕ) × (items : List Item) × AreBytes w × AreItems items × (text ≡ w ++ spell_more items)

-- what may stand after each state
abbrev Rest : Place → List ℕ → Type 0
Rest place.Item text = (x : Item) × (items : List Item) × IsItem x × AreItems items × (text ≡ spell x ++ spell_more items)
Rest place.Exact text = (w : List ℕ) × (items : List Item) × IsVersion w × AreItems items × (text ≡ w ++ spell_more items)
Rest place.InExact text = Inside text
Rest place.InLow text = Inside text ⊎ ((w : List ℕ) × (high : Option (List ℕ)) × (items : List Item) × AreBytes w × IfSome high IsVersion
    × AreItems items × (text ≡ w ++ 58 ∷ (written high ++ spell_more items)))
Rest place.High text = (high : Option (List ℕ)) × (items : List Item) × IfSome high IsVersion × AreItems items
    × (text ≡ written high ++ spell_more items)
Rest place.InHigh text = Inside text

abbrev RestAfter : Option Place → List ℕ → Type 0
RestAfter None rest = ⊥
RestAfter (Some t) rest = Rest t rest

-- what a sign says of its byte
abbrev Says : ℕ → Sign → Type 0
Says b Start = is_start b ≡ true
Says b Inner = is_version_byte b ≡ true
Says b Equals = b ≡ 61
Says b Colon = b ≡ 58
Says b Comma = b ≡ 44
Says b Other = Unit {0}

says : (b : ℕ) → Says b (sign_of b)
says b =
    elim (cases_Bool (is_start b)) [
      | inl h ↦ rw h h
      | inr h1 ↦ elim (cases_Bool (is_version_byte b)) [
        | inl h ↦ rw (h, h1) h
        | inr h2 ↦ elim (cases_Bool (b == 61)) [
          | inl h ↦ rw (h2, h1, h) (eqb-true b 61 h)
          | inr h3 ↦ elim (cases_Bool (b == 58)) [
            | inl h ↦ rw (h2, h1, h3, h) (eqb-true b 58 h)
            | inr h4 ↦ elim (cases_Bool (b == 44)) [
              | inl h ↦ rw (h2, h1, h3, h4, h) (eqb-true b 44 h)
              | inr h5 ↦ rw (h2, h1, h3, h4, h5) tt
            ]
          ]
        ]
      ]
    ]

bytes-cons : (b : ℕ) (w : List ℕ) → is_version_byte b ≡ true → AreBytes w → AreBytes (b ∷ w)
bytes-cons b w h e = rw (h, e) refl

version-cons : (b : ℕ) (w : List ℕ) → is_start b ≡ true → AreBytes w → IsVersion (b ∷ w)
version-cons b w h e = rw (h, e) refl

-- a byte in front of the rest of a version
inside-cons : (b : ℕ) (rest : List ℕ) → is_version_byte b ≡ true → Inside rest → Inside (b ∷ rest)
inside-cons b rest h (w, items, bytes, are, e) = (b ∷ w, items, bytes-cons b w h bytes, are, ap (λ (l : List ℕ). b ∷ l) e)

low-cons : (b : ℕ) (rest : List ℕ) → is_version_byte b ≡ true → Rest place.InLow rest → Rest place.InLow (b ∷ rest)
low-cons b rest h (inl r) = inl (inside-cons b rest h r)
low-cons b rest h (inr (w, high, items, bytes, upper, are, e)) = inr (b ∷ w, high, items, bytes-cons b w h bytes, upper, are, cc)

-- one byte more in front
prepend : (s : Place) (g : Sign) (b : ℕ) (rest : List ℕ) → Says b g → RestAfter (after s g) rest → Rest s (b ∷ rest)
prepend place.Item Start b rest h (inl (w, items, bytes, are, e)) =
    (item.Prefix (b ∷ w), items, version-cons b w h bytes, are, ap (λ (l : List ℕ). b ∷ l) e)
prepend place.Item Start b rest h (inr (w, high, items, bytes, upper, are, e)) = (
  item.Range (Some (b ∷ w)) high,
  items,
  (version-cons b w h bytes, upper),
  are,
  ap (λ (l : List ℕ). b ∷ l) (e
      ∙ sym (append_assoc w (58 ∷ written high) (spell_more items))),
)
prepend place.Item Equals b rest h (w, items, v, are, e) = (item.Exact w, items, v, are, cc)
prepend place.Item Colon b rest h (high, items, upper, are, e) = (item.Range None high, items, (tt, upper), are, cc)
prepend place.Exact Start b rest h (w, items, bytes, are, e) = (b ∷ w, items, version-cons b w h bytes, are, cc)
prepend place.InExact Start b rest h r = inside-cons b rest (start_byte b h) r
prepend place.InExact Inner b rest h r = inside-cons b rest h r
prepend place.InExact Comma b rest h (x, items, one, are, e) = ([], x ∷ items, refl, (one, are), cc)
prepend place.InLow Start b rest h r = low-cons b rest (start_byte b h) r
prepend place.InLow Inner b rest h r = low-cons b rest h r
prepend place.InLow Colon b rest h (high, items, upper, are, e) = inr ([], high, items, refl, upper, are, cc)
prepend place.InLow Comma b rest h (x, items, one, are, e) = inl ([], x ∷ items, refl, (one, are), cc)
prepend place.High Start b rest h (w, items, bytes, are, e) = (Some (b ∷ w), items, version-cons b w h bytes, are, cc)
prepend place.High Comma b rest h (x, items, one, are, e) = (None, x ∷ items, tt, (one, are), cc)
prepend place.InHigh Start b rest h r = inside-cons b rest (start_byte b h) r
prepend place.InHigh Inner b rest h r = inside-cons b rest h r
prepend place.InHigh Comma b rest h (x, items, one, are, e) = ([], x ∷ items, refl, (one, are), cc)
prepend s g b rest h r = absurd r

-- what stands after the states that a text goes through
back : (s t : Place) (text rest : List ℕ) → run step s text ≡ Some t → Rest t rest → Rest s (text ++ rest)
unfolding step
back s t [] rest e r = subst (λ (u : Place). Rest u rest) (sym (same_Some s t e)) r
back s t (b ∷ text) rest e r =
    prepend s (sign_of b) b (text ++ rest) (says b)
    (elim (after s (sign_of b)) as (λ o. option_and_then (λ u. run step u text) o ≡ Some t → RestAfter o (text ++ rest)) [
      | None ↦ λ no. absurd cc
      | Some u ↦ λ more. back u t text rest more r
    ] e)

from_rest : (text : List ℕ) → Rest place.Item text → IsList text
from_rest text (x, items, one, are, e) = (x ∷ items, record { some = omega arith; each = (one, are); spelled = e })

final_rest : (s : Place) → is_final s ≡ true → Rest s []
final_rest place.Item h = absurd cc
final_rest place.Exact h = absurd cc
final_rest place.InExact h = ([], [], refl, tt, refl)
final_rest place.InLow h = inl ([], [], refl, tt, refl)
final_rest place.High h = (None, [], tt, tt, refl)
final_rest place.InHigh h = ([], [], refl, tt, refl)

-- a text that the machine accepts is a LIST
pub list_from_end : (text : List ℕ) (s : Place) → run step place.Item text ≡ Some s → is_final s ≡ true → IsList text
list_from_end text s e h = from_rest text (rw append-nil at (back place.Item s text [] e (final_rest s h)))
