-- The items of a LIST, read one after another, and that no text is a LIST of others.
use Rattle.std.proofs.Common.{◌≡◌, ℕ, List, [], ◌∷◌, ◌++◌, refl, sym, ap, ◌∙◌, arith, append_assoc}
use Rattle.std.specs.List.{AllByRecursion}
use Rattle.version_order.specs.Items.{spell, spell_more, IsItem, Reads}
use Rattle.version_order.specs.Cut.{first_item}
use Rattle.version_order.specs.declared.item.Item.{Item}
use Rattle.version_order.proofs.FirstLaws.{first_item_is}

-- what is left to read, of all the items
pub record Left (items : List Item) (rest : List ℕ) (all : List Item) : Type 0 where
  pub left : List Item
  pub joined : items ++ left ≡ all
  pub reads : Reads rest left

abbrev pub IsSoFar : List ℕ → List Item → List ℕ → Type 0
IsSoFar text items rest = (all : List Item) → Reads text all → Left items rest all

-- before the first item the whole text is left
pub so_far_none : (text : List ℕ) → IsSoFar text [] text
so_far_none text all r = record { left = all; joined = refl; reads = r }

cons_none : (b : ℕ) (l : List ℕ) → b ∷ l ≡ [] → ⊥
cons_none b l e = cc

same_tail : (a b : ℕ) (k l : List ℕ) → a ∷ k ≡ b ∷ l → k ≡ l
same_tail a b k l e = cc

first_of : (rest : List ℕ) (y : Item) (ys : List Item) → Reads rest (y ∷ ys) → first_item rest ≡ (y, spell_more ys)
first_of rest y ys r = ap first_item r.spelled ∙ first_item_is y ys r.each.0

first_part : (rest : List ℕ) (y : Item) (ys : List Item) → Reads rest (y ∷ ys) → (first_item rest).0 ≡ y
first_part rest y ys r = ap (λ (p : Item × List ℕ). p.0) (first_of rest y ys r)

second_part : (rest : List ℕ) (y : Item) (ys : List Item) → Reads rest (y ∷ ys) → (first_item rest).1 ≡ spell_more ys
second_part rest y ys r = ap (λ (p : Item × List ℕ). p.1) (first_of rest y ys r)

all_case : (items : List Item) (rest : List ℕ) (x : Item) (left all : List Item) → items ++ left ≡ all → Reads rest left
    → x ≡ (first_item rest).0 → (first_item rest).1 ≡ []
    → items ++ x ∷ [] ≡ all
all_case items rest x [] all j r e none = absurd (omega (arith, r.some))
all_case items rest x (y ∷ []) all j r e none = ap (λ (v : Item). items ++ v ∷ []) (e ∙ first_part rest y [] r) ∙ j
all_case items rest x (y ∷ z ∷ zs) all j r e none =
    let two = second_part rest y (z ∷ zs) r in
    absurd (cons_none _ _ (sym two ∙ none))

more_case : (items : List Item) (rest : List ℕ) (x : Item) (b : ℕ) (next : List ℕ) (left all : List Item) → items ++ left ≡ all
    → Reads rest left → x ≡ (first_item rest).0 → (first_item rest).1 ≡ b ∷ next
    → Left (items ++ x ∷ []) next all
more_case items rest x b next [] all j r e some = absurd (omega (arith, r.some))
more_case items rest x b next (y ∷ []) all j r e some =
    let two = second_part rest y [] r in
    absurd (cons_none b next (sym some ∙ two))
more_case items rest x b next (y ∷ z ∷ zs) all j r e some = record {
  left = z ∷ zs;
  joined = append_assoc items (x ∷ []) (z ∷ zs) ∙ ap (λ (v : Item). items ++ v ∷ z ∷ zs) (e ∙ first_part rest y (z ∷ zs) r) ∙ j;
  reads = record { some = omega arith; each = r.each.1; spelled = same_tail b 44 next _ (sym some ∙ second_part rest y (z ∷ zs) r) };
}

-- the last item
pub so_far_all : (text : List ℕ) (items : List Item) (rest : List ℕ) (x : Item) → IsSoFar text items rest → x ≡ (first_item rest).0
    → (first_item rest).1 ≡ []
    → (all : List Item) → Reads text all → items ++ x ∷ [] ≡ all
so_far_all text items rest x so_far e none all r =
    let l = so_far all r in
    all_case items rest x l.left all l.joined l.reads e none

-- one item more
pub so_far_more : (text : List ℕ) (items : List Item) (rest : List ℕ) (x : Item) (b : ℕ) (next : List ℕ) → IsSoFar text items rest
    → x ≡ (first_item rest).0 → (first_item rest).1 ≡ b ∷ next
    → IsSoFar text (items ++ x ∷ []) next
so_far_more text items rest x b next so_far e some all r =
    let l = so_far all r in
    more_case items rest x b next l.left all l.joined l.reads e some

-- ---- one reading

more_same : (a b : List Item) → AllByRecursion IsItem a → AllByRecursion IsItem b → spell_more a ≡ spell_more b → a ≡ b
more_same [] [] p q e = refl
more_same [] (y ∷ b) p q e = absurd (cons_none _ _ (sym e))
more_same (x ∷ a) [] p q e = absurd (cons_none _ _ e)
more_same (x ∷ a) (y ∷ b) p q e =
    let tails : spell x ++ spell_more a ≡ spell y ++ spell_more b = same_tail 44 44 _ _ e in
    let firsts = sym (first_item_is x a p.0) ∙ ap first_item tails ∙ first_item_is y b q.0 in
    let one : x ≡ y = ap (λ (r : Item × List ℕ). r.0) firsts in
    let others : a ≡ b = more_same a b p.1 q.1 (ap (λ (r : Item × List ℕ). r.1) firsts) in
    cc

-- a text is read as one list of items
pub one_reading : (text : List ℕ) (a b : List Item) → Reads text a → Reads text b → a ≡ b
one_reading text [] b r s = absurd (omega (arith, r.some))
one_reading text (x ∷ a) [] r s = absurd (omega (arith, s.some))
one_reading text (x ∷ a) (y ∷ b) r s = more_same (x ∷ a) (y ∷ b) r.each s.each (ap (λ (l : List ℕ). 44 ∷ l) (sym r.spelled ∙ s.spelled))
