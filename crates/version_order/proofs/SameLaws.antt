-- Components are the same exactly where neither is above the other.
use Rattle.std.proofs.Common.{◌≡◌, ℕ, false, cond, List, Option, Some, None, refl, sym, ap, ◌∙◌, inl, inr, codes, arith}
use Rattle.std.proofs.lemmas.Option.{same_Some, none-some}
use Rattle.std.specs.Prelude.{◌==◌, if◌then◌else◌}
use Rattle.std.specs.Str.{bytes_eq}
use Rattle.std.specs.Bool.{Decides}
use Rattle.std.specs.Ordering.{nat_cmp, is_eq}
use Rattle.std.proofs.lemmas.Bool.{cases_Bool}
use Rattle.std.proofs.lemmas.Bool.Decides.{nat_tests, same_from_decides, Decides-eqb}
use Rattle.std.proofs.lemmas.Map.Text.{is_eq-slice_cmp}
use Rattle.std.proofs.lemmas.Slice.Eq.{bytes_eq-Decides}
use Rattle.version_order.specs.Component.{word_of, number_of, rank_of, rank_by, rank_cmp, component_cmp}
use Rattle.version_order.specs.Prefix.{is_same, is_same_by}

-- ---- the six words, by their places

abbrev spelled : ℕ → List ℕ
spelled w =
    if w == 6 then codes "develop"
    else if w == 5 then codes "main"
    else if w == 4 then codes "master"
    else if w == 3 then codes "head"
    else if w == 2 then codes "trunk"
    else codes "stable"

-- a word has one text, and is no number
abbrev IsWord : List ℕ → ℕ → Type 0
IsWord piece w = (piece ≡ spelled w) × (number_of piece ≡ None)

one_word : (piece text : List ℕ) (n w : ℕ) (others : Option ℕ) → text ≡ spelled n → number_of text ≡ None
    → (others ≡ Some w → IsWord piece w)
    → cond (bytes_eq piece text) (Some n) others ≡ Some w → IsWord piece w
one_word piece text n w others is none later e = elim (cases_Bool (bytes_eq piece text)) [
  | inl here ↦
      let same : piece ≡ text = (bytes_eq-Decides piece text).0 here in
      let place : Some n ≡ Some w = rw here at e in
      (same ∙ is ∙ ap spelled (same_Some n w place), ap number_of same ∙ none)
  | inr other ↦ later (rw other at e)
]

word_is : (piece : List ℕ) (w : ℕ) → word_of piece ≡ Some w → IsWord piece w
unfolding word_of number_of
word_is piece w =
    one_word piece (codes "develop") 6 w _ refl refl
    (one_word piece (codes "main") 5 w _ refl refl
    (one_word piece (codes "master") 4 w _ refl refl
    (one_word piece (codes "head") 3 w _ refl refl
    (one_word piece (codes "trunk") 2 w _ refl refl
    (one_word piece (codes "stable") 1 w _ refl refl (λ e. absurd (none-some w e)))))))

-- ---- equal ranks

equal_numbers : (m n : ℕ) → (m == n) ≡ is_eq (nat_cmp m n)
equal_numbers m n = grind (arith, nat_tests)

equal_words : (a b : List ℕ) (i j : ℕ) → word_of a ≡ Some i → word_of b ≡ Some j → bytes_eq a b ≡ is_eq (nat_cmp i j)
equal_words a b i j x y =
    let places : Decides (i == j) (a ≡ b) = (
      λ e. (word_is a i x).0 ∙ ap spelled ((Decides-eqb i j).0 e) ∙ sym (word_is b j y).0,
      λ e. (Decides-eqb i j).1 (same_Some i j (sym x ∙ ap word_of e ∙ y)),
    ) in
    same_from_decides (bytes_eq a b) (i == j) (bytes_eq-Decides a b) places ∙ equal_numbers i j

other_bytes : (a b : List ℕ) → (a ≡ b → ⊥) → bytes_eq a b ≡ false
other_bytes a b other = elim (cases_Bool (bytes_eq a b)) [
  | inl is ↦ absurd (other ((bytes_eq-Decides a b).0 is))
  | inr unlike ↦ unlike
]

not_number : {A : Type 0} (a : List ℕ) (i m : ℕ) → word_of a ≡ Some i → number_of a ≡ Some m → A
not_number a i m x e = absurd (none-some m (sym (word_is a i x).1 ∙ e))

by_ranks : (a b : List ℕ) (i j m n : Option ℕ) → word_of a ≡ i → word_of b ≡ j → number_of a ≡ m → number_of b ≡ n
    → is_same_by m n a b ≡ is_eq (rank_cmp (rank_by i m a) (rank_by j n b))
by_ranks a b None None None None x y p q = sym (is_eq-slice_cmp a b)
by_ranks a b None None None (Some n) x y p q = refl
by_ranks a b None None (Some m) None x y p q = refl
by_ranks a b None None (Some m) (Some n) x y p q = equal_numbers m n
by_ranks a b None (Some j) None None x y p q = other_bytes a b (λ e. none-some j (sym x ∙ ap word_of e ∙ y))
by_ranks a b None (Some j) None (Some n) x y p q = not_number b j n y q
by_ranks a b None (Some j) (Some m) None x y p q = refl
by_ranks a b None (Some j) (Some m) (Some n) x y p q = not_number b j n y q
by_ranks a b (Some i) None None None x y p q = other_bytes a b (λ e. none-some i (sym y ∙ sym (ap word_of e) ∙ x))
by_ranks a b (Some i) None None (Some n) x y p q = refl
by_ranks a b (Some i) None (Some m) n x y p q = not_number a i m x p
by_ranks a b (Some i) (Some j) None None x y p q = equal_words a b i j x y
by_ranks a b (Some i) (Some j) None (Some n) x y p q = not_number b j n y q
by_ranks a b (Some i) (Some j) (Some m) n x y p q = not_number a i m x p

-- components are the same exactly where they compare as equal
pub same_by_order : (a b : List ℕ) → is_same a b ≡ is_eq (component_cmp a b)
unfolding is_same rank_of
same_by_order a b = by_ranks a b (word_of a) (word_of b) (number_of a) (number_of b) refl refl refl refl
