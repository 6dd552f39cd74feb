-- Lists of answers beside and behind each other.
use Rattle.std.proofs.Common.{◌≡◌, ◌∙◌, ap, sym, subst, ℕ, ◌+◌, ◌<◌, ◌++◌, List, [], ◌∷◌, length, take, drop, get_or}
use Rattle.std.specs.List.{AllZip}
use Rattle.std.proofs.lemmas.List.{take_more, take-append-drop}
use Rattle.std.proofs.lemmas.Slice.Zip.{all_zipped_more}

-- a list is its two halves
pub of_halves : {A : Type 0} (xs front back : List A) (k : ℕ) → front ≡ take k xs → back ≡ drop k xs → xs ≡ front ++ back
of_halves xs front back k at_front at_back =
    sym (ap (λ l. l ++ back) at_front ∙ ap (λ l. take k xs ++ l) at_back ∙ take-append-drop k xs)

module _ {A B : Type 0} (R : A → B → Type 0) where
  -- pairs behind pairs
  zip_both : (xs more : List A) (ys others : List B) → AllZip R xs ys → AllZip R more others → AllZip R (xs ++ more) (ys ++ others)
  zip_both [] more [] others front back = back
  zip_both [] more (y ∷ ys) others front back = absurd front
  zip_both (x ∷ xs) more [] others front back = absurd front
  zip_both (x ∷ xs) more (y ∷ ys) others front back = (front.0, zip_both xs more ys others front.1 back)

  -- one that is answered more
  pub zip_more : (xs : List A) (i : ℕ) (x : A) (ys : List B) (y : B) → i < length xs → x ≡ get_or xs i x → AllZip R (take i xs) ys → R x y
      → AllZip R (take (i + 1) xs) (ys ++ y ∷ [])
  zip_more xs i x ys y lt is so_far here = rw (take_more xs i x lt, ← is) (all_zipped_more R (take i xs) ys x y so_far here)

  -- answers of both halves, joined, are those of all
  pub zip_halves : (xs front back : List A) (ys zs all : List B) (k : ℕ) → all ≡ ys ++ zs → front ≡ take k xs → back ≡ drop k xs
      → AllZip R front ys → AllZip R back zs → AllZip R xs all
  zip_halves xs front back ys zs all k is at_front at_back first second =
      subst (λ l. AllZip R l all) (sym (of_halves xs front back k at_front at_back))
      (subst (λ l. AllZip R (front ++ back) l) (sym is) (zip_both front back ys zs first second))
