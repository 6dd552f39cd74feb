-- The last element that passes, one element further on.
use Rattle.std.proofs.Common.{◌≡◌, refl, sym, ap, ◌∙◌, Bool, true, false, ◌&&◌, ℕ, ◌+◌, ◌<◌, List, [], ◌∷◌, ◌++◌, take, map, filter, length, get_or, cond, Option, Some, None}
use Rattle.std.proofs.lemmas.List.{take_more, map-append}
use Rattle.std.specs.Option.{option_or}
use Rattle.condition_rules.specs.Words.{find_last}

or-none : {T : Type 0} (o : Option T) → option_or o None ≡ o
or-none None = refl
or-none (Some x) = refl

module _ {T : Type 0} (p : T → Bool) where
  -- the last of a list with one more
  find_last-one : (xs : List T) (x : T) → find_last p (xs ++ x ∷ []) ≡ cond (p x) (Some x) (find_last p xs)
  find_last-one [] x = refl
  find_last-one (y ∷ ys) x =
      rw (find_last-one ys x) (or_cond (p x) (find_last p ys))
    where
      or_cond : (b : Bool) (o : Option T) → option_or (cond b (Some x) o) (cond (p y) (Some y) None)
          ≡ cond b (Some x) (option_or o (cond (p y) (Some y) None))
      or_cond true o = refl
      or_cond false o = refl

  -- the last that passes, one element further on
  pub find_last-more : (xs : List T) (i : ℕ) (x : T) → i < length xs → x ≡ get_or xs i x
      → find_last p (take (i + 1) xs) ≡ cond (p x) (Some x) (find_last p (take i xs))
  find_last-more xs i x lt is =
      ap (find_last p) (take_more xs i x lt ∙ ap (λ z. take i xs ++ z ∷ []) (sym is)) ∙ find_last-one (take i xs) x

  -- where another test comes first, those that pass it are looked at alone
  pub find_last-filtered : (first : T → Bool) (xs : List T) → find_last (λ x. first x && p x) xs ≡ find_last p (filter first xs)
  find_last-filtered first [] = refl
  find_last-filtered first (x ∷ xs) = by_test (first x) (find_last-filtered first xs)
    where
      by_test : (b : Bool) → find_last (λ x. first x && p x) xs ≡ find_last p (filter first xs)
          → option_or (find_last (λ x. first x && p x) xs) (cond (b && p x) (Some x) None)
          ≡ find_last p (cond b (x ∷ filter first xs) (filter first xs))
      by_test true e = ap (λ o. option_or o (cond (p x) (Some x) None)) e
      by_test false e = or-none _ ∙ e

-- of elements that are seen as others
module _ {S T : Type 0} (p : T → Bool) (f : S → T) where
  more : (xs : List S) (i : ℕ) (x : S) → i < length xs → x ≡ get_or xs i x
      → find_last p (map f (take (i + 1) xs)) ≡ cond (p (f x)) (Some (f x)) (find_last p (map f (take i xs)))
  more xs i x lt is =
      ap (λ ys. find_last p (map f ys)) (take_more xs i x lt ∙ ap (λ z. take i xs ++ z ∷ []) (sym is))
      ∙ ap (find_last p) (map-append f (take i xs) (x ∷ [])) ∙ find_last-one p (map f (take i xs)) (f x)

  -- an element that passes is the last that does so far
  pub find_last-pass : (xs : List S) (i : ℕ) (x : S) (b : Bool) → i < length xs → x ≡ get_or xs i x → b ≡ p (f x) → b ≡ true
      → Some (f x) ≡ find_last p (map f (take (i + 1) xs))
  find_last-pass xs i x b lt at is passes = let e : p (f x) ≡ true = sym is ∙ passes in sym (more xs i x lt at ∙ rw e refl)

  -- an element that does not pass leaves the last one
  pub find_last-skip : (xs : List S) (i : ℕ) (x : S) (b : Bool) (last : Option T) → i < length xs → x ≡ get_or xs i x
      → b ≡ p (f x) → b ≡ false
      → last ≡ find_last p (map f (take i xs)) → last ≡ find_last p (map f (take (i + 1) xs))
  find_last-skip xs i x b last lt at is fails before = let e : p (f x) ≡ false = sym is ∙ fails in
      before ∙ sym (more xs i x lt at ∙ rw e refl)
