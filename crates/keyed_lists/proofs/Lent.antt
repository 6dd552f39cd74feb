-- Elements that are lent, each with a text: a stable sort keeps those of one text as they stand.
use Rattle.std.proofs.Common.{◌≡◌, refl, sym, ap, ◌∙◌, ℕ, suc, ◌+◌, ◌==◌, ◌<◌, Bool, true, false, cond, not, ◌&&◌, ◌||◌, List, [], ◌∷◌, ◌++◌, length, get_or, take, map, filter, Option, Some, None, Bor, arith}
use Rattle.std.proofs.lemmas.List.{take_more, map-append}
use Rattle.std.proofs.lemmas.List.Elements.{filter_agree}
use Rattle.std.specs.List.{find, list_any}
use Rattle.std.specs.Cmp.Lexicographic.{nat_list_cmp_total, bytes_decides}
use Rattle.std.specs.List.Sorted.{ties, IsStableBy}
use Rattle.std.specs.Ordering.{is_lt, is_eq, eq_by_cmp, ordering_reverse}
use Rattle.std.specs.Str.{bytes_eq}
use Rattle.std.specs.declared.cmp.Ordering.{Ordering}
use Rattle.std.specs.declared.cmp.Ordering.TheVariants.{Less, Equal, Greater}
use Rattle.keyed_lists.specs.OfVariantValues.Texts.{byte_cmp}
use Rattle.keyed_lists.proofs.TextLaws.{texts_decide}
use Rattle.keyed_lists.specs.Lent.{lent, with_text, IsIndexOf}
use Rattle.std.proofs.lemmas.Bool.Decides.{same_from_decides}

-- ---- texts

-- texts compare as equal where their bytes are the same
pub tells_alike : (p q : List ℕ) → is_eq (byte_cmp p q) ≡ bytes_eq p q
tells_alike p q = same_from_decides (eq_by_cmp byte_cmp p q) (bytes_eq p q) (texts_decide p q) (bytes_decides p q)

-- neither is below the other where they are one
pub tie_is : (p q : List ℕ) → (not (is_lt (byte_cmp p q)) && not (is_lt (byte_cmp q p))) ≡ bytes_eq q p
tie_is p q = rw (nat_list_cmp_total.antisymm p q) (tie_by_order (byte_cmp q p)) ∙ tells_alike q p
  where
    tie_by_order : (r : Ordering) → (not (is_lt (ordering_reverse r)) && not (is_lt r)) ≡ is_eq r
    tie_by_order Less = refl
    tie_by_order Equal = refl
    tie_by_order Greater = refl

-- ---- elements with a text

-- what passes after a map is what would pass, mapped
pub filter_mapped : {X Y : Type 0} (f : X → Y) (p : Y → Bool) (xs : List X) → filter p (map f xs) ≡ map f (filter (λ x. p (f x)) xs)
filter_mapped f p [] = refl
filter_mapped f p (x ∷ xs) = filtered_by_test (p (f x)) (filter_mapped f p xs)
  where
    filtered_by_test : (b : Bool) → filter p (map f xs) ≡ map f (filter (λ x. p (f x)) xs)
        → cond b (f x ∷ filter p (map f xs)) (filter p (map f xs))
        ≡ map f (cond b (x ∷ filter (λ x. p (f x)) xs) (filter (λ x. p (f x)) xs))
    filtered_by_test true e = ap (λ l. f x ∷ l) e
    filtered_by_test false e = e

module _ {X : Type 0} (text_of : X → List ℕ) where
  -- an element that passes, or none does
  first_passing : (p : X → Bool) (xs : List X) (x : X) (rest : List X) → filter p xs ≡ x ∷ rest → p x ≡ true
  first_passing p [] x rest e = absurd (cc)
  first_passing p (y ∷ ys) x rest e = elim (p y) as (λ b. p y ≡ b → cond b (y ∷ filter p ys) (filter p ys) ≡ x ∷ rest → p x ≡ true) [
    | true ↦ λ is same. let one : y ≡ x = cc in ap p (sym one) ∙ is
    | false ↦ λ is later. first_passing p ys x rest later
  ] refl e

  -- a stable sort by a text keeps the elements with one text as they stood
  pub same_text : (xs ys : List X) (text : List ℕ) → IsStableBy (λ a b. is_lt (byte_cmp (text_of a) (text_of b))) xs ys
      → filter (λ x. bytes_eq (text_of x) text) ys ≡ filter (λ x. bytes_eq (text_of x) text) xs
  same_text xs ys text stable = same_by_first _ refl _ refl
    where
      has : X → Bool
      has x = bytes_eq (text_of x) text

      at : (x : X) → has x ≡ true → filter has ys ≡ filter has xs
      at x is =
          let agree : (y : X) → ties (λ a b. is_lt (byte_cmp (text_of a) (text_of b))) x y ≡ has y =
          λ y. tie_is (text_of x) (text_of y) ∙ ap (bytes_eq (text_of y)) ((bytes_decides (text_of x) text).0 is) in
          sym (filter_agree _ has agree ys) ∙ stable x ∙ filter_agree _ has agree xs

      same_by_first : (us : List X) → filter has ys ≡ us → (vs : List X) → filter has xs ≡ vs → filter has ys ≡ filter has xs
      same_by_first [] e [] f = e ∙ sym f
      same_by_first (u ∷ us) e vs f = at u (first_passing has ys u us e)
      same_by_first [] e (v ∷ vs) f = at v (first_passing has xs v vs f)

-- ---- the index of a list

module _ {T : Type 0} (text_of : T → List ℕ) where
  seconds : (xs : List T) → map (λ (e : List ℕ × T). e.1) (map (λ x. (text_of x, x)) xs) ≡ xs
  seconds [] = refl
  seconds (x ∷ xs) = ap (λ l. x ∷ l) (seconds xs)

  -- what has at each text what the lent list has with it is an index of the elements
  pub indexes : (items : List T) (entries : List (Bor (List ℕ) × Bor T)) (index : List (List ℕ × T))
      → lent entries ≡ map (λ x. (text_of x, x)) items → ((text : List ℕ) → with_text text index ≡ with_text text (lent entries))
      → IsIndexOf text_of items index
  indexes items entries index are same text =
      ap (map (λ (e : List ℕ × T). e.1)) (same text ∙ ap (with_text text) are
      ∙ filter_mapped (λ (x : T). (text_of x, x)) (λ e. bytes_eq e.0 text) items)
      ∙ seconds (filter (λ x. bytes_eq (text_of x) text) items)

  abbrev pub pair_of : T → List ℕ × T
  pair_of x = (text_of x, x)

  -- one element more
  pub lent_more : (xs : List T) (i : ℕ) (x : T) → i < length xs → x ≡ get_or xs i x
      → (entries : List (Bor (List ℕ) × Bor T)) (e : Bor (List ℕ) × Bor T) → lent entries ≡ map pair_of (take i xs)
      → (e.0.now, e.1.now) ≡ pair_of x → lent (entries ++ e ∷ []) ≡ map pair_of (take (i + 1) xs)
  lent_more xs i x lt is entries e was one =
      map-append (λ (e : Bor (List ℕ) × Bor T). (e.0.now, e.1.now)) entries (e ∷ []) ∙ joined
      ∙ sym (map-append pair_of (take i xs) (x ∷ []))
      ∙ ap (map pair_of) (ap (λ z. take i xs ++ z ∷ []) is ∙ sym (take_more xs i x lt))
    where
      joined : lent entries ++ lent (e ∷ []) ≡ map pair_of (take i xs) ++ pair_of x ∷ []
      joined = let last : lent (e ∷ []) ≡ pair_of x ∷ [] = ap (λ z. z ∷ []) one in rw (was, last) refl

-- ---- the first, and whether there is one

module _ {X : Type 0} (p : X → Bool) where
  abbrev pub first_in : List X → Option X
  first_in [] = None
  first_in (x ∷ xs) = Some x

  -- the first that passes is the first of those that pass
  pub find_first : (xs : List X) → find p xs ≡ first_in (filter p xs)
  find_first [] = refl
  find_first (x ∷ xs) = found_by_test (p x) (find_first xs)
    where
      found_by_test : (b : Bool) → find p xs ≡ first_in (filter p xs)
          → cond b (Some x) (find p xs) ≡ first_in (cond b (x ∷ filter p xs) (filter p xs))
      found_by_test true e = refl
      found_by_test false e = e

  not_none : (n : ℕ) → not (suc n == 0) ≡ true
  not_none n = grind arith

  -- some are left where one passes
  pub some_kept : (xs : List X) → not (length (filter p xs) == 0) ≡ list_any p xs
  some_kept [] = refl
  some_kept (x ∷ xs) = step (p x) (filter p xs) (list_any p xs) (some_kept xs)
    where
      step : (b : Bool) (kept : List X) (some : Bool) → not (length kept == 0) ≡ some
          → not (length (cond b (x ∷ kept) kept) == 0) ≡ (b || some)
      step true kept some e = not_none (length kept)
      step false kept some e = e
