-- Tests over lists, and the pairs of numbers that pass one.
use Rattle.std.proofs.Common.{◌≡◌, ℕ, zero, suc, ◌+◌, ◌<◌, ◌≤◌, Bool, true, false, cond, ◌&&◌, ◌||◌, List, [], ◌∷◌, map, length, get_or, ◌⊎◌, inl, inr, refl, sym, ap, ◌∙◌, arith}
use Rattle.std.specs.List.{All, list_any, list_all, flat_map, filter, range_with_len}
use Rattle.std.proofs.lemmas.Bool.{or_cases, or_left, or_right, and_parts, and_from, false≢true, cases_eq}
use Rattle.std.proofs.lemmas.List.Elements.{All-head, All-tail}
use Rattle.std.proofs.lemmas.List.Folds.{list_all-append, list_all-map}
use Rattle.clause_formulas.specs.Statements.{Statement, eval, any_statement}
use Rattle.level_encoding.specs.Encoding.{numbers_below}

abbrev pub In : {A : Type 0} → A → List A → Type 0
In x [] = ⊥
In x (y ∷ ys) = (x ≡ y) ⊎ In x ys

-- a fact of all is one of each
pub all-in : {A : Type 0} (P : A → Type 0) (x : A) (xs : List A) → All P xs → In x xs → P x
all-in P x [] h i = absurd i
all-in P x (y ∷ ys) h i = elim i [ inl e ↦ rw e (All-head P y ys h) | inr t ↦ all-in P x ys (All-tail P y ys h) t ]

-- one that passes makes some pass
pub any-from : {A : Type 0} (f : A → Bool) (x : A) (xs : List A) → In x xs → f x ≡ true → list_any f xs ≡ true
any-from f x [] i h = absurd i
any-from f x (y ∷ ys) i h = elim i [
  | inl e ↦ or_left (f y) (list_any f ys) (ap f (sym e) ∙ h)
  | inr t ↦
      or_right (f y) (list_any f ys) (any-from f x ys t h)
]

-- where some pass there is one
pub any-to : {A : Type 0} (f : A → Bool) (xs : List A) → list_any f xs ≡ true → (x : A) × In x xs × (f x ≡ true)
any-to f [] h = absurd (false≢true h)
any-to f (y ∷ ys) h = elim (or_cases (f y) (list_any f ys) h) [
  | inl t ↦ (y, inl refl, t)
  | inr t ↦ let r = any-to f ys t in
      (r.0, inr r.1, r.2)
]

-- where all pass each does
pub all-at : {A : Type 0} (f : A → Bool) (x : A) (xs : List A) → list_all f xs ≡ true → In x xs → f x ≡ true
all-at f x [] h i = absurd i
all-at f x (y ∷ ys) h i = let p = and_parts (f y) (list_all f ys) h in elim i [ inl e ↦ ap f e ∙ p.0 | inr t ↦ all-at f x ys p.1 t ]

-- and the other way round
pub all-from : {A : Type 0} (f : A → Bool) (xs : List A) → ((x : A) → In x xs → f x ≡ true) → list_all f xs ≡ true
all-from f [] h = refl
all-from f (y ∷ ys) h = and_from (f y) (list_all f ys) (h y (inl refl)) (all-from f ys (λ x i. h x (inr i)))

-- the same of lists of lists
pub all-flat-at : {A B : Type 0} (f : B → Bool) (g : A → List B) (x : A) (xs : List A) → list_all f (flat_map g xs) ≡ true → In x xs
    → list_all f (g x) ≡ true
all-flat-at f g x [] h i = absurd i
all-flat-at f g x (y ∷ ys) h i =
    let p = and_parts (list_all f (g y)) (list_all f (flat_map g ys)) (sym (list_all-append f (g y) (flat_map g ys)) ∙ h) in
    elim i [ inl e ↦ ap (λ z. list_all f (g z)) e ∙ p.0 | inr t ↦ all-flat-at f g x ys p.1 t ]

-- and the other way round
pub all-flat-from : {A B : Type 0} (f : B → Bool) (g : A → List B) (xs : List A) → ((x : A) → In x xs → list_all f (g x) ≡ true)
    → list_all f (flat_map g xs) ≡ true
all-flat-from f g [] h = refl
all-flat-from f g (y ∷ ys) h = list_all-append f (g y) (flat_map g ys)
    ∙ and_from (list_all f (g y)) (list_all f (flat_map g ys)) (h y (inl refl)) (all-flat-from f g ys (λ x i. h x (inr i)))

-- some formula of the elements that pass
pub any_of-is : {A : Type 0} (v : ℕ → Bool) (h : A → Statement) (t : A → Bool) (xs : List A)
    → eval v (any_statement (map h (filter t xs))) ≡ list_any (λ x. t x && eval v (h x)) xs
any_of-is v h t [] = refl
any_of-is v h t (x ∷ xs) = by-bool (t x) (any_of-is v h t xs)
  where
    by-bool : (b : Bool) → eval v (any_statement (map h (filter t xs))) ≡ list_any (λ x. t x && eval v (h x)) xs
        → eval v (any_statement (map h (cond b (x ∷ filter t xs) (filter t xs))))
        ≡ ((b && eval v (h x)) || list_any (λ x. t x && eval v (h x)) xs)
    by-bool true e = ap (λ r. eval v (h x) || r) e
    by-bool false e = e

-- numbers below a bound
In-range : (a n k : ℕ) → a ≤ k → k < a + n → In k (range_with_len a n)
In-range a zero k l h = absurd (omega arith)
In-range a (suc n) k l h = elim (cases_eq k a) [
  | inl e ↦ inl e
  | inr ne ↦
      inr (In-range (a + 1) n k (omega (arith, ne)) (omega (arith, h)))
]

-- a number is among those below a bound
pub In-below : (n k : ℕ) → k < n → In k (numbers_below n)
In-below n k h = In-range 0 n k (omega arith) (omega (arith, h))

-- the numbers of a range are below its end
pub range-In : (a n k : ℕ) → In k (range_with_len a n) → k < a + n
range-In a zero k i = absurd i
range-In a (suc n) k i = elim i [ inl e ↦ omega (arith, e) | inr t ↦ omega (arith, range-In (a + 1) n k t) ]

-- one that passes is kept
pub In-filter : {A : Type 0} (t : A → Bool) (x : A) (xs : List A) → In x xs → t x ≡ true → In x (filter t xs)
In-filter t x [] i h = absurd i
In-filter t x (y ∷ ys) i h = by-bool (t y) refl (In-filter t x ys)
  where
    by-bool : (b : Bool) → t y ≡ b → (In x ys → t x ≡ true → In x (filter t ys)) → In x (cond b (y ∷ filter t ys) (filter t ys))
    by-bool true q ih = elim i [ inl e ↦ inl e | inr j ↦ inr (ih j h) ]
    by-bool false q ih = elim i [ inl e ↦ absurd (false≢true (sym q ∙ ap t (sym e) ∙ h)) | inr j ↦ ih j h ]

-- what is kept passes
pub filter-In : {A : Type 0} (t : A → Bool) (x : A) (xs : List A) → In x (filter t xs) → In x xs × (t x ≡ true)
filter-In t x [] i = absurd i
filter-In t x (y ∷ ys) i = by-bool (t y) refl i (filter-In t x ys)
  where
    by-bool : (b : Bool) → t y ≡ b → In x (cond b (y ∷ filter t ys) (filter t ys)) → (In x (filter t ys) → In x ys × (t x ≡ true))
        → In x (y ∷ ys) × (t x ≡ true)
    by-bool true q i ih = elim i [ inl e ↦ (inl e, rw e q) | inr j ↦ let r = ih j in (inr r.0, r.1) ]
    by-bool false q i ih = let r = ih i in (inr r.0, r.1)

-- the same of formulas made from elements
pub all-map-at : {A : Type 0} (f : Statement → Bool) (h : A → Statement) (x : A) (xs : List A) → list_all f (map h xs) ≡ true → In x xs
    → f (h x) ≡ true
all-map-at f h x xs m i = all-at (λ y. f (h y)) x xs (sym (list_all-map f h xs) ∙ m) i

-- and the other way round
pub all-map-from : {A : Type 0} (f : Statement → Bool) (h : A → Statement) (xs : List A) → ((x : A) → In x xs → f (h x) ≡ true)
    → list_all f (map h xs) ≡ true
all-map-from f h xs g = list_all-map f h xs ∙ all-from (λ y. f (h y)) xs g

-- what is read is in the list
pub In-at : {A : Type 0} (xs : List A) (n : ℕ) (d : A) → n < length xs → In (get_or xs n d) xs
In-at [] n d h = absurd (omega (arith, h))
In-at (x ∷ xs) zero d h = inl refl
In-at (x ∷ xs) (suc n) d h = inr (In-at xs n d (omega (arith, h)))
