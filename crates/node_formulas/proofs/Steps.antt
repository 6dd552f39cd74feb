-- Steps of builders of rows.
use Rattle.std.proofs.Common.{◌≡◌, refl, sym, ap, ◌∙◌, Bool, true, false, ◌&&◌, ◌||◌, cond, ℕ, List, [], ◌∷◌, ◌++◌, map, flat_map, drop, inl, inr}
use Rattle.std.specs.List.{filter, list_any}
use Rattle.std.proofs.lemmas.Bool.{cases_Bool}
use Rattle.std.proofs.lemmas.List.{append-nil}
use Rattle.std.proofs.lemmas.List.Concat.{flat_map-cons}
use Rattle.node_formulas.specs.Rows.{only_if}

pub map-map : {X Y Z : Type 0} (f : Y → Z) (g : X → Y) (xs : List X) → map (λ x. f (g x)) xs ≡ map f (map g xs)
map-map f g [] = refl
map-map f g (x ∷ xs) = ap (λ l. f (g x) ∷ l) (map-map f g xs)

pub map-same : {X Y : Type 0} (f g : X → Y) → ((x : X) → f x ≡ g x) → (xs : List X) → map f xs ≡ map g xs
map-same f g same [] = refl
map-same f g same (x ∷ xs) = let a = same x in let b = map-same f g same xs in λ i. a i ∷ b i

-- those that pass a test are pushed if they pass
pub pushed-if : {X Y : Type 0} (test : X → Bool) (term : X → Y) (xs : List X)
    → flat_map (λ x. only_if (test x) (term x)) xs ≡ map term (filter test xs)
pushed-if test term [] = refl
pushed-if test term (x ∷ xs) = flat_map-cons (λ x. only_if (test x) (term x)) x xs ∙ elim (cases_Bool (test x)) [
  | inl t ↦ rw t (ap (λ ts. term x ∷ ts) (pushed-if test term xs))
  | inr f ↦ rw f (pushed-if test term xs)
]

-- all were pushed
pub ended : {X Y : Type 0} (g : X → List Y) (xs items : List X) (i : ℕ) (terms whole : List Y) → items ≡ xs → drop i items ≡ []
    → terms ++ flat_map g (drop i xs) ≡ flat_map g xs → flat_map g xs ≡ whole → terms ≡ whole
ended g xs items i terms whole told over done is =
    sym (append-nil terms) ∙ ap (λ rest. terms ++ flat_map g rest) (sym over ∙ ap (drop i) told) ∙ done ∙ is

pub any-filter : {X : Type 0} (p test : X → Bool) (xs : List X) → list_any (λ x. p x && test x) xs ≡ list_any test (filter p xs)
any-filter p test [] = refl
any-filter p test (x ∷ xs) =
    let rest = any-filter p test xs in
    elim (p x) as (λ b. ((b && test x) || list_any (λ y. p y && test y) xs) ≡ list_any test (cond b (x ∷ filter p xs) (filter p xs)))
    [ true ↦ ap (λ b. test x || b) rest | false ↦ rest ]
