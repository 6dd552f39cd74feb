-- Terms that are pushed one by one.
use Rattle.std.proofs.Common.{◌≡◌, refl, sym, ap, ◌∙◌, Bool, List, [], ◌∷◌, ◌++◌, map, flat_map, drop, ℕ, inl, inr}
use Rattle.std.proofs.lemmas.List.{append-nil}
use Rattle.std.specs.List.{filter}
use Rattle.std.proofs.lemmas.Bool.{cases_Bool}
use Rattle.std.proofs.lemmas.List.Concat.{flat_map-cons}
use Rattle.cost_terms.specs.declared.weighted.Weighted.{Weighted}
use Rattle.term_builder.specs.Tests.{only_if}

-- those that pass a test are pushed if they pass
pub pushed-if : {X : Type 0} (test : X → Bool) (term : X → Weighted) (xs : List X)
    → flat_map (λ x. only_if (test x) (term x)) xs ≡ map term (filter test xs)
pushed-if test term [] = refl
pushed-if test term (x ∷ xs) = flat_map-cons (λ x. only_if (test x) (term x)) x xs ∙ elim (cases_Bool (test x)) [
  | inl t ↦ rw t (ap (λ ts. term x ∷ ts) (pushed-if test term xs))
  | inr f ↦ rw f (pushed-if test term xs)
]

-- all were pushed
pub ended : {X : Type 0} (g : X → List Weighted) (xs items : List X) (i : ℕ) (terms old whole : List Weighted) → items ≡ xs
    → drop i items ≡ []
    → terms ++ flat_map g (drop i xs) ≡ old ++ flat_map g xs → flat_map g xs ≡ whole → terms ≡ old ++ whole
ended g xs items i terms old whole told over done is =
    sym (append-nil terms) ∙ ap (λ rest. terms ++ flat_map g rest) (sym over ∙ ap (drop i) told) ∙ done ∙ ap (λ ts. old ++ ts) is
