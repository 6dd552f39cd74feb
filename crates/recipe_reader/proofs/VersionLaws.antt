-- Texts of versions, each once.
use Rattle.std.proofs.Common.{◌≡◌, ◌∙◌, Bool, true, false, ℕ, List, [], ◌∷◌, ◌++◌, refl, sym, ap}
use Rattle.std.specs.Prelude.{not, ◌||◌}
use Rattle.std.specs.List.{list_any}
use Rattle.std.specs.Str.{bytes_eq}
use Rattle.std.proofs.lemmas.Bool.{and_parts, and_from}
use Rattle.std.proofs.lemmas.Slice.Eq.{bytes_eq-Decides}
use Rattle.variant_values.specs.Texts.{Texts}
use Rattle.recipe_data.specs.Right.{is_distinct}

other : (v w : List ℕ) → bytes_eq v w ≡ false → bytes_eq w v ≡ false
other v w e = differs_by_test (bytes_eq w v) refl
  where
    differs_by_test : (b : Bool) → bytes_eq w v ≡ b → b ≡ false
    differs_by_test true is = let same : v ≡ w = sym ((bytes_eq-Decides w v).0 is) in sym ((bytes_eq-Decides v w).1 same) ∙ e
    differs_by_test false is = refl

none_more : (t v : List ℕ) (texts : Texts) → list_any (bytes_eq t) texts ≡ false → bytes_eq t v ≡ false
    → list_any (bytes_eq t) (texts ++ v ∷ []) ≡ false
none_more t v [] none ne = rw ne refl
none_more t v (u ∷ texts) none ne = none_by_test (bytes_eq t u) none (none_more t v texts)
  where
    none_by_test : (b : Bool) → (b || list_any (bytes_eq t) texts) ≡ false
        → (list_any (bytes_eq t) texts ≡ false → bytes_eq t v ≡ false → list_any (bytes_eq t) (texts ++ v ∷ []) ≡ false)
        → (b || list_any (bytes_eq t) (texts ++ v ∷ [])) ≡ false
    none_by_test true h rest = h
    none_by_test false h rest = rest h ne

first_of_none : (v t : List ℕ) (texts : Texts) → list_any (bytes_eq v) (t ∷ texts) ≡ false → (bytes_eq v t ≡ false)
    × (list_any (bytes_eq v) texts ≡ false)
first_of_none v t texts none = apart_by_test (bytes_eq v t) none
  where
    apart_by_test : (b : Bool) → (b || list_any (bytes_eq v) texts) ≡ false → (b ≡ false) × (list_any (bytes_eq v) texts ≡ false)
    apart_by_test true h = absurd cc
    apart_by_test false h = (refl, h)

not_false : (b : Bool) → not b ≡ true → b ≡ false
not_false true e = absurd cc
not_false false e = refl

-- a new text behind texts that differ differs from them
pub distinct_push : (texts : Texts) (v : List ℕ) → is_distinct texts ≡ true → list_any (bytes_eq v) texts ≡ false
    → is_distinct (texts ++ v ∷ []) ≡ true
distinct_push [] v d none = refl
distinct_push (t ∷ texts) v d none =
    let here = first_of_none v t texts none in
    let parts = and_parts (not (list_any (bytes_eq t) texts)) (is_distinct texts) d in
    let lacks = none_more t v texts (not_false (list_any (bytes_eq t) texts) parts.0) (other v t here.0) in
    and_from (not (list_any (bytes_eq t) (texts ++ v ∷ []))) (is_distinct (texts ++ v ∷ [])) (ap not lacks)
    (distinct_push texts v parts.1 here.1)
