-- Brackets, segment by segment.
use Rattle.std.proofs.Common.{◌≡◌, ◌∙◌, ℕ, Bool, true, false, cond, List, [], ◌∷◌, ◌++◌, append-nil, refl, ap}
use Rattle.std.specs.Prelude.{Ok, Err}
use Rattle.recipe_values.specs.declared.value.Element.{Element}
use Rattle.recipe_values.specs.declared.value.PlacedValue.{PlacedValue}
use Rattle.recipe_values.specs.declared.segment.Segment.{Segment}
use Rattle.recipe_values.specs.Reads.{join}
use Rattle.recipe_values.specs.Values.{is_empty, segment_value}
use Rattle.recipe_values.specs.Brackets.{without_last, element, elements}
use Rattle.recipe_values.proofs.Joins.{join_nil, more_read, not_read}

-- ---- the last segment

last_of : (xs : List Segment) (s : Segment) → without_last (xs ++ s ∷ []) ≡ xs ++ cond (is_empty s.atoms) [] (s ∷ [])
last_of [] s = refl
last_of (x ∷ []) s = refl
last_of (x ∷ y ∷ xs) s = ap (λ (ys : List Segment). x ∷ ys) (last_of (y ∷ xs) s)

-- a last segment that has something stays
pub last_kept : (all xs : List Segment) (s : Segment) → all ≡ xs ++ s ∷ [] → is_empty s.atoms ≡ false → without_last all ≡ xs ++ s ∷ []
last_kept all xs s is e = rw is (last_of xs s ∙ ap (λ (b : Bool). xs ++ cond b [] (s ∷ [])) e)

-- a last segment that is empty is left out
pub last_left : (all xs : List Segment) (s : Segment) → all ≡ xs ++ s ∷ [] → is_empty s.atoms ≡ true → without_last all ≡ xs
last_left all xs s is e = rw is (last_of xs s ∙ ap (λ (b : Bool). xs ++ cond b [] (s ∷ [])) e ∙ append-nil xs)

-- ---- members

-- a value more behind the elements so far
pub elements_more : (found : List Element) (bytes : List ℕ) (segments more : List Segment) (s : Segment) (r : PlacedValue)
    → segments ≡ s ∷ more
    → segment_value bytes s ≡ Ok r → join (Ok found) (elements bytes segments) ≡ join (Ok (found ++ element r ∷ [])) (elements bytes more)
unfolding elements
elements_more found bytes segments more s r is e =
    rw (is, e) (more_read found (found ++ element r ∷ []) (Ok (element r ∷ [])) (elements bytes more) refl)

-- a segment that is no value is the fault of all
pub elements_fail : (found : List Element) (place : ℕ) (bytes : List ℕ) (segments more : List Segment) (s : Segment) → segments ≡ s ∷ more
    → segment_value bytes s ≡ Err place → join (Ok found) (elements bytes segments) ≡ Err place
unfolding elements
elements_fail found place bytes segments more s is e = rw (is, e) (not_read found place (Err place) (elements bytes more) refl)

-- no segments more leave the elements
pub elements_end : (found : List Element) (bytes : List ℕ) (segments : List Segment) → segments ≡ []
    → join (Ok found) (elements bytes segments) ≡ Ok found
unfolding elements
elements_end found bytes segments is = rw is (join_nil (Ok found))
