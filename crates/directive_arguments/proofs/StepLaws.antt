-- Steps one after the other, and the loops that take them.
use Rattle.std.proofs.Common.{◌≡◌, ◌≢◌, ◌∙◌, ℕ, ◌+◌, ◌<◌, ◌≤◌, false, List, [], ◌∷◌, length, drop, get_or, refl, sym, ap, zero, suc, arith, add-one}
use Rattle.std.specs.Prelude.{Ok, Err, Some}
use Rattle.recipe_values.specs.declared.value.Element.{Element}
use Rattle.directive_arguments.specs.declared.fault.ArgumentFault.{ArgumentFault}
use Rattle.directive_arguments.specs.declared.fault.ArgumentFault.TheVariants as fault
use Rattle.directive_arguments.specs.Results.{ArgumentStep, then_do, steps, Fails}
use Rattle.directive_arguments.specs.Keywords.{is_default, wrong_element}

-- a fault of the first step is one of both
pub fails_then : {A B : Type 0} (e : ArgumentFault) (a : ArgumentStep A) (f : A → ArgumentStep B) → Fails e a → Fails e (then_do a f)
fails_then fault.OutOfMemory a f h = tt
fails_then e a f h = rw h refl

-- a fault besides want of memory is the one that the definition gives
pub fails_known : {A : Type 0} (e : ArgumentFault) (a : ArgumentStep A) → Fails e a → (e ≢ fault.OutOfMemory) → a ≡ Err e
fails_known fault.OutOfMemory a h ne = absurd (ne refl)
fails_known e a h ne = h

-- equal steps have the same faults
pub fails_along : {A : Type 0} (e : ArgumentFault) (a b : ArgumentStep A) → a ≡ b → Fails e a → Fails e b
fails_along fault.OutOfMemory a b same h = tt
fails_along e a b same h = sym same ∙ h

-- ---- lists, from a place on

drop_suc : {X : Type 0} (xs : List X) (i : ℕ) (x : X) → i < length xs → x ≡ get_or xs i x → drop i xs ≡ x ∷ drop (suc i) xs
drop_suc [] i x h is = absurd (omega (arith, h))
drop_suc (y ∷ xs) zero x h is = ap (λ (z : _). z ∷ xs) (sym is)
drop_suc (y ∷ xs) (suc i) x h is = drop_suc xs i x (omega arith) is

-- the element at a place stands before those behind it
pub drop_here : {X : Type 0} (xs : List X) (i : ℕ) (x : X) → i < length xs → x ≡ get_or xs i x → drop i xs ≡ x ∷ drop (i + 1) xs
drop_here xs i x h is = rw (add-one) (drop_suc xs i x h is)

-- behind the last element is none
pub drop_past : {X : Type 0} (xs : List X) (i : ℕ) → length xs ≤ i → drop i xs ≡ []
drop_past [] zero h = refl
drop_past [] (suc i) h = refl
drop_past (x ∷ xs) zero h = absurd (omega (arith, h))
drop_past (x ∷ xs) (suc i) h = drop_past xs i (omega arith)

-- ---- loops

-- the steps from a place on begin with the one there
pub steps_here : {X S : Type 0} (f : X → S → ArgumentStep S) (xs : List X) (i : ℕ) (x : X) (s : S) → i < length xs → x ≡ get_or xs i x
    → steps f (drop i xs) s ≡ then_do (f x s) (steps f (drop (i + 1) xs))
steps_here f xs i x s h is = rw (drop_here xs i x h is) refl

-- behind the last element no step is left
pub steps_past : {X S : Type 0} (f : X → S → ArgumentStep S) (xs : List X) (i : ℕ) (s : S) → length xs ≤ i → steps f (drop i xs) s ≡ Ok s
steps_past f xs i s h = rw (drop_past xs i h) refl

-- a step that was taken
pub steps_ok : {X S : Type 0} (f : X → S → ArgumentStep S) (xs : List X) (i : ℕ) (x : X) (s t : S) (all : ArgumentStep S) → i < length xs
    → x ≡ get_or xs i x → steps f (drop i xs) s ≡ all → f x s ≡ Ok t → steps f (drop (i + 1) xs) t ≡ all
steps_ok f xs i x s t all h is inv took = let here = steps_here f xs i x s h is in let then_t = rw took at here in sym then_t ∙ inv

-- a step with a fault
pub steps_err : {X S : Type 0} (f : X → S → ArgumentStep S) (xs : List X) (i : ℕ) (x : X) (s : S) (all : ArgumentStep S) (e : ArgumentFault)
    → i < length xs
    → x ≡ get_or xs i x → steps f (drop i xs) s ≡ all → Fails e (f x s) → Fails e all
steps_err f xs i x s all e h is inv fails =
    fails_along e _ _ (sym (steps_here f xs i x s h is) ∙ inv) (fails_then e (f x s) (steps f (drop (i + 1) xs)) fails)

-- ---- elements of a default

-- the first element that is no default is the wrong one
pub wrong_here : (xs : List Element) (i : ℕ) (x : Element) → i < length xs → x ≡ get_or xs i x → is_default x.scalar ≡ false
    → wrong_element (drop i xs) ≡ Some x.place
wrong_here xs i x h is none = rw (drop_here xs i x h is, none) refl
