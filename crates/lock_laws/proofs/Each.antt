-- Facts of all elements of a list, by its elements.
use Rattle.std.proofs.Common.{◌≡◌, refl, sym, ap, subst, ◌∙◌, ℕ, zero, suc, Bool, true, false, List, [], ◌∷◌, Option, Some, None, All, inl, inr, arith, cond, find}
use Rattle.std.specs.Option.{option_or}
use Rattle.std.specs.Ordering.{eq_by_cmp}
use Rattle.variant_values.specs.Texts.{byte_cmp}
use Rattle.keyed_lists.proofs.Lent.{tells_alike}
use Rattle.condition_rules.specs.Words.{find_last}
use Rattle.graph_rules.proofs.Lists.{In, bytes_eq-same}

-- what holds of all holds of each
pub all-each : {X : Type 0} (P : X → Type 0) (xs : List X) (x : X) → All P xs → In x xs → P x
all-each P [] x all none = absurd none
all-each P (y ∷ ys) x all (inl same) = subst P (sym same) (all zero y (omega arith))
all-each P (y ∷ ys) x all (inr later) = all-each P ys x (λ k d lt. all (suc k) d (omega (arith, lt))) later

-- what holds of each holds of all
pub all-from : {X : Type 0} (P : X → Type 0) (xs : List X) → ((x : X) → In x xs → P x) → All P xs
all-from P [] each k d lt = absurd (omega (arith, lt))
all-from P (y ∷ ys) each zero d lt = each y (inl refl)
all-from P (y ∷ ys) each (suc k) d lt = all-from P ys (λ x there. each x (inr there)) k d (omega (arith, lt))

-- texts that compare as equal are equal
pub same-key : (a b : List ℕ) → eq_by_cmp byte_cmp a b ≡ true → a ≡ b
same-key a b h = bytes_eq-same a b (sym (tells_alike a b) ∙ h)

-- ---- searches

-- what is found last stands in the list and passes
pub last-in : {X : Type 0} (p : X → Bool) (xs : List X) (x : X) → find_last p xs ≡ Some x → In x xs × (p x ≡ true)
last-in p [] x e = absurd (let none : None ≡ Some x = e in cc)
last-in p (y ∷ ys) x e = go (find_last p ys) (p y) refl refl (λ found. last-in p ys x found) e
  where
    go : (o : Option _) (b : Bool) → find_last p ys ≡ o → p y ≡ b → (find_last p ys ≡ Some x → In x ys × (p x ≡ true))
        → option_or o (cond b (Some y) None) ≡ Some x → In x (y ∷ ys) × (p x ≡ true)
    go (Some z) b later here rest is = let r = rest (later ∙ is) in (inr r.0, r.1)
    go None true later here rest is = let same : y ≡ x = cc in (inl (sym same), subst (λ w. p w ≡ true) same here)
    go None false later here rest is = absurd (let none : None ≡ Some x = is in cc)

-- what passes is found last, or something behind it
pub last-some : {X : Type 0} (p : X → Bool) (xs : List X) (x : X) → In x xs → p x ≡ true → find_last p xs ≡ None → ⊥
last-some p [] x none is e = none
last-some p (y ∷ ys) x (inl same) is e = go (find_last p ys) e
  where
    here : p y ≡ true
    here = subst (λ w. p w ≡ true) same is

    go : (o : Option _) → option_or o (cond (p y) (Some y) None) ≡ None → ⊥
    go (Some z) none = let bad : Some z ≡ None = none in cc
    go None none = let bad : Some y ≡ None = rw here at none in cc
last-some p (y ∷ ys) x (inr later) is e = go (find_last p ys) refl e (last-some p ys x later is)
  where
    go : (o : Option _) → find_last p ys ≡ o → option_or o (cond (p y) (Some y) None) ≡ None → (find_last p ys ≡ None → ⊥) → ⊥
    go (Some z) is none rest = let bad : Some z ≡ None = none in cc
    go None is none rest = rest is

-- what passes is found, or something before it
pub find-some : {X : Type 0} (p : X → Bool) (xs : List X) (x : X) → In x xs → p x ≡ true → find p xs ≡ None → ⊥
find-some p [] x none is e = none
find-some p (y ∷ ys) x there is e = go (p y) refl e there (λ later. find-some p ys x later is)
  where
    go : (b : Bool) → p y ≡ b → cond b (Some y) (find p ys) ≡ None → In x (y ∷ ys) → (In x ys → find p ys ≡ None → ⊥) → ⊥
    go true here none at rest = let bad : Some y ≡ None = none in cc
    go false here none (inl same) rest = let bad : true ≡ false = sym is ∙ ap p same ∙ here in cc
    go false here none (inr later) rest = rest later none
