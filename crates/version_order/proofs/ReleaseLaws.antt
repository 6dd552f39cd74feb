-- How the release and the pre-release follow from the components, from the left.
use Rattle.std.proofs.Common.{◌≡◌, ℕ, ◌-◌, suc, List, [], ◌∷◌, length, Some, None, Bool, true, false, cond, refl, arith}
use Rattle.version_order.specs.Order.{staged, pre_release, release}

-- two from the end, with one more in front
two_less : (n : ℕ) → suc (suc (suc n)) - 2 ≡ suc (suc (suc n) - 2)
two_less n = omega arith

cond-cons : (t : Bool) (p : List ℕ) (xs ys : List (List ℕ)) → cond t (p ∷ xs) (p ∷ ys) ≡ p ∷ cond t xs ys
cond-cons true p xs ys = refl
cond-cons false p xs ys = refl

none_some : {A : Type 0} {x : A} → None ≡ Some x → ⊥
none_some e = cc

-- these components are the last two
pub pre-here : (ps : List (List ℕ)) (x : ℕ × ℕ) → staged ps ≡ Some x → pre_release ps ≡ Some x
unfolding staged pre_release
pre-here [] x e = absurd (none_some e)
pre-here (a ∷ []) x e = absurd (none_some e)
pre-here (a ∷ b ∷ []) x e = e
pre-here (a ∷ b ∷ c ∷ ps) x e = absurd (none_some e)

-- where a pre-release begins the release ends
pub release-here : (ps : List (List ℕ)) (x : ℕ × ℕ) → staged ps ≡ Some x → release ps ≡ []
unfolding staged pre_release release
release-here [] x e = absurd (none_some e)
release-here (a ∷ []) x e = absurd (none_some e)
release-here (a ∷ b ∷ []) x e = rw e refl
release-here (a ∷ b ∷ c ∷ ps) x e = absurd (none_some e)

-- the last two come later
pub pre-later : (p : List ℕ) (ps : List (List ℕ)) → staged (p ∷ ps) ≡ None → pre_release (p ∷ ps) ≡ pre_release ps
unfolding staged pre_release
pre-later p [] e = refl
pre-later p (a ∷ []) e = e
pre-later p (a ∷ b ∷ ps) e = rw (two_less (length ps)) refl

-- a component before the pre-release is one of the release
pub release-later : (p : List ℕ) (ps : List (List ℕ)) → staged (p ∷ ps) ≡ None → release (p ∷ ps) ≡ p ∷ release ps
unfolding staged pre_release release
release-later p [] e = refl
release-later p (a ∷ []) e = rw e refl
release-later p (a ∷ b ∷ ps) e = rw (two_less (length ps)) (cond-cons _ p _ _)

-- no components, no release
pub release-none : release [] ≡ []
unfolding staged pre_release release
release-none = refl

-- no components, no pre-release
pub pre-none : pre_release [] ≡ None
unfolding staged pre_release
pre-none = refl

pub ruleset releases = (pre-here, release-here, pre-later, release-later, release-none, pre-none)
