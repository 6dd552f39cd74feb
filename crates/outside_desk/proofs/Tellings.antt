-- A desk that may cease to tell its files.
use Rattle.std.proofs.Common.{◌≡◌, refl, subst, sym, ◌∙◌, Option, Some, None, inl, inr}
use Rattle.std.specs.Prelude.{◌⊎◌, IfSome}
use Rattle.outside_desk.specs.Files.{Files, StillTells, told}

-- what holds of the files that it told holds of those that it tells still
pub held_still : (P : Files → Type 0) (before after : Option Files) → StillTells before after → IfSome before P → IfSome after P
held_still P before after (inl none) held = subst (λ (m : Option Files). IfSome m P) (sym none) tt
held_still P before after (inr same) held = subst (λ (m : Option Files). IfSome m P) (sym same) held

-- it tells them behind both of two calls
pub both_still : (before between after : Option Files) → StillTells before between → StillTells between after → StillTells before after
both_still before between after still (inl none) = inl none
both_still before between after (inl none) (inr same) = inl (same ∙ none)
both_still before between after (inr same) (inr other) = inr (other ∙ same)

-- where it tells them still, what it told before is what it tells
pub told_still : (before after : Option Files) → StillTells before after → told before after ≡ after
told_still before None still = refl
told_still before (Some files) (inl none) = absurd cc
told_still before (Some files) (inr same) = sym same
