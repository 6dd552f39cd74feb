-- Words of the laws.
use Rattle.std.specs.Prelude.{◌≡◌, Bool}
use Rattle.std.specs.Bool.{Decides}

-- the test tells whether two keys are one
abbrev pub IsExact : {K : Type 0} → (K → K → Bool) → Type 0
IsExact {K} same = (x y : K) → Decides (same x y) (x ≡ y)
