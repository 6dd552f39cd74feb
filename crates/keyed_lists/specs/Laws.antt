-- Words of the laws.
use Rattle.std.specs.Prelude.{◌≡◌, Option, Some}
use Rattle.std.specs.Cmp.{IsTotalOrder}
use Rattle.std.specs.FinMap.{IsAntisymmetric}
use Rattle.std.specs.declared.cmp.Ordering.{Ordering}

-- a total order that ties only equal keys
pub record IsKeyOrder {K : Type 0} (cmp : K → K → Ordering) : Type 0 where
  pub total : IsTotalOrder cmp
  pub exact : IsAntisymmetric cmp

-- what is given at a key has that key
abbrev pub IsKeyed : {X K : Type 0} → (X → K) → (K → Option X) → Type 0
IsKeyed {X} {K} key given = (k : K) (x : X) → given k ≡ Some x → key x ≡ k
