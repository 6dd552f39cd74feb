-- The order of versions. A version is seen as the bytes of its text.
use Rattle.std.specs.Prelude.{◌≡◌, ℕ, ◌-◌, List, [], ◌∷◌, length, take, drop, if◌then◌else◌, codes, Option, Some, None, is_some}
use Rattle.std.specs.Option.{option_zip}
use Rattle.std.specs.Str.{bytes_eq}
use Rattle.std.specs.Ordering.{nat_cmp, ordering_then}
use Rattle.std.specs.Cmp.Lexicographic.{slice_cmp}
use Rattle.std.specs.declared.cmp.Ordering.{Ordering}
use Rattle.std.specs.declared.cmp.Ordering.TheVariants.{Less, Equal, Greater}
use Rattle.version_order.specs.Pieces.{pieces}
use Rattle.version_order.specs.Component.{number_of, component_cmp}

-- the stages of a pre-release, 3 for the last
unfoldable pub stage_of : List ℕ → Option ℕ
stage_of piece =
    if bytes_eq piece (codes "alpha") then Some 1
    else if bytes_eq piece (codes "beta") then Some 2
    else if bytes_eq piece (codes "rc") then Some 3
    else None

-- the stage and the number that these components are, where they are these two and no more
unfoldable pub staged : List (List ℕ) → Option (ℕ × ℕ)
staged [] = None
staged (stage ∷ []) = None
staged (stage ∷ number ∷ []) = option_zip (stage_of stage) (number_of number)
staged (stage ∷ number ∷ more ∷ others) = None

-- the pre-release is what the last two components are
unfoldable pub pre_release : List (List ℕ) → Option (ℕ × ℕ)
pre_release components = staged (drop (length components - 2) components)

-- the release: the components before the pre-release, and all of them where there is none
unfoldable pub release : List (List ℕ) → List (List ℕ)
release components =
    if is_some (pre_release components) then take (length components - 2) components else components

-- by the stages, then by the numbers; a version without a pre-release is above those with one
abbrev pub pre_cmp : Option (ℕ × ℕ) → Option (ℕ × ℕ) → Ordering
pre_cmp None None = Equal
pre_cmp None (Some b) = Greater
pre_cmp (Some a) None = Less
pre_cmp (Some a) (Some b) = ordering_then (nat_cmp a.0 b.0) (nat_cmp a.1 b.1)

-- by the releases, component by component, a proper prefix being smaller; then by the pre-releases;
-- then by the bytes of the texts
unfoldable pub version_cmp : List ℕ → List ℕ → Ordering
version_cmp a b =
    ordering_then (slice_cmp component_cmp (release (pieces a)) (release (pieces b)))
    (ordering_then (pre_cmp (pre_release (pieces a)) (pre_release (pieces b)))
    (slice_cmp nat_cmp a b))

-- each version is below the next one
abbrev pub Rise : List (List ℕ) → Type 0
Rise [] = Unit {0}
Rise (a ∷ []) = Unit {0}
Rise (a ∷ b ∷ others) = (version_cmp a b ≡ Less) × Rise (b ∷ others)
