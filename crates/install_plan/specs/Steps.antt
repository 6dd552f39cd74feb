-- While a chain is made.
use Rattle.std.specs.Prelude.{ℕ, ◌+◌, ◌<◌, List, [], ◌∷◌, length, All, Contains, Option, Some}
use Rattle.std.specs.List.Sorted.{IsStrictlySortedBy}
use Rattle.graph_core.specs.OfVariantValues.Texts.{byte_cmp}
use Rattle.graph_core.specs.Graphs.{Text, Content}
use Rattle.graph_core.specs.Paths.{JoinedIn}
use Rattle.install_plan.specs.Schedules.{wave_at}
use Rattle.install_plan.specs.Chains.{MayComeBelow}

-- the last of the names, if there is one, and else what was before them
abbrev pub last_or : Option Text → List Text → Option Text
last_or above [] = above
last_or above (name ∷ names) = last_or (Some name) names

-- names in byte order, of which one may follow
pub record HasNext (g : Content) (above : Option Text) (wave : List Text) : Type 0 where
  pub order : IsStrictlySortedBy byte_cmp wave
  pub some : (name : Text) × Contains wave name × MayComeBelow g above name

-- a chain goes down these waves: each has a name, and each name but those of the first a child in the wave before
pub record GoDown (g : Content) (waves : List (List Text)) : Type 0 where
  pub order : All (IsStrictlySortedBy byte_cmp) waves
  pub filled : All (λ names. (name : Text) × Contains names name) waves
  pub children : (place : ℕ) (parent : Text) → place + 1 < length waves → Contains (wave_at waves (place + 1)) parent
      → (child : Text) × Contains (wave_at waves place) child × JoinedIn g parent child
