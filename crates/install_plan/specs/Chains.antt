-- Chains of nodes to build, one of each wave, from the last on down.
use Rattle.std.specs.Prelude.{List, [], ◌∷◌, IsTrue, Contains, Option, Some, None, reverse}
use Rattle.std.specs.Ordering.{is_le}
use Rattle.graph_core.specs.OfVariantValues.Texts.{byte_cmp}
use Rattle.graph_core.specs.Graphs.{Text, Content}
use Rattle.graph_core.specs.Paths.{JoinedIn}

-- the name passes, and none that passes is below it in byte order
pub record IsLeast (Passes : Text → Type 0) (name : Text) : Type 0 where
  pub passes : Passes name
  pub least : (other : Text) → Passes other → IsTrue (is_le (byte_cmp name other))

-- the name may follow the one before it, where there is one: it is a child of that
abbrev pub MayComeBelow : Content → Option Text → Text → Type 0
MayComeBelow g None name = Unit {0}
MayComeBelow g (Some parent) name = JoinedIn g parent name

-- a name of each of these waves, in turn: the least there that may follow the one before it
abbrev pub GoesDown : Content → Option Text → List (List Text) → List Text → Type 0
GoesDown g above [] [] = Unit {0}
GoesDown g above [] (name ∷ names) = ⊥
GoesDown g above (wave ∷ waves) [] = ⊥
GoesDown g above (wave ∷ waves) (name ∷ names) =
    IsLeast (λ x. Contains wave x × MayComeBelow g above x) name × GoesDown g (Some name) waves names

-- the chain starts with the least name of the last wave, and goes on with the least child in the wave before
abbrev pub IsChain : Content → List (List Text) → List Text → Type 0
IsChain g waves chain = GoesDown g None (reverse waves) chain
