-- The nodes that parts after `^` ask for, and those that paths lead to.
use Rattle.std.specs.Prelude.{◌≡◌, ◌↔◌, ℕ, Bool, List, length, Option, Some, None, option_and_then, if◌then◌else◌}
use Rattle.virtuals.specs.OfConditions.Part.{Part}
use Rattle.virtuals.specs.OfReachability.Paths.{Path}
use Rattle.virtuals.specs.OfReachability.Places.{IsMarked}
use Rattle.virtuals.specs.OfVariantValues.Texts.{byte_cmp}
use Rattle.virtuals.specs.OfKeyedLists.Keyed.{IsPlaceOf}
use Rattle.virtuals.specs.OfGraphCore.Graphs.{Text, Content, name_of}
use Rattle.virtuals.specs.OfGraphCore.Paths.{JoinedIn}
use Rattle.virtuals.specs.OfGraphCore.Node.{Node}
use Rattle.condition_rules.specs.Worlds.{World}
use Rattle.condition_rules.specs.Holds.{asked_node, suits}

-- what there is, where it passes the test
abbrev pub passing : {T : Type 0} → (T → Bool) → Option T → Option T
passing test None = None
passing test (Some x) = if test x then Some x else None

-- the node that a name asks for, where the part of this name holds there
abbrev pub suited : World → Content → Part → Text → Option Node
suited world graph part name = passing (suits world part name) (asked_node world graph name)

-- the node that a part after `^` asks for, where the part holds there
abbrev pub node_below : World → Content → Part → Option Node
node_below world graph part = option_and_then (suited world graph part) part.name

-- a mark for each node, which it has exactly where a path leads to it from the name
pub record AreBelow (g : Content) (from : Text) (marks : List Bool) : Type 0 where
  pub each : length marks ≡ length g.nodes
  pub reached : (q : Text) (j : ℕ) → IsPlaceOf byte_cmp name_of g.nodes q j
      → IsMarked marks j ↔ Path (JoinedIn g) from q
