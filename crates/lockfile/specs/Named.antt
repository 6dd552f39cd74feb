-- Names by hashes, as a map has them.
use Rattle.std.specs.Prelude.{◌≡◌, List, ◌∷◌, String, Option, Some, None}
use Rattle.std.specs.BTreeMap.{BTreeMap, get_by_text}
use Rattle.std.specs.declared.alloc.Global.{Global}
use Rattle.std.specs.declared.cmp.Ordering.{Ordering}
use Rattle.keyed_lists.specs.Keyed.{find_key}
use Rattle.graph_core.specs.Graphs.{Text, Content, HasNode}
use Rattle.graph_core.specs.declared.node.Edge.{Edge}
use Rattle.lockfile.specs.Children.{named_by}
use Rattle.lockfile.specs.declared.node.LockedNode.{LockedNode}

-- the map has for each hash the name of the first node that has it
abbrev pub AreNames : List LockedNode → BTreeMap (String Global) Text → Type 0
AreNames nodes names = (hash : Text) → get_by_text names hash ≡ named_by nodes hash

-- both ends of an edge are nodes of the graph
abbrev pub HasEnds : Content → Edge → Type 0
HasEnds g edge = HasNode g edge.parent × HasNode g edge.child

-- ---- lists in order, to which elements are added one by one

-- the first of two, if there is one
abbrev pub later : {X : Type 0} → Option X → Option X → Option X
later None second = second
later (Some first) second = Some first

-- an element was added unless its key was there: what was found behind the old ones first is found behind the new ones
abbrev pub Collected : {X K : Type 0} → (K → K → Ordering) → (X → K) → List X → X → List X → Type 0
Collected {X} {K} cmp key old x new = (rest : List X) (k : K)
    → later (find_key cmp key new k) (find_key cmp key rest k) ≡ later (find_key cmp key old k) (find_key cmp key (x ∷ rest) k)

-- what is found in those that were added, or else in the rest, is found first in all
abbrev pub Collects : {X K : Type 0} → (K → K → Ordering) → (X → K) → List X → List X → List X → Type 0
Collects {X} {K} cmp key done rest all = (k : K) → later (find_key cmp key done k) (find_key cmp key rest k) ≡ find_key cmp key all k
