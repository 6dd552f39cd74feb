-- Marks of the nodes that paths lead to from a name.
use Rattle.std.proofs.Common.{◌≡◌, sym, ap, ◌∙◌, ℕ, ◌<◌, Bool, false, List, length, get_or, map, replicate, arith}
use Rattle.std.specs.Cmp.Lexicographic.{nat_list_cmp_total}
use Rattle.std.proofs.lemmas.List.{length-map, length-replicate, get_or-map}
use Rattle.virtuals.specs.OfVariantValues.Texts.{byte_cmp}
use Rattle.virtuals.proofs.OfVariantValues.Texts2.{ties_are_equal}
use Rattle.virtuals.specs.OfReachability.Places.{AreNumbered, AreHeads, MarksReached, IsAt}
use Rattle.virtuals.proofs.OfReachability.HeadLaws.{told_by_marks}
use Rattle.virtuals.proofs.OfReachability.SearchLaws.{no_marks}
use Rattle.virtuals.specs.OfKeyedLists.Keyed.{IsPlaceOf, IsGapFor}
use Rattle.virtuals.proofs.OfKeyedLists.KeyedLaws.{lacks_key}
use Rattle.virtuals.specs.OfGraphCore.Node.{Node}
use Rattle.virtuals.specs.OfGraphCore.Graphs.{Text, Content, IsGraph, name_of}
use Rattle.virtuals.specs.OfGraphCore.Paths.{arcs_of, reaches_in}
use Rattle.virtuals.proofs.OfGraphCore.PathLaws.{names_once, name_at, begins_at_node, ends_at_node, told_path, no_path}
use Rattle.condition_rules.specs.Below.{AreBelow}

-- a node's name stands at the node's place
pub known_at : (nodes : List Node) (i : ℕ) (node : Node) (name : Text) → i < length nodes → node ≡ get_or nodes i node
    → node.name ≡ name → IsAt (map name_of nodes) name i
known_at nodes i node name lt is same =
    (omega (arith, lt, length-map nodes name_of), get_or-map name_of nodes i node name lt ∙ ap name_of (sym is) ∙ same)

module _ (g : Content) (graph : IsGraph g) (from : Text) (i : ℕ) where
  -- what a search from a node marks is what is below it
  pub searched : (numbers : List (ℕ × ℕ)) (heads : List (List ℕ)) (marks : List Bool)
      → AreNumbered (map name_of g.nodes) (arcs_of g) numbers
      → AreHeads (length g.nodes) numbers heads → IsPlaceOf byte_cmp name_of g.nodes from i → MarksReached heads i marks
      → AreBelow g from marks
  searched numbers heads marks numbered are at told = record {
    each = told.each ∙ are.each;
    reached = λ q j at_j. told_by_marks (map name_of g.nodes) (arcs_of g) numbers heads marks numbered
        (rw (length-map g.nodes name_of) are) (names_once g graph) from q i j (name_at g graph from i at) (name_at g graph q j at_j) told;
  }

  -- no path leads from where there is no node
  pub nowhere : (marks : List Bool) → IsGapFor byte_cmp name_of g.nodes from i → marks ≡ replicate (length g.nodes) false
      → AreBelow g from marks
  nowhere marks gap none = record {
    each = ap length none ∙ length-replicate _ _;
    reached = λ q j at. (
      λ marked. absurd (no_marks (length g.nodes) j (rw none at marked)),
      λ path. absurd (lacks_key nat_list_cmp_total ties_are_equal name_of g.nodes from i gap (begins_at_node g graph from q path)),
    );
  }

  -- a mark tells whether a path leads to the node
  pub told_below : (marks : List Bool) (name : Text) (is : Bool) → AreBelow g from marks → IsPlaceOf byte_cmp name_of g.nodes name i
      → is ≡ get_or marks i false → is ≡ reaches_in g from name
  told_below marks name is below at read =
      let tells = below.reached name i at in
      told_path g from name is (λ t. tells.0 (sym read ∙ t), λ path. read ∙ tells.1 path)

  -- no path leads to a name that is no node
  pub not_below : (name : Text) → IsGapFor byte_cmp name_of g.nodes name i → false ≡ reaches_in g from name
  not_below name gap = no_path g from name
      (λ path. lacks_key nat_list_cmp_total ties_are_equal name_of g.nodes name i gap (ends_at_node g graph from name path))
