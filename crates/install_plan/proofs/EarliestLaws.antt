-- The numbers of nodes are the earliest schedule.
use Rattle.std.proofs.Common.{◌≡◌, sym, ap, subst, ◌∙◌, ℕ, zero, suc, ◌+◌, ◌-◌, ◌<◌, ◌≤◌, false, cond, List, [], ◌∷◌, length, get_or, map, filter, Contains, ◌⊎◌, inl, inr, ⊎_elim, arith}
use Rattle.std.proofs.lemmas.Bool.{false_from_ne_true}
use Rattle.std.proofs.lemmas.List.{length-map, get_or_default}
use Rattle.std.proofs.lemmas.List.Sums.{count_by-le-length}
use Rattle.std.specs.Cmp.Lexicographic.{bytes_decides}
use Rattle.std.specs.Str.{bytes_eq}
use Rattle.reachability.specs.Paths.{IsAcyclic, level, reaches}
use Rattle.reachability.specs.Places.{LeadsTo, IsAt, AreOnce}
use Rattle.reachability.proofs.CountLaws.{has_image, image_of}
use Rattle.reachability.proofs.SpreadLaws.{from_filter}
use Rattle.reachability.proofs.ReachLaws.{level_rises}
use Rattle.graph_core.specs.declared.node.Node.{Node}
use Rattle.graph_core.specs.Graphs.{Text, Content, IsGraph, name_of, ends_of, is_built}
use Rattle.graph_core.specs.Paths.{arcs_of, JoinedIn}
use Rattle.graph_core.proofs.PathLaws.{names_once}
use Rattle.install_plan.specs.Schedules.{IsBuilt, IsSchedule, IsEarliest}
use Rattle.install_plan.specs.Numbers.{number_at, HaveHeights, AreNumbers}
use Rattle.install_plan.specs.Children.{names_of, AreBuiltChildren, number_of, wave_in}

-- a name has the number at its place
pub number_there : (nodes : List Node) (numbers : List ℕ) → AreOnce (map name_of nodes) → length numbers ≡ length nodes
    → (name : Text) (place : ℕ) → IsAt (map name_of nodes) name place → number_of nodes numbers name ≡ number_at numbers place
unfolding number_of
number_there [] numbers once each name place at = absurd (omega (arith, at.0))
number_there (node ∷ nodes) [] once each name place at = absurd (omega (arith, each))
number_there (node ∷ nodes) (number ∷ numbers) once each name zero at =
    ap (λ b. cond b number (number_of nodes numbers name)) ((bytes_decides node.name name).1 at.1)
number_there (node ∷ nodes) (number ∷ numbers) once each name (suc place) at =
    let later : IsAt (map name_of nodes) name place = (omega (arith, at.0), at.1) in
    let other : bytes_eq node.name name ≡ false = false_from_ne_true (bytes_eq node.name name)
    (λ same. absurd (omega (arith, once name zero (suc place) (omega arith, (bytes_decides node.name name).0 same) at))) in
    ap (λ b. cond b number (number_of nodes numbers name)) other
    ∙ number_there nodes numbers (λ key i j at_i at_j.
    omega (arith, once key (suc i) (suc j) (omega (arith, at_i.0), at_i.1) (omega (arith, at_j.0), at_j.1)))
    (omega (arith, each)) name place
    later

module _ (g : Content) where
  -- a node to build is a node
  pub built_there : (name : Text) → IsBuilt g name → (place : ℕ) × IsAt (names_of g) name place
  built_there name built =
      let node = image_of name_of (filter is_built g.nodes) name built in
      let has = has_image name_of g.nodes node.0 (from_filter is_built g.nodes node.0 node.1).0 in
      let named : Contains (names_of g) name = subst (Contains (names_of g)) node.2 has in
      (named.0, (named.1, named.2))

  one_name : (place : ℕ) (p q : Text) → IsAt (names_of g) p place → IsAt (names_of g) q place → p ≡ q
  one_name place p q a b = sym a.1 ∙ get_or_default (names_of g) place p q a.0 ∙ b.1

  -- ---- heights, where there is no cycle

  abbrev parents : List Text
  parents = map (λ arc. arc.0) (arcs_of g)

  abbrev height_of : Text → ℕ
  height_of name = length parents - level bytes_eq (arcs_of g) parents name

  height_falls : IsAcyclic (JoinedIn g) → (p q : Text) → JoinedIn g p q → height_of q < height_of p
  height_falls acyclic p q arc = omega (
    arith,
    level_rises bytes_eq bytes_decides (arcs_of g) acyclic parents p q (has_image (λ a. a.0) (arcs_of g) (p, q) arc) arc,
    count_by-le-length (λ k. reaches bytes_eq (arcs_of g) k q) parents,
  )

  module _ (heads : List (List ℕ)) (are : AreBuiltChildren g heads) where
    -- the children to build have heights that fall
    pub have_heights : IsAcyclic (JoinedIn g) → HaveHeights heads
    have_heights acyclic = record {
      height = λ place. height_of (get_or (names_of g) place []);
      falls = λ i j leads.
          let arc = (are.exact i j).0 leads in
          let joined : JoinedIn g arc.edge.parent arc.edge.child = has_image ends_of g.edges arc.edge arc.there in
          let at_i : get_or (names_of g) i [] ≡ arc.edge.parent = get_or_default (names_of g) i [] arc.edge.parent arc.parent.0
          ∙ arc.parent.1 in
          let at_j : get_or (names_of g) j [] ≡ arc.edge.child = get_or_default (names_of g) j [] arc.edge.child arc.child.0
          ∙ arc.child.1 in
          omega (arith, height_falls acyclic arc.edge.parent arc.edge.child joined, ap height_of at_i, ap height_of at_j);
    }

    module _ (graph : IsGraph g) (numbers : List ℕ) (found : AreNumbers heads numbers) where
      abbrev wave_of : Text → ℕ
      wave_of = wave_in g numbers

      -- the wave of a name is the number at its place
      pub wave_there : (name : Text) (place : ℕ) → IsAt (names_of g) name place → wave_of name ≡ number_at numbers place
      wave_there = number_there g.nodes numbers (names_once g graph) (found.each ∙ are.each)

      place_lt : (name : Text) (place : ℕ) → IsAt (names_of g) name place → place < length heads
      place_lt name place at = omega (arith, at.0, length-map g.nodes name_of, are.each)

      -- each number is 1 at least
      pub from_one : (place : ℕ) → place < length heads → 1 ≤ number_at numbers place
      from_one place lt = ⊎_elim (λ one. omega (arith, one)) (λ w. omega (arith, w.2)) (found.right place lt).least

      -- a node to build is in the first wave, or has a child to build in the wave before
      pub steps_down : (name : Text) → IsBuilt g name → (wave_of name ≡ 1)
          ⊎ ((child : Text) × IsBuilt g child × JoinedIn g name child × (wave_of name ≡ wave_of child + 1))
      steps_down name built =
          let at = built_there name built in
          let is = wave_there name at.0 at.1 in
          ⊎_elim
          (λ one. inl (is ∙ one))
          (λ w.
          let arc = (are.exact at.0 w.0).0 w.1 in
          let same : arc.edge.parent ≡ name = one_name at.0 arc.edge.parent name arc.parent at.1 in
          inr (
            arc.edge.child,
            arc.child_built,
            subst (λ p. JoinedIn g p arc.edge.child) same (has_image ends_of g.edges arc.edge arc.there),
            is ∙ w.2 ∙ ap (λ n. n + 1) (sym (wave_there arc.edge.child w.0 arc.child)),
          ))
          (found.right at.0 (place_lt name at.0 at.1)).least

      rises : (parent child : Text) → IsBuilt g parent → IsBuilt g child → JoinedIn g parent child → wave_of child < wave_of parent
      rises parent child parent_built child_built joined =
          let at_p = built_there parent parent_built in
          let at_c = built_there child child_built in
          let edge = image_of ends_of g.edges (parent, child) joined in
          let is_parent : edge.0.parent ≡ parent = ap (λ e. e.0) edge.2 in
          let is_child : edge.0.child ≡ child = ap (λ e. e.1) edge.2 in
          let leads : LeadsTo heads at_p.0 at_c.0 = (are.exact at_p.0 at_c.0).1 (record {
            edge = edge.0;
            there = edge.1;
            parent = subst (λ x. IsAt (names_of g) x at_p.0) (sym is_parent) at_p.1;
            child = subst (λ x. IsAt (names_of g) x at_c.0) (sym is_child) at_c.1;
            parent_built = subst (IsBuilt g) (sym is_parent) parent_built;
            child_built = subst (IsBuilt g) (sym is_child) child_built;
          }) in
          omega (
            arith,
            (found.right at_p.0 (place_lt parent at_p.0 at_p.1)).above at_c.0 leads,
            wave_there parent at_p.0 at_p.1,
            wave_there child at_c.0 at_c.1,
          )

      module _ (other : Text → ℕ) (schedule : IsSchedule g other) where
        no_earlier : (n : ℕ) (name : Text) → IsBuilt g name → wave_of name ≤ n → wave_of name ≤ other name
        no_earlier zero name built le = omega (arith, le)
        no_earlier (suc n) name built le = ⊎_elim
            (λ one. omega (arith, one, schedule.from_one name built))
            (λ w. omega (
              arith,
              w.3,
              le,
              no_earlier n w.0 w.1 (omega (arith, w.3, le)),
              schedule.rises name w.0 built w.1 w.2,
            ))
            (steps_down name built)

      -- the numbers are the earliest schedule
      pub earliest : IsEarliest g wave_of
      earliest = record {
        schedule = record {
          from_one = λ name built.
              let at = built_there name built in
              omega (arith, from_one at.0 (place_lt name at.0 at.1), wave_there name at.0 at.1);
          rises = rises;
        };
        least = λ other schedule name built. no_earlier other schedule (wave_of name) name built (omega arith);
      }
