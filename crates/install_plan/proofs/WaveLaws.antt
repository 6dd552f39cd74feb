-- The names of each wave.
use Rattle.std.proofs.Common.{◌≡◌, ◌≢◌, ◌↔◌, refl, sym, ap, subst, ◌∙◌, ℕ, zero, suc, ◌+◌, ◌-◌, ◌<◌, ◌≤◌, ◌==◌, Bool, true, false, cond, List, [], ◌∷◌, ◌++◌, length, get_or, set, take, map, filter, replicate, All, Contains, ◌⊎◌, inl, inr, ⊎_elim, eq-eqb, arith}
use Rattle.std.proofs.lemmas.Bool.{cases_eq, cases_lt, cases_Bool, eqb-true, ne_eqb, false≢true}
use Rattle.std.proofs.lemmas.List.{length-map, length-set, length-replicate, get_or-map, get_or-set_same, get_or-set_other, get_or_past, get_or-replicate, take_more, map-append, append-nil}
use Rattle.std.proofs.lemmas.List.Elements.{All-from_get_or, Contains-append_left, Contains-push, Contains-push_cases, filter-append}
use Rattle.std.proofs.lemmas.List.Kept.{IsStrictlySortedBy-filter}
use Rattle.std.specs.List.Sorted.{IsStrictlySortedBy}
use Rattle.std.specs.declared.cmp.Ordering.TheVariants.{Less}
use Rattle.reachability.proofs.CountLaws.{has_image, image_of}
use Rattle.reachability.proofs.SpreadLaws.{from_filter, in_filter}
use Rattle.graph_core.specs.OfVariantValues.Texts.{byte_cmp}
use Rattle.graph_core.specs.declared.node.Node.{Node}
use Rattle.graph_core.specs.Graphs.{Text, Content, IsGraph, name_of, is_built}
use Rattle.graph_core.specs.Paths.{JoinedIn}
use Rattle.graph_core.proofs.PathLaws.{names_once}
use Rattle.graph_core.proofs.OfKeyedLists.RiseLaws.{rises_above, rises_rest, rises_more, rises_none}
use Rattle.install_plan.specs.Schedules.{IsBuilt, AreWaves, wave_at}
use Rattle.install_plan.specs.Children.{built_of, wave_in, with_number, IsGreatest, AreByNumber}
use Rattle.install_plan.specs.Steps.{GoDown}
use Rattle.install_plan.proofs.EarliestLaws.{number_there}

-- ---- names of nodes to build

-- one node more, which is to be built
pub built_more : (nodes : List Node) (place : ℕ) (node : Node) → place < length nodes → node ≡ get_or nodes place node
    → is_built node ≡ true
    → built_of (take (place + 1) nodes) ≡ built_of (take place nodes) ++ node.name ∷ []
built_more nodes place node lt is passes =
    rw (take_more nodes place node lt, ← is, filter-append is_built (take place nodes) (node ∷ []), passes, map-append) refl

-- one node more, which is not
pub built_same : (nodes : List Node) (place : ℕ) (node : Node) → place < length nodes → node ≡ get_or nodes place node
    → is_built node ≡ false
    → built_of (take (place + 1) nodes) ≡ built_of (take place nodes)
built_same nodes place node lt is fails =
    rw (take_more nodes place node lt, ← is, filter-append is_built (take place nodes) (node ∷ []), fails, map-append)
    (append-nil (built_of (take place nodes)))

-- the names of the nodes to build are in byte order, as those of all nodes are
pub built_sorted : (nodes : List Node) → IsStrictlySortedBy byte_cmp (map name_of nodes) → IsStrictlySortedBy byte_cmp (built_of nodes)
built_sorted [] sorted = rises_none byte_cmp
built_sorted (node ∷ nodes) sorted = with_test (is_built node)
    (built_sorted nodes (rises_rest byte_cmp node.name (map name_of nodes) sorted))
  where
    above : (name : Text) → Contains (built_of nodes) name → byte_cmp node.name name ≡ Less
    above name has =
        let is = image_of name_of (filter is_built nodes) name has in
        rises_above byte_cmp node.name (map name_of nodes) sorted name
        (subst (Contains (map name_of nodes)) is.2 (has_image name_of nodes is.0 (from_filter is_built nodes is.0 is.1).0))

    with_test : (b : Bool) → IsStrictlySortedBy byte_cmp (built_of nodes)
        → IsStrictlySortedBy byte_cmp (map name_of (cond b (node ∷ filter is_built nodes) (filter is_built nodes)))
    with_test true rest = rises_more byte_cmp node.name (built_of nodes) above rest
    with_test false rest = rest

-- ---- one name more in its wave

module _ (wave_of : Text → ℕ) where
  same_number : (n place : ℕ) → n ≡ place + 1 → (n == place + 1) ≡ true
  same_number n place e = eq-eqb n (place + 1) e

  -- a name goes to the wave of its number
  pub with_more : (place : ℕ) (names : List Text) (name : Text) → wave_of name ≡ place + 1
      → with_number wave_of place (names ++ name ∷ []) ≡ with_number wave_of place names ++ name ∷ []
  with_more place names name e =
      rw (filter-append (λ x. wave_of x == place + 1) names (name ∷ []), same_number (wave_of name) place e) refl

  -- and to no other
  pub with_same : (place : ℕ) (names : List Text) (name : Text) → wave_of name ≢ place + 1
      → with_number wave_of place (names ++ name ∷ []) ≡ with_number wave_of place names
  with_same place names name other =
      rw (filter-append (λ x. wave_of x == place + 1) names (name ∷ []), ne_eqb (wave_of name) (place + 1) other)
      (append-nil (with_number wave_of place names))

  -- the names so far, each in its wave
  pub record AreSorted (waves : List (List Text)) (count : ℕ) (names : List Text) : Type 0 where
    pub each : length waves ≡ count
    pub sorted : (place : ℕ) → place < count → wave_at waves place ≡ with_number wave_of place names

  pub sorted_none : (waves : List (List Text)) (count : ℕ) → waves ≡ replicate count [] → AreSorted waves count []
  sorted_none waves count e = record {
    each = ap length e ∙ length-replicate count [];
    sorted = λ place lt. ap (λ ws. wave_at ws place) e ∙ get_or-replicate count place [] [] lt;
  }

  module _ (waves : List (List Text)) (count : ℕ) (names : List Text) (name : Text) (are : AreSorted waves count names)
      (some : 1 ≤ wave_of name) (le : wave_of name ≤ count) where
    abbrev own : ℕ
    own = wave_of name - 1

    abbrev longer : List Text
    longer = wave_at waves own ++ name ∷ []

    pub sorted_more : AreSorted (set waves (wave_of name - 1) (wave_at waves (wave_of name - 1) ++ name ∷ [])) count (names ++ name ∷ [])
    sorted_more = record {
      each = length-set waves own longer ∙ are.each;
      sorted = λ place lt. ⊎_elim
          (λ same. ap (wave_at (set waves own longer)) same ∙ get_or-set_same waves own longer [] (omega (arith, are.each, same, lt))
          ∙ ap (λ l. l ++ name ∷ []) (are.sorted own (omega (arith, same, lt)))
          ∙ sym (with_more own names name (omega (arith, some))) ∙ ap (λ p. with_number wave_of p (names ++ name ∷ [])) (sym same))
          (λ other. get_or-set_other waves own place longer [] other ∙ are.sorted place lt
          ∙ sym (with_same place names name (λ e. other (omega (arith, e)))))
          (cases_eq place own);
    }

  -- ---- the greatest number

  pub greatest_none : IsGreatest wave_of [] 0
  greatest_none = record { above = λ name has. absurd (omega (arith, has.1)); there = inl refl }

  pub greatest_more : (names : List Text) (name : Text) (count : ℕ) → IsGreatest wave_of names count → count < wave_of name
      → IsGreatest wave_of (names ++ name ∷ []) (wave_of name)
  greatest_more names name count is less = record {
    above = λ other has. ⊎_elim (λ old. omega (arith, is.above other old, less)) (λ same. omega (arith, ap wave_of same))
        (Contains-push_cases names name other has);
    there = inr (name, Contains-push names name, refl);
  }

  pub greatest_same : (names : List Text) (name : Text) (count : ℕ) → IsGreatest wave_of names count → wave_of name ≤ count
      → IsGreatest wave_of (names ++ name ∷ []) count
  greatest_same names name count is le = record {
    above = λ other has. ⊎_elim (λ old. is.above other old) (λ same. omega (arith, ap wave_of same, le))
        (Contains-push_cases names name other has);
    there = ⊎_elim (λ none. inl none) (λ w. inr (w.0, Contains-append_left names (name ∷ []) w.0 w.1, w.2)) is.there;
  }

-- ---- nodes by their places

module _ (g : Content) (graph : IsGraph g) (numbers : List ℕ) (each : length numbers ≡ length g.nodes) where
  -- the wave of a node is the number at its place
  pub node_wave : (place : ℕ) (node : Node) → place < length g.nodes → node ≡ get_or g.nodes place node
      → wave_in g numbers node.name ≡ get_or numbers place 0
  node_wave place node lt is = number_there g.nodes numbers (names_once g graph) each node.name place (
    rw (length-map g.nodes name_of) lt,
    get_or-map name_of g.nodes place node node.name lt ∙ ap name_of (sym is),
  )

  -- a node to build is one of them
  pub node_built : (place : ℕ) (node : Node) → place < length g.nodes → node ≡ get_or g.nodes place node → is_built node ≡ true
      → Contains (built_of g.nodes) node.name
  node_built place node lt is passes = has_image name_of (filter is_built g.nodes) node
      (in_filter is_built g.nodes node (place, lt, sym is) passes)

  -- the greatest number of a node to build, with one node more
  pub greatest_step : (place : ℕ) (node : Node) (old new : ℕ) → place < length g.nodes → node ≡ get_or g.nodes place node
      → IsGreatest (wave_in g numbers) (built_of (take place g.nodes)) old
      → ((is_built node ≡ true) × (old < get_or numbers place 0) × (new ≡ get_or numbers place 0))
      ⊎ (((is_built node ≡ false) ⊎ (get_or numbers place 0 ≤ old)) × (new ≡ old))
      → IsGreatest (wave_in g numbers) (built_of (take (place + 1) g.nodes)) new
  greatest_step place node old new lt is so_far which = ⊎_elim
      (λ w.
      let wave = node_wave place node lt is in
      rw (built_more g.nodes place node lt is w.0)
      (subst (IsGreatest (wave_in g numbers) (built_of (take place g.nodes) ++ node.name ∷ [])) (wave ∙ sym w.2)
      (greatest_more (wave_in g numbers) (built_of (take place g.nodes)) node.name old so_far (omega (arith, wave, w.1)))))
      (λ (w : ((is_built node ≡ false) ⊎ (get_or numbers place 0 ≤ old)) × (new ≡ old)).
      let same : IsGreatest (wave_in g numbers) (built_of (take (place + 1) g.nodes)) old = ⊎_elim
      (λ passes. rw (built_more g.nodes place node lt is passes)
      (greatest_same (wave_in g numbers) (built_of (take place g.nodes)) node.name old so_far
      (⊎_elim {B = get_or numbers place 0 ≤ old} (λ fails. absurd (false≢true (sym fails ∙ passes)))
      (λ le. omega (arith, node_wave place node lt is, le)) w.0)))
      (λ fails. rw (built_same g.nodes place node lt is fails) so_far)
      (cases_Bool (is_built node)) in
      subst (IsGreatest (wave_in g numbers) (built_of (take (place + 1) g.nodes))) (sym w.1) same) which

  -- a node to build goes to the wave of its number
  pub sorted_step : (place : ℕ) (node : Node) (waves : List (List Text)) (count number : ℕ) → place < length g.nodes
      → node ≡ get_or g.nodes place node → is_built node ≡ true → IsGreatest (wave_in g numbers) (built_of g.nodes) count
      → number ≡ get_or numbers place 0 → 1 ≤ number → AreSorted (wave_in g numbers) waves count (built_of (take place g.nodes))
      → AreSorted (wave_in g numbers) (set waves (number - 1) (wave_at waves (number - 1) ++ node.name ∷ [])) count
      (built_of (take (place + 1) g.nodes))
  sorted_step place node waves count number lt is passes greatest own some so_far =
      let wave : wave_in g numbers node.name ≡ number = node_wave place node lt is ∙ sym own in
      rw (built_more g.nodes place node lt is passes)
      (subst (λ n. AreSorted (wave_in g numbers) (set waves (n - 1) (wave_at waves (n - 1) ++ node.name ∷ [])) count
      (built_of (take place g.nodes) ++ node.name ∷ [])) wave
      (sorted_more (wave_in g numbers) waves count (built_of (take place g.nodes)) node.name so_far (omega (arith, wave, some))
      (greatest.above node.name (node_built place node lt is passes))))

  -- its wave is there
  pub wave_within : (place : ℕ) (node : Node) (waves : List (List Text)) (count number : ℕ) → place < length g.nodes
      → node ≡ get_or g.nodes place node → is_built node ≡ true → IsGreatest (wave_in g numbers) (built_of g.nodes) count
      → number ≡ get_or numbers place 0 → 1 ≤ number → AreSorted (wave_in g numbers) waves count (built_of (take place g.nodes))
      → number - 1 < length waves
  wave_within place node waves count number lt is passes greatest own some so_far = omega (
    arith,
    node_wave place node lt is,
    own,
    some,
    so_far.each,
    greatest.above node.name (node_built place node lt is passes),
  )

-- ---- the waves of a schedule

module _ (g : Content) (graph : IsGraph g) (wave_of : Text → ℕ) (waves : List (List Text)) (are : AreByNumber g wave_of waves)
    (some : (name : Text) → IsBuilt g name → 1 ≤ wave_of name)
    (steps_down : (name : Text) → IsBuilt g name → (wave_of name ≡ 1)
    ⊎ ((child : Text) × IsBuilt g child × JoinedIn g name child × (wave_of name ≡ wave_of child + 1))) where
  -- just the names with the number
  pub in_wave : (place : ℕ) (name : Text) → Contains (wave_at waves place) name ↔ (IsBuilt g name × (wave_of name ≡ place + 1))
  in_wave place name = (
    λ has. ⊎_elim
        (λ lt.
        let parts = from_filter (λ x. wave_of x == place + 1) (built_of g.nodes) name
        (subst (λ l. Contains l name) (are.names place lt) has) in
        (parts.0, eqb-true (wave_of name) (place + 1) parts.1))
        (λ past. absurd (omega (arith, (subst (λ l. Contains l name) (get_or_past waves place [] past) has).1)))
        (cases_lt place (length waves)),
    λ is.
        let lt : place < length waves = omega (arith, are.greatest.above name is.0, is.1) in
        subst (λ l. Contains l name) (sym (are.names place lt))
        (in_filter (λ x. wave_of x == place + 1) (built_of g.nodes) name is.0 (eq-eqb (wave_of name) (place + 1) is.1)),
  )

  order : All (IsStrictlySortedBy byte_cmp) waves
  order = All-from_get_or (IsStrictlySortedBy byte_cmp) waves [] (λ place lt. subst (IsStrictlySortedBy byte_cmp) (sym (are.names place lt))
      (IsStrictlySortedBy-filter byte_cmp (λ x. wave_of x == place + 1) (built_of g.nodes) (built_sorted g.nodes graph.nodes)))

  -- from a wave down to each before it
  goes_down : (n place : ℕ) (name : Text) → IsBuilt g name → wave_of name ≡ place + 1 + n
      → (below : Text) × IsBuilt g below × (wave_of below ≡ place + 1)
  goes_down zero place name built e = (name, built, omega (arith, e))
  goes_down (suc n) place name built e = ⊎_elim (λ one. absurd (omega (arith, one, e)))
      (λ w. goes_down n place w.0 w.1 (omega (arith, w.3, e))) (steps_down name built)

  filled : All (λ names. (name : Text) × Contains names name) waves
  filled = All-from_get_or (λ names. (name : Text) × Contains names name) waves [] (λ place lt. ⊎_elim
      (λ none. absurd (omega (arith, none, lt)))
      (λ w.
      let below = goes_down (length waves - (place + 1)) place w.0 w.1 (omega (arith, w.2, lt)) in
      (below.0, (in_wave place below.0).1 (below.1, below.2)))
      are.greatest.there)

  -- they are the waves
  pub are_waves : AreWaves g wave_of waves
  are_waves = record { order = order; exact = in_wave; filled = filled }

  -- and a chain goes down them
  pub go_down : GoDown g waves
  go_down = record {
    order = order;
    filled = filled;
    children = λ place parent lt has.
        let is = (in_wave (place + 1) parent).0 has in
        ⊎_elim (λ one. absurd (omega (arith, one, is.1)))
        (λ w. (w.0, (in_wave place w.0).1 (w.1, omega (arith, w.3, is.1)), w.2)) (steps_down parent is.0);
  }
