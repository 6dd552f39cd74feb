-- Chains down the waves.
use Rattle.std.proofs.Common.{◌≡◌, ◌↔◌, refl, sym, ap, subst, ◌∙◌, ℕ, zero, suc, ◌+◌, ◌-◌, ◌<◌, ◌≤◌, Bool, true, List, [], ◌∷◌, ◌++◌, length, get_or, take, reverse, All, Contains, Option, Some, None, is_some, IsTrue, Bor, ◌⊎◌, ⊎_elim, arith}
use Rattle.std.proofs.lemmas.Bool.{cases_lt, false≢true}
use Rattle.std.proofs.lemmas.List.{get_or-reverse, get_or_default, length-reverse, take_more, take_all}
use Rattle.std.proofs.lemmas.List.Elements.{All-get_or, All-head, All-tail, All-cons, All-nil, All-from_get_or, Contains-get_or}
use Rattle.std.specs.Option.{option_copied}
use Rattle.std.specs.Cmp.Lexicographic.{nat_list_cmp_total}
use Rattle.std.specs.Ordering.{is_le, ordering_reverse}
use Rattle.std.specs.declared.cmp.Ordering.{Ordering}
use Rattle.std.specs.declared.cmp.Ordering.TheVariants.{Less, Equal, Greater}
use Rattle.std.specs.List.Sorted.{IsStrictlySortedBy}
use Rattle.graph_core.specs.OfVariantValues.Texts.{byte_cmp}
use Rattle.reachability.proofs.CountLaws.{has_image}
use Rattle.graph_core.specs.declared.node.Edge.{Edge}
use Rattle.graph_core.specs.Graphs.{Text, Content, ends_of, edge_of}
use Rattle.graph_core.specs.Paths.{arcs_of, JoinedIn}
use Rattle.graph_core.proofs.OfKeyedLists.KeyedLaws.{find_known}
use Rattle.graph_core.proofs.OfKeyedLists.RiseLaws.{rises_above, rises_rest}
use Rattle.keyed_lists.proofs.LookupLaws.{find_sound}
use Rattle.graph_core.proofs.PairLaws.{pair_total, pair_exact}
use Rattle.install_plan.specs.Schedules.{IsBuilt, IsSchedule, AreWaves, wave_at}
use Rattle.install_plan.specs.Chains.{IsLeast, MayComeBelow, GoesDown, IsChain}
use Rattle.install_plan.specs.Steps.{last_or, HasNext, GoDown}

-- ---- the least

le_itself : (r : Ordering) → r ≡ ordering_reverse r → is_le r ≡ true
le_itself Less e = absurd cc
le_itself Equal e = refl
le_itself Greater e = absurd cc

-- names in order, at two places
rises_at : (names : List Text) → IsStrictlySortedBy byte_cmp names → (i j : ℕ) → i < j → j < length names
    → byte_cmp (get_or names i []) (get_or names j []) ≡ Less
rises_at [] order i j less lt = absurd (omega (arith, lt))
rises_at (x ∷ xs) order i zero less lt = absurd (omega (arith, less))
rises_at (x ∷ xs) order zero (suc j) less lt =
    rises_above byte_cmp x xs order (get_or xs j []) (Contains-get_or xs j [] (omega (arith, lt)))
rises_at (x ∷ xs) order (suc i) (suc j) less lt = rises_at xs (rises_rest byte_cmp x xs order) i j (omega (arith, less)) (omega (arith, lt))

-- the first name in order that passes is the least
pub first_is_least : (names : List Text) (place : ℕ) (name : Text) (Passes : Text → Type 0) → IsStrictlySortedBy byte_cmp names
    → place < length names → name ≡ get_or names place name → ((k : ℕ) → k < place → Passes (get_or names k []) → ⊥) → Passes name
    → IsLeast (λ x. Contains names x × Passes x) name
first_is_least names place name Passes order lt is none passes = record {
  passes = ((place, lt, sym is), passes);
  least = λ other w.
      let here : get_or names place [] ≡ name = get_or_default names place [] name lt ∙ sym is in
      let there : get_or names w.0.0 [] ≡ other = get_or_default names w.0.0 [] other w.0.1 ∙ w.0.2 in
      ⊎_elim
      (λ early. absurd (none w.0.0 early (subst Passes (sym there) w.1)))
      (λ le. ⊎_elim
      (λ later. ap is_le (λ i. byte_cmp (sym here i) (sym there i)) ∙ ap is_le (rises_at names order place w.0.0 later w.0.1))
      (λ same_or.
      let same : place ≡ w.0.0 = omega (arith, le, same_or) in
      let one : name ≡ other = sym here ∙ ap (λ k. get_or names k []) same ∙ there in
      subst (λ x. is_le (byte_cmp name x) ≡ true) one (le_itself (byte_cmp name name) (nat_list_cmp_total.antisymm name name)))
      (cases_lt place w.0.0))
      (cases_lt w.0.0 place);
}

-- some name passes, so not all fail
pub some_passes : (names : List Text) (done : ℕ) (Passes : Text → Type 0) → length names ≤ done
    → ((k : ℕ) → k < done → Passes (get_or names k []) → ⊥) → (name : Text) → Contains names name → Passes name → ⊥
some_passes names done Passes all none name has passes = none has.0 (omega (arith, has.1, all))
    (subst Passes (sym (get_or_default names has.0 [] name has.1 ∙ has.2)) passes)

module _ (g : Content) where
  -- one name more, of the next wave
  pub goes_further : (above : Option Text) (waves : List (List Text)) (names : List Text) (wave : List Text) (name : Text)
      → GoesDown g above waves names → IsLeast (λ x. Contains wave x × MayComeBelow g (last_or above names) x) name
      → GoesDown g above (waves ++ wave ∷ []) (names ++ name ∷ [])
  goes_further above [] [] wave name down least = (least, tt)
  goes_further above [] (n ∷ names) wave name down least = elim down [ ]
  goes_further above (w ∷ waves) [] wave name down least = elim down [ ]
  goes_further above (w ∷ waves) (n ∷ names) wave name down least = (down.0, goes_further (Some n) waves names wave name down.1 least)

  pub last_push : (above : Option Text) (names : List Text) (name : Text) → last_or above (names ++ name ∷ []) ≡ Some name
  last_push above [] name = refl
  last_push above (n ∷ names) name = last_push (Some n) names name

  -- as many names as waves
  pub as_many : (above : Option Text) (waves : List (List Text)) (names : List Text) → GoesDown g above waves names
      → length names ≡ length waves
  as_many above [] [] down = refl
  as_many above [] (n ∷ names) down = elim down [ ]
  as_many above (w ∷ waves) [] down = elim down [ ]
  as_many above (w ∷ waves) (n ∷ names) down = ap suc (as_many (Some n) waves names down.1)

  -- what holds of all names of the waves holds of those of the chain
  pub all_of_chain : (P : Text → Type 0) (above : Option Text) (waves : List (List Text)) (names : List Text)
      → All (λ wave. (x : Text) → Contains wave x → P x) waves → GoesDown g above waves names → All P names
  all_of_chain P above [] [] all down = All-nil P
  all_of_chain P above [] (n ∷ names) all down = elim down [ ]
  all_of_chain P above (w ∷ waves) [] all down = elim down [ ]
  all_of_chain P above (w ∷ waves) (n ∷ names) all down = All-cons P n names
      (All-head (λ wave. (x : Text) → Contains wave x → P x) w waves all n down.0.passes.0)
      (all_of_chain P (Some n) waves names (All-tail (λ wave. (x : Text) → Contains wave x → P x) w waves all) down.1)

  -- a schedule has its waves below a node of the chain
  module _ (other : Text → ℕ) (schedule : IsSchedule g other) where
    below_parent : (parent : Text) (waves : List (List Text)) (names : List Text) → IsBuilt g parent
        → All (λ wave. (x : Text) → Contains wave x → IsBuilt g x) waves → GoesDown g (Some parent) waves names
        → length waves + 1 ≤ other parent
    below_parent parent [] [] built all down = schedule.from_one parent built
    below_parent parent [] (n ∷ names) built all down = elim down [ ]
    below_parent parent (w ∷ waves) [] built all down = elim down [ ]
    below_parent parent (w ∷ waves) (n ∷ names) built all down =
        let n_built = All-head (λ wave. (x : Text) → Contains wave x → IsBuilt g x) w waves all n down.0.passes.0 in
        let rest = below_parent n waves names n_built (All-tail (λ wave. (x : Text) → Contains wave x → IsBuilt g x) w waves all) down.1 in
        omega (arith, rest, schedule.rises parent n built n_built down.0.passes.1)

    pub shown_by : (waves : List (List Text)) (names : List Text) → All (λ wave. (x : Text) → Contains wave x → IsBuilt g x) waves
        → GoesDown g None waves names → (last : ℕ) → ((name : Text) → IsBuilt g name → other name ≤ last) → length waves ≤ last
    shown_by [] names all down last le = omega arith
    shown_by (w ∷ waves) [] all down last le = elim down [ ]
    shown_by (w ∷ waves) (n ∷ names) all down last le =
        let n_built = All-head (λ wave. (x : Text) → Contains wave x → IsBuilt g x) w waves all n down.0.passes.0 in
        omega (
          arith,
          below_parent n waves names n_built (All-tail (λ wave. (x : Text) → Contains wave x → IsBuilt g x) w waves all) down.1,
          le
              n n_built,
        )

  -- ---- plans

  -- the waves have nodes to build alone, the last first too
  pub waves_built : (wave_of : Text → ℕ) (waves : List (List Text)) → AreWaves g wave_of waves
      → All (λ wave. (x : Text) → Contains wave x → IsBuilt g x) (reverse waves)
  waves_built wave_of waves are = All-from_get_or (λ wave. (x : Text) → Contains wave x → IsBuilt g x) (reverse waves) []
      (λ place lt x has.
      let within : place < length waves = omega (arith, lt, length-reverse waves) in
      ((are.exact (length waves - 1 - place) x).0 (subst (λ l. Contains l x) (get_or-reverse waves place [] within) has)).0)

  -- ---- one name

  -- what a look-up of an edge tells
  pub edge_tells : (p q : Text) (o : Option (Bor Edge)) (is : Bool) → option_copied o ≡ edge_of g p q → is ≡ is_some o → IsTrue is
      ↔ JoinedIn g p q
  edge_tells p q None is found told = (
    λ t. absurd (false≢true (sym told ∙ t)),
    λ joined.
        let edge = find_known pair_total pair_exact ends_of g.edges (p, q) joined in
        absurd (let bad : None ≡ Some edge.0 = found ∙ edge.1 in cc),
  )
  edge_tells p q (Some b) is found told = (
    λ t.
        let sound = find_sound pair_total pair_exact ends_of g.edges (p, q) b.now (sym found) in
        subst (Contains (arcs_of g)) sound.1 (has_image ends_of g.edges b.now sound.0),
    λ joined. told,
  )

  -- ---- while a chain is made

  -- the chain goes down the waves so far, the last one first
  pub record IsDown (waves : List (List Text)) (done : ℕ) (above : Option Text) (chain : List Text) : Type 0 where
    pub down : GoesDown g None (take done (reverse waves)) chain
    pub last : last_or None chain ≡ above
    pub there : (parent : Text) → above ≡ Some parent → (0 < done) × Contains (wave_at waves (length waves - done)) parent

  pub down_none : (waves : List (List Text)) → IsDown waves 0 None []
  down_none waves = record { down = tt; last = refl; there = λ parent e. absurd cc }

  module _ (waves : List (List Text)) (done : ℕ) (above : Option Text) (chain : List Text) (so_far : IsDown waves done above chain)
      (lt : done < length waves) where
    -- some name of the next wave may follow
    pub has_next : GoDown g waves → HasNext g above (wave_at waves (length waves - 1 - done))
    has_next go = record {
      order = All-get_or (IsStrictlySortedBy byte_cmp) waves (length waves - 1 - done) [] (omega (arith, lt)) go.order;
      some = of_above above refl;
    }
      where
        of_above : (a : Option Text) → above ≡ a → (name : Text) × Contains (wave_at waves (length waves - 1 - done)) name
            × MayComeBelow g a name
        of_above None e =
            let name = All-get_or (λ names. (x : Text) × Contains names x) waves (length waves - 1 - done) []
            (omega (arith, lt)) go.filled in
            (name.0, name.1, tt)
        of_above (Some parent) e =
            let there = so_far.there parent e in
            let next : length waves - done ≡ length waves - 1 - done + 1 = omega (arith, lt) in
            go.children (length waves - 1 - done) parent (omega (arith, lt, there.0))
            (subst (λ place. Contains (wave_at waves place) parent) next there.1)

    -- a name that follows is one more of the chain
    pub one_down : (name : Text) → IsLeast (λ x. Contains (wave_at waves (length waves - 1 - done)) x × MayComeBelow g above x) name
        → IsDown waves (done + 1) (Some name) (chain ++ name ∷ [])
    one_down name least = record {
      down =
          let in_reverse : done < length (reverse waves) = omega (arith, lt, length-reverse waves) in
          rw (take_more (reverse waves) done [] in_reverse, get_or-reverse waves done [] lt)
          (goes_further None (take done (reverse waves)) chain (wave_at waves (length waves - 1 - done)) name so_far.down
          (subst (λ a. IsLeast (λ x. Contains (wave_at waves (length waves - 1 - done)) x × MayComeBelow g a x) name) (sym so_far.last) least));
      last = last_push None chain name;
      there = λ parent e.
          let same : name ≡ parent = cc in
          let next : length waves - 1 - done ≡ length waves - (done + 1) = omega arith in (
            omega arith,
            subst (λ place. Contains (wave_at waves place) parent) next
                (subst (Contains (wave_at waves (length waves - 1 - done))) same least.passes.0),
          );
    }

  pub down_all : (waves : List (List Text)) (done : ℕ) (above : Option Text) (chain : List Text) → IsDown waves done above chain
      → length waves ≤ done → IsChain g waves chain
  down_all waves done above chain is le = subst (λ ws. GoesDown g None ws chain)
      (take_all done (reverse waves) (omega (arith, le, length-reverse waves))) is.down
