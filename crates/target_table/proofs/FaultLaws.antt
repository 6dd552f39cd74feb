-- The computed fault of entries is the one that they have.
use Rattle.std.proofs.Common.{◌≡◌, refl, sym, ap, subst, ◌∙◌, ℕ, suc, ◌+◌, ◌<◌, ◌≤◌, Bool, true, false, not, cond, Option, Some, None, MatchOption, List, [], ◌∷◌, ◌++◌, length, get_or, take, drop, Contains, Decides, ◌↔◌, ◌⊎◌, inl, inr, ⊎_elim, add-one, arith}
use Rattle.std.specs.List.{HoldsAt, list_any, list_all, position, position_or_len}
use Rattle.std.specs.Cmp.Lexicographic.{bytes_decides}
use Rattle.std.specs.Str.{bytes_eq}
use Rattle.std.proofs.lemmas.Bool.{cases_lt, cases_order, cases_Bool, false≢true, or_cases, or_parts, and_parts, and_cases, not-true, not-false, lt-ltb, le-ltb}
use Rattle.std.proofs.lemmas.List.{get_or-map, get_or_default, length-map, length-drop, take_more}
use Rattle.std.proofs.Math.Seq.{drop-cons}
use Rattle.std.proofs.lemmas.List.Elements.{Contains-push_cases, Contains-append_left, Contains-push}
use Rattle.std.proofs.lemmas.List.Sums.{prefix_len_passes, prefix_len_stops}
use Rattle.reachability.specs.Paths.{HasArc, IsAcyclic, reaches}
use Rattle.reachability.proofs.CountLaws.{has_first, has_later, first_or_later}
use Rattle.reachability.proofs.SpreadLaws.{reaches_decides}
use Rattle.target_table.specs.declared.entry.TargetEntry.{TargetEntry}
use Rattle.target_table.specs.declared.fault.TargetFault.{TargetFault}
use Rattle.target_table.specs.declared.fault.TargetFault.TheVariants.{TwiceNamed, UnknownParent, CyclicTargets, OutOfMemory}
use Rattle.target_table.specs.Targets.{names_of, parent_arcs, HasAncestor, IsTwice, IsUnknown, IsFirst, IsTargetFault, AreTargets}
use Rattle.target_table.specs.Faults.{is_one_of, first_twice, first_unknown_parent, is_cyclic, first_target_fault, fault_of}
use Rattle.reachability.proofs.TextPlaces.{none_more}
use Rattle.target_table.proofs.TableLaws.{from_name}

-- ---- tests of lists

module _ {X : Type 0} (p : X → Bool) where
  any_true : (xs : List X) → list_any p xs ≡ true → (x : X) × Contains xs x × (p x ≡ true)
  any_true [] e = absurd (false≢true e)
  any_true (x ∷ xs) e = ⊎_elim
      (λ here. (x, has_first x xs, here))
      (λ later. let w = any_true xs later in (w.0, has_later x xs w.0 w.1, w.2)) (or_cases (p x) (list_any p xs) e)

  any_false : (xs : List X) → list_any p xs ≡ false → (x : X) → Contains xs x → p x ≡ false
  any_false [] e x there = absurd (omega (arith, there.1))
  any_false (y ∷ ys) e x there =
      let parts = or_parts (p y) (list_any p ys) e in
      ⊎_elim (λ is. ap p (sym is) ∙ parts.0) (λ later. any_false ys parts.1 x later) (first_or_later y ys x there)

  all_true : (xs : List X) → list_all p xs ≡ true → (x : X) → Contains xs x → p x ≡ true
  all_true [] e x there = absurd (omega (arith, there.1))
  all_true (y ∷ ys) e x there =
      let parts = and_parts (p y) (list_all p ys) e in
      ⊎_elim (λ is. ap p (sym is) ∙ parts.0) (λ later. all_true ys parts.1 x later) (first_or_later y ys x there)

  all_false : (xs : List X) → list_all p xs ≡ false → (x : X) × Contains xs x × (p x ≡ false)
  all_false [] e = absurd (false≢true (sym e))
  all_false (x ∷ xs) e = ⊎_elim
      (λ here. (x, has_first x xs, here))
      (λ later. let w = all_false xs later in (w.0, has_later x xs w.0 w.1, w.2)) (and_cases (p x) (list_all p xs) e)

  -- the first place that passes
  position_means : (xs : List X) → MatchOption (position p xs) ((k : ℕ) (d : X) → k < length xs → p (get_or xs k d) ≡ false)
      (λ i. (i < length xs) × ((d : X) → p (get_or xs i d) ≡ true) × ((k : ℕ) (d : X) → k < i → p (get_or xs k d) ≡ false))
  position_means xs = ⊎_elim
      (λ (lt : position_or_len p xs < length xs). rw (lt-ltb (position_or_len p xs) (length xs) lt) (
        lt,
        (λ d. not-false _ (prefix_len_stops (λ x. not (p x)) xs d lt)),
        (λ k d less. not-true _ (prefix_len_passes (λ x. not (p x)) xs k d less)),
      ))
      (λ (le : length xs ≤ position_or_len p xs). rw (le-ltb (position_or_len p xs) (length xs) le)
      (λ k d less. not-true _ (prefix_len_passes (λ x. not (p x)) xs k d (omega (arith, less, le)))))
      (cases_lt (position_or_len p xs) (length xs))

-- the test whether a text is one of some names
pub one_of_decides : (names : List (List ℕ)) (name : List ℕ) → Decides (is_one_of names name) (Contains names name)
one_of_decides names name = (
  λ e. let w = any_true (λ other. bytes_eq other name) names e in subst (Contains names) ((bytes_decides w.0 name).0 w.2) w.1,
  λ there. ⊎_elim (λ yes_one. yes_one) (λ none. absurd
      (false≢true (sym (any_false (λ other. bytes_eq other name) names none name there) ∙ (bytes_decides name name).1 refl)))
      (cases_Bool (is_one_of names name)),
)

-- ---- the first name that stands twice

abbrev IsTwiceAt : List (List ℕ) → ℕ → Type 0
IsTwiceAt all k = (k < length all) × HoldsAt (λ name. Contains (take k all) name) all k

-- what the search for it tells
abbrev TwiceTold : List (List ℕ) → Option ℕ → Type 0
TwiceTold all r = MatchOption r ((k : ℕ) → IsTwiceAt all k → ⊥) (λ k. IsTwiceAt all k × ((j : ℕ) → j < k → IsTwiceAt all j → ⊥))

twice_step : (all : List (List ℕ)) (i : ℕ) (before names : List (List ℕ)) (name : List ℕ) (lt : i < length all) → get_or all i name ≡ name
    → ((x : List ℕ) → Contains before x ↔ Contains (take i all) x) → ((k : ℕ) → k < i → IsTwiceAt all k → ⊥)
    → (((x : List ℕ) → Contains (name ∷ before) x ↔ Contains (take (i + 1) all) x) → ((k : ℕ) → k < i + 1 → IsTwiceAt all k → ⊥)
    → TwiceTold all (first_twice (i + 1) (name ∷ before) names))
    → (b : Bool) → is_one_of before name ≡ b → TwiceTold all (cond b (Some i) (first_twice (i + 1) (name ∷ before) names))
twice_step all i before names name lt is same none later true e = (
  (lt, λ d. subst (Contains (take i all)) (sym is ∙ get_or_default all i name d lt) ((same name).0 ((one_of_decides before name).0 e))),
  none,
)
twice_step all i before names name lt is same none later false e = later
    (λ x. rw (take_more all i name lt, is) (
      λ h. ⊎_elim (λ here. subst (Contains (take i all ++ name ∷ [])) here (Contains-push (take i all) name))
          (λ old. Contains-append_left (take i all) (name ∷ []) x ((same x).0 old)) (first_or_later name before x h),
      λ h. ⊎_elim (λ old. has_later name before x ((same x).1 old)) (λ here. subst (Contains (name ∷ before)) here (has_first name before))
          (Contains-push_cases (take i all) name x h),
    ))
    (none_more (IsTwiceAt all) i none (λ twice. false≢true (sym e
    ∙ (one_of_decides before name).1 ((same name).1 (subst (Contains (take i all)) is (twice.1 name))))))

twice_means : (all : List (List ℕ)) (i : ℕ) (before names : List (List ℕ)) → drop i all ≡ names → i ≤ length all
    → ((x : List ℕ) → Contains before x ↔ Contains (take i all) x) → ((k : ℕ) → k < i → IsTwiceAt all k → ⊥)
    → TwiceTold all (first_twice i before names)
twice_means all i before [] rest le same none = λ k twice. none k (omega (arith, twice.0, ap length rest, length-drop i all)) twice
twice_means all i before (name ∷ names) rest le same none =
    let lt : i < length all = omega (arith, ap length rest, length-drop i all) in
    let parts : name ∷ names ≡ get_or all i name ∷ drop (suc i) all = sym rest ∙ drop-cons all i name lt in
    let head : get_or all i name ≡ name = cc in
    let tail : drop (i + 1) all ≡ names = ap (λ n. drop n all) (add-one i) ∙ (let e : drop (suc i) all ≡ names = cc in e) in
    twice_step all i before names name lt head same none (twice_means all (i + 1) (name ∷ before) names tail (omega (arith, lt)))
    (is_one_of before name) refl

-- a place of the names is one of the entries
module _ (entries : List TargetEntry) (k : ℕ) where
  to_entries : IsTwiceAt (names_of entries) k → IsTwice entries k
  to_entries twice =
      let lt : k < length entries = omega (arith, twice.0, length-map entries (λ (e : TargetEntry). e.name)) in (
        lt,
        λ d. subst (Contains (take k (names_of entries))) (get_or-map (λ (e : TargetEntry). e.name) entries k d d.name lt)
            (twice.1 d.name),
      )

  to_names : IsTwice entries k → IsTwiceAt (names_of entries) k
  to_names twice = (
    omega (arith, twice.0, length-map entries (λ (e : TargetEntry). e.name)),
    λ n.
        let d : TargetEntry = record { name = n; parents = [] } in
        subst (Contains (take k (names_of entries))) (sym (get_or-map (λ (e : TargetEntry). e.name) entries k d n twice.0)) (twice.1 d),
  )

-- ---- the first unknown parent, and an entry that is its own ancestor

module _ (entries : List TargetEntry) where
  abbrev lacks_parent : TargetEntry → Bool
  lacks_parent entry = not (list_all (is_one_of (names_of entries)) entry.parents)

  lacking : (e : TargetEntry) → lacks_parent e ≡ true → (parent : List ℕ) × Contains e.parents parent
      × (Contains (names_of entries) parent → ⊥)
  lacking e t = let w = all_false (is_one_of (names_of entries)) e.parents (not-true _ t) in
      (w.0, w.1, λ there. false≢true (sym w.2 ∙ (one_of_decides (names_of entries) w.0).1 there))

  not_lacking : (e : TargetEntry) → lacks_parent e ≡ false → (parent : List ℕ) → Contains e.parents parent
      → Contains (names_of entries) parent
  not_lacking e f parent there = (one_of_decides (names_of entries) parent).0
      (all_true (is_one_of (names_of entries)) e.parents (not-false _ f) parent there)

  known_at : (k : ℕ) → ((d : TargetEntry) → lacks_parent (get_or entries k d) ≡ false) → IsUnknown entries k → ⊥
  known_at k known unknown =
      let d : TargetEntry = record { name = []; parents = [] } in
      let w = unknown.1 d in w.2 (not_lacking (get_or entries k d) (known d) w.0 w.1)

  is_acyclic : is_cyclic entries ≡ false → IsAcyclic (HasArc (parent_arcs entries))
  is_acyclic e name path =
      false≢true (sym (any_false (λ n. reaches bytes_eq (parent_arcs entries) n n) (names_of entries) e name
      (from_name entries name name path))
      ∙ (reaches_decides bytes_eq bytes_decides (parent_arcs entries) name name).1 path)

  a_cycle : is_cyclic entries ≡ true → (name : List ℕ) × HasAncestor entries name name
  a_cycle e = let w = any_true (λ n. reaches bytes_eq (parent_arcs entries) n n) (names_of entries) e in
      (w.0, (reaches_decides bytes_eq bytes_decides (parent_arcs entries) w.0 w.0).0 w.2)

  -- ---- the fault

  -- what is computed is the fault that there is, or none
  pub fault_means : MatchOption (fault_of entries) (AreTargets entries) (IsTargetFault entries)
  fault_means = fault_means-cases (first_twice 0 [] (names_of entries))
      (twice_means (names_of entries) 0 [] (names_of entries) refl (omega arith) (λ x. (λ h. h, λ h. h))
      (λ k lt. absurd (omega (arith, lt))))
      (first_unknown_parent entries) (position_means lacks_parent entries) (is_cyclic entries) refl
    where
      UnknownTold : Option ℕ → Type 0
      UnknownTold r = MatchOption r ((k : ℕ) (d : TargetEntry) → k < length entries → lacks_parent (get_or entries k d) ≡ false)
          (λ i. (i < length entries) × ((d : TargetEntry) → lacks_parent (get_or entries i d) ≡ true)
          × ((k : ℕ) (d : TargetEntry) → k < i → lacks_parent (get_or entries k d) ≡ false))

      fault_means-cases : (r : Option ℕ) → TwiceTold (names_of entries) r → (u : Option ℕ) → UnknownTold u → (b : Bool)
          → is_cyclic entries ≡ b
          → MatchOption (first_target_fault r u b) (AreTargets entries) (IsTargetFault entries)
      fault_means-cases (Some i) told u unknown b e = (to_entries entries i told.0, λ k lt twice. told.1 k lt (to_names entries k twice))
      fault_means-cases None told (Some i) unknown b e = (
        λ k twice. told k (to_names entries k twice),
        ((unknown.0, λ d. lacking (get_or entries i d) (unknown.1 d)), λ k lt. known_at k (λ d. unknown.2 k d lt)),
      )
      fault_means-cases None told None unknown true e =
          (λ k twice. told k (to_names entries k twice), (λ k h. known_at k (λ d. unknown k d h.0) h), a_cycle e)
      fault_means-cases None told None unknown false e = record {
        once = λ k twice. told k (to_names entries k twice);
        known =
            λ k h. known_at k (λ d. unknown k d h.0) h;
        acyclic = is_acyclic e;
      }

  -- ---- there is one at most, memory apart

  one_first : (P : List TargetEntry → ℕ → Type 0) (i j : ℕ) → IsFirst P entries i → IsFirst P entries j → i ≡ j
  one_first P i j a b = ⊎_elim (λ e. e) (λ apart. ⊎_elim (λ lt. absurd (b.1 i lt a.0)) (λ gt. absurd (a.1 j gt b.0)) apart)
      (cases_order i j)

  no_fault : (f : TargetFault) → AreTargets entries → IsTargetFault entries f → f ≡ OutOfMemory
  no_fault (TwiceNamed i) right is = absurd (right.once i is.0)
  no_fault (UnknownParent i) right is = absurd (right.known i is.1.0)
  no_fault CyclicTargets right is = absurd (right.acyclic is.2.0 is.2.1)
  no_fault OutOfMemory right is = refl

  same_fault : (f g : TargetFault) → IsTargetFault entries f → IsTargetFault entries g → (g ≡ OutOfMemory → ⊥) → (f ≡ OutOfMemory)
      ⊎ (Some g ≡ Some f)
  same_fault OutOfMemory g a b memory = inl refl
  same_fault f OutOfMemory a b memory = absurd (memory refl)
  same_fault (TwiceNamed i) (TwiceNamed j) a b memory = inr (ap (λ k. Some (TwiceNamed k)) (one_first IsTwice j i b a))
  same_fault (TwiceNamed i) (UnknownParent j) a b memory = absurd (b.0 i a.0)
  same_fault (TwiceNamed i) CyclicTargets a b memory = absurd (b.0 i a.0)
  same_fault (UnknownParent i) (TwiceNamed j) a b memory = absurd (a.0 j b.0)
  same_fault (UnknownParent i) (UnknownParent j) a b memory = inr (ap (λ k. Some (UnknownParent k)) (one_first IsUnknown j i b.1 a.1))
  same_fault (UnknownParent i) CyclicTargets a b memory = absurd (b.1 i a.1.0)
  same_fault CyclicTargets (TwiceNamed j) a b memory = absurd (a.0 j b.0)
  same_fault CyclicTargets (UnknownParent j) a b memory = absurd (a.1 j b.1.0)
  same_fault CyclicTargets CyclicTargets a b memory = inr refl

  -- each fault but want of memory is the one that is computed
  pub fault_is : (f : TargetFault) → IsTargetFault entries f → (f ≡ OutOfMemory) ⊎ (fault_of entries ≡ Some f)
  fault_is f is = fault_is-cases (first_twice 0 [] (names_of entries)) (first_unknown_parent entries) (is_cyclic entries) fault_means
    where
      fault_is-cases : (r u : Option ℕ) (b : Bool) → MatchOption (first_target_fault r u b) (AreTargets entries) (IsTargetFault entries)
          → (f ≡ OutOfMemory)
          ⊎ (first_target_fault r u b ≡ Some f)
      fault_is-cases (Some i) u b means = same_fault f (TwiceNamed i) is means (λ e. cc)
      fault_is-cases None (Some i) b means = same_fault f (UnknownParent i) is means (λ e. cc)
      fault_is-cases None None true means = same_fault f CyclicTargets is means (λ e. cc)
      fault_is-cases None None false means = inl (no_fault f means is)

  -- entries without a fault have none that is computed
  pub none_is : AreTargets entries → fault_of entries ≡ None
  none_is right = none_is-cases (first_twice 0 [] (names_of entries)) (first_unknown_parent entries) (is_cyclic entries) fault_means
    where
      none_is-cases : (r u : Option ℕ) (b : Bool) → MatchOption (first_target_fault r u b) (AreTargets entries) (IsTargetFault entries)
          → first_target_fault r u b ≡ None
      none_is-cases (Some i) u b means = let e : TwiceNamed i ≡ OutOfMemory = no_fault (TwiceNamed i) right means in absurd (cc)
      none_is-cases None (Some i) b means = let e : UnknownParent i ≡ OutOfMemory = no_fault (UnknownParent i) right means in absurd (cc)
      none_is-cases None None true means = let e : CyclicTargets ≡ OutOfMemory = no_fault CyclicTargets right means in absurd (cc)
      none_is-cases None None false means = refl
