-- What is computed: `spread` has just what paths lead to, so `reaches` tells of paths.
use Rattle.std.proofs.Common.{◌≡◌, refl, sym, ap, subst, ◌∙◌, ℕ, zero, suc, ◌<◌, ◌≤◌, Bool, true, false, not, List, [], ◌∷◌, length, Contains, ◌⊎◌, inl, inr, ⊎_elim, Decides, arith}
use Rattle.std.specs.List.{filter}
use Rattle.std.proofs.lemmas.Bool.{cases_Bool, false≢true}
use Rattle.std.proofs.lemmas.Bool.Decides.{Decides-or, Decides-like}
use Rattle.std.proofs.lemmas.List.{length-map}
use Rattle.std.proofs.lemmas.List.Elements.{All-contains, All-contains_itself, All-filter, filter_passes, Contains-append_left, Contains-append_right, Contains-append_cases}
use Rattle.std.proofs.lemmas.List.Filters.{length-filter_both}
use Rattle.reachability.specs.Paths.{Path, HasArc, among, heads_from, arcs_left, spread, reached, reaches}
use Rattle.reachability.proofs.CountLaws.{has_first, has_later, first_or_later, has_image, image_of}
use Rattle.reachability.proofs.PathLaws.{one_arc, arc_before, along, first_arc, carried}

module _ {X : Type 0} (p : X → Bool) where
  -- what is left is of the list and passes
  pub from_filter : (xs : List X) (x : X) → Contains (filter p xs) x → Contains xs x × (p x ≡ true)
  from_filter xs x there = (
    All-contains (Contains xs) (filter p xs) x (All-filter p (Contains xs) xs (All-contains_itself xs)) there,
    All-contains (λ y. p y ≡ true) (filter p xs) x (filter_passes p xs) there,
  )

  -- what is of the list and passes is left
  pub in_filter : (xs : List X) (x : X) → Contains xs x → p x ≡ true → Contains (filter p xs) x
  in_filter [] x there passes = absurd (omega (arith, there.1))
  in_filter (y ∷ ys) x there passes =
      elim (cases_Bool (p y)) [
        | inl is ↦ rw is (⊎_elim (λ e. subst (Contains (y ∷ filter p ys)) e (has_first y (filter p ys)))
            (λ later. has_later y (filter p ys) x (in_filter ys x later passes)) (first_or_later y ys x there))
        | inr not_it ↦
            rw not_it (⊎_elim (λ e. absurd (false≢true (sym not_it ∙ ap p e ∙ passes))) (λ later. in_filter ys x later passes)
            (first_or_later y ys x there))
      ]

module _ {K : Type 0} (same : K → K → Bool) (exact : (x y : K) → Decides (same x y) (x ≡ y)) where
  -- the test tells whether a key is one of the keys
  pub among_decides : (keys : List K) (key : K) → Decides (among same keys key) (Contains keys key)
  among_decides [] key = (λ e. absurd (false≢true e), λ there. absurd (omega (arith, there.1)))
  among_decides (x ∷ xs) key = Decides-like _
      (λ s. ⊎_elim (λ e. subst (Contains (x ∷ xs)) (sym e) (has_first x xs)) (λ later. has_later x xs key later) s)
      (λ there. ⊎_elim (λ e. inl (sym e)) (λ later. inr later) (first_or_later x xs key there))
      (Decides-or _ _ (exact key x) (among_decides xs key))

  -- ---- one round

  module _ (arcs : List (K × K)) (tails : List K) where
    abbrev Others : K → K → Type 0
    Others = HasArc (arcs_left same arcs tails)

    -- an arc from one of the keys leads to a head
    head : (p q : K) → Contains tails p → HasArc arcs p q → Contains (heads_from same arcs tails) q
    head p q there arc = has_image (λ a. a.1) (filter (λ a. among same tails a.0) arcs) (p, q)
        (in_filter (λ a. among same tails a.0) arcs (p, q) arc ((among_decides tails p).1 there))

    from_head : (q : K) → Contains (heads_from same arcs tails) q → (p : K) × Contains tails p × HasArc arcs p q
    from_head q there =
        let arc = image_of (λ (a : K × K). a.1) (filter (λ a. among same tails a.0) arcs) q there in
        let kept = from_filter (λ (a : K × K). among same tails a.0) arcs arc.0 arc.1 in
        (arc.0.0, (among_decides tails arc.0.0).0 kept.1, subst (λ x. HasArc arcs arc.0.0 x) arc.2 kept.0)

    other : (p q : K) → among same tails p ≡ false → HasArc arcs p q → Others p q
    other p q not_there arc = in_filter (λ a. not (among same tails a.0)) arcs (p, q) arc (rw not_there refl)

    from_other : (p q : K) → Others p q → HasArc arcs p q
    from_other p q arc = (from_filter (λ (a : K × K). not (among same tails a.0)) arcs (p, q) arc).0

    -- q is a head, or a path over the other arcs leads to it from one
    abbrev IsNext : K → Type 0
    IsNext q = Contains (heads_from same arcs tails) q ⊎ ((h : K) × Contains (heads_from same arcs tails) h × Path Others h q)

    -- so it is, or the key is none of these and the path begins over the other arcs
    abbrev Begins : K → K → Type 0
    Begins q x = IsNext q ⊎ ((among same tails x ≡ false) × Path Others x q)

    next : (p q : K) → Contains tails p → Path (HasArc arcs) p q → IsNext q
    next p q there path = ⊎_elim (λ is. is) (λ w. absurd (false≢true (sym w.0 ∙ (among_decides tails p).1 there)))
        (along (HasArc arcs) (Begins q) q begins_by_arc more p path)
      where
        begins_by_arc : (x : K) → HasArc arcs x q → Begins q x
        begins_by_arc x arc = ⊎_elim
            (λ here. inl (inl (head x q ((among_decides tails x).0 here) arc)))
            (λ elsewhere. inr (elsewhere, one_arc Others x q (other x q elsewhere arc)))
            (cases_Bool (among same tails x))

        more : (x y : K) → HasArc arcs x y → Begins q y → Begins q x
        more x y arc rest = ⊎_elim (λ is. inl is) (λ w. ⊎_elim
            (λ here. inl (inr (y, head x y ((among_decides tails x).0 here) arc, w.1)))
            (λ elsewhere. inr (elsewhere, arc_before Others x y q (other x y elsewhere arc) w.1))
            (cases_Bool (among same tails x))) rest

    -- a round with a head follows an arc
    fewer : (h : K) → Contains (heads_from same arcs tails) h → length (arcs_left same arcs tails) < length arcs
    fewer h there =
        omega (
          arith,
          there.1,
          length-map (filter (λ (a : K × K). among same tails a.0) arcs) (λ a. a.1),
          length-filter_both (λ (a : K × K). among same tails a.0) (λ a. not (among same tails a.0)) (λ _. refl) arcs,
        )

  -- ---- all rounds

  spread-from : (rounds : ℕ) (arcs : List (K × K)) (tails : List K) (q : K) → Contains (spread same rounds arcs tails) q → (p : K)
      × Contains tails p × Path (HasArc arcs) p q
  unfolding spread
  spread-from zero arcs tails q there = absurd (omega (arith, there.1))
  spread-from (suc rounds) arcs [] q there = absurd (omega (arith, there.1))
  spread-from (suc rounds) arcs (tail ∷ rest) q there =
      let tails = tail ∷ rest in
      let heads = heads_from same arcs tails in
      ⊎_elim
      (λ here. let w = from_head arcs tails q here in (w.0, w.1, one_arc (HasArc arcs) w.0 q w.2))
      (λ later.
      let behind = spread-from rounds (arcs_left same arcs tails) heads q later in
      let w = from_head arcs tails behind.0 behind.1 in
      let path = carried (HasArc (arcs_left same arcs tails)) (HasArc arcs) (λ x. x) (from_other arcs tails) behind.0 q behind.2 in
      (w.0, w.1, arc_before (HasArc arcs) w.0 behind.0 q w.2 path))
      (Contains-append_cases heads (spread same rounds (arcs_left same arcs tails) heads) q there)

  spread-has : (rounds : ℕ) (arcs : List (K × K)) (tails : List K) → length arcs ≤ rounds → (p q : K) → Contains tails p
      → Path (HasArc arcs) p q → Contains (spread same rounds arcs tails) q
  unfolding spread
  spread-has zero arcs tails le p q there path =
      absurd (⊎_elim (λ arc. omega (arith, le, arc.1)) (λ w. omega (arith, le, w.1.1)) (first_arc (HasArc arcs) p q path))
  spread-has (suc rounds) arcs [] le p q there path = absurd (omega (arith, there.1))
  spread-has (suc rounds) arcs (tail ∷ rest) le p q there path =
      let tails = tail ∷ rest in
      let heads = heads_from same arcs tails in
      ⊎_elim
      (λ here. Contains-append_left heads (spread same rounds (arcs_left same arcs tails) heads) q here)
      (λ w. Contains-append_right heads (spread same rounds (arcs_left same arcs tails) heads) q
      (spread-has rounds (arcs_left same arcs tails) heads (omega (arith, le, fewer arcs tails w.0 w.1)) w.0 q w.1 w.2))
      (next arcs tails p q there path)

  -- what is listed as reached ends a path
  pub reached_has : (arcs : List (K × K)) (p q : K) → Contains (reached same arcs p) q → Path (HasArc arcs) p q
  unfolding reached
  reached_has arcs p q there =
      let w = spread-from (length arcs) arcs (p ∷ []) q there in
      ⊎_elim (λ e. subst (λ x. Path (HasArc arcs) x q) (sym e) w.2) (λ none. absurd (omega (arith, none.1))) (first_or_later p [] w.0 w.1)

  -- what ends a path is listed as reached
  pub has_reached : (arcs : List (K × K)) (p q : K) → Path (HasArc arcs) p q → Contains (reached same arcs p) q
  unfolding reached
  has_reached arcs p q path = spread-has (length arcs) arcs (p ∷ []) (omega arith) p q (has_first p []) path

  -- the test tells whether there is a path
  pub reaches_decides : (arcs : List (K × K)) (p q : K) → Decides (reaches same arcs p q) (Path (HasArc arcs) p q)
  unfolding reaches
  reaches_decides arcs p q = Decides-like _ (reached_has arcs p q) (has_reached arcs p q) (among_decides (reached same arcs p) q)
