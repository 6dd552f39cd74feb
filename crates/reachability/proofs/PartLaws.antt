-- Strong components: keys from which paths lead both ways, and ranks inside of them.
use Rattle.std.proofs.Common.{◌≡◌, sym, subst, ◌<◌, Bool, true, false, ◌&&◌, List, Contains, ◌⊎◌, inl, inr, ⊎_elim, Decides, arith}
use Rattle.std.proofs.lemmas.Bool.{and_parts, and_from, and_right, false_from_ne_true}
use Rattle.std.proofs.lemmas.Bool.Decides.{Decides-or, Decides-and}
use Rattle.reachability.specs.Paths.{Path, IsAcyclic, HasArc, reaches, joined, members, rank}
use Rattle.reachability.proofs.CountLaws.{count_le, count_less}
use Rattle.reachability.proofs.PathLaws.{one_arc, two_paths}
use Rattle.reachability.proofs.SpreadLaws.{reaches_decides}

-- one key, or two with paths both ways
abbrev pub AreTogether : {K : Type 0} → (K → K → Type 0) → K → K → Type 0
AreTogether Joins p q = (p ≡ q) ⊎ (Path Joins p q × Path Joins q p)

module _ {K : Type 0} (Joins : K → K → Type 0) where
  together_back : (p q : K) → AreTogether Joins p q → AreTogether Joins q p
  together_back p q both = ⊎_elim (λ e. inl (sym e)) (λ w. inr (w.1, w.0)) both

  together_on : (p r q : K) → AreTogether Joins p r → AreTogether Joins r q → AreTogether Joins p q
  together_on p r q front back = ⊎_elim
      (λ e. subst (λ x. AreTogether Joins x q) (sym e) back)
      (λ w. ⊎_elim (λ e. subst (AreTogether Joins p) e (inr w)) (λ v. inr (two_paths Joins p r q w.0 v.0, two_paths Joins q r p v.1 w.1))
      back)
      front

module _ {K : Type 0} (same : K → K → Bool) (exact : (x y : K) → Decides (same x y) (x ≡ y)) where
  -- the test tells whether two keys are one, or have paths both ways
  pub joined_decides : (arcs : List (K × K)) (p q : K) → Decides (joined same arcs p q) (AreTogether (HasArc arcs) p q)
  unfolding joined
  joined_decides arcs p q = Decides-or _ _ (exact p q)
      (Decides-and _ _ (reaches_decides same exact arcs p q) (reaches_decides same exact arcs q p))

  module _ (arcs : List (K × K)) where
    joined_on : (p r q : K) → joined same arcs p r ≡ true → joined same arcs r q ≡ true → joined same arcs p q ≡ true
    joined_on p r q front back = (joined_decides arcs p q).1
        (together_on (HasArc arcs) p r q ((joined_decides arcs p r).0 front) ((joined_decides arcs r q).0 back))

    joined_back : (p q : K) → joined same arcs p q ≡ true → joined same arcs q p ≡ true
    joined_back p q both = (joined_decides arcs q p).1 (together_back (HasArc arcs) p q ((joined_decides arcs p q).0 both))

    -- keys of one component have as many members
    pub members_alike : (keys : List K) (p q : K) → joined same arcs p q ≡ true → members same arcs keys p ≡ members same arcs keys q
    members_alike keys p q both =
        let up = count_le (λ k. joined same arcs k p) (λ k. joined same arcs k q) (λ k e. joined_on k p q e both) keys in
        let down = count_le (λ k. joined same arcs k q) (λ k. joined same arcs k p)
        (λ k e. joined_on k q p e (joined_back p q both)) keys in
        omega (arith, up, down)

  module _ (possible chosen : List (K × K)) (acyclic : IsAcyclic (HasArc chosen)) where
    -- it is joined to q by the possible arcs, and reaches it over the chosen ones
    abbrev IsBefore : K → K → Bool
    IsBefore q k = joined same possible k q && reaches same chosen k q

    not_itself : (p : K) → IsBefore p p ≡ false
    not_itself p = and_right (joined same possible p p) (reaches same chosen p p)
        (false_from_ne_true _ (λ e. acyclic p ((reaches_decides same exact chosen p p).0 e)))

    -- ranks rise along a chosen arc with a way back
    pub rank_rises : (keys : List K) (p q : K) → Contains keys p → HasArc chosen p q → joined same possible p q ≡ true
        → rank same possible chosen keys p < rank same possible chosen keys q
    rank_rises keys p q there arc both =
        let last : Path (HasArc chosen) p q = one_arc (HasArc chosen) p q arc in
        count_less (IsBefore p) (IsBefore q)
        (λ k e.
        let parts = and_parts (joined same possible k p) (reaches same chosen k p) e in
        and_from (joined same possible k q) (reaches same chosen k q) (joined_on possible k p q parts.0 both)
        ((reaches_decides same exact chosen k q).1
        (two_paths (HasArc chosen) k p q ((reaches_decides same exact chosen k p).0 parts.1) last)))
        keys p there (not_itself p) (and_from (joined same possible p q) (reaches same chosen p q) both
        ((reaches_decides same exact chosen p q).1 last))

    -- a rank is below the number of the component's members
    pub rank_below : (keys : List K) (q : K) → Contains keys q → rank same possible chosen keys q < members same possible keys q
    rank_below keys q there =
        count_less (IsBefore q) (λ k. joined same possible k q)
        (λ k e. (and_parts (joined same possible k q) (reaches same chosen k q) e).0)
        keys q there (not_itself q) ((joined_decides possible q q).1 (inl (λ i. q)))
