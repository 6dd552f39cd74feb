-- A finite list of arcs: what `reaches` tells, and levels that rise along each arc where there is no cycle.
use Rattle.std.proofs.Common.{◌≡◌, refl, sym, ap, subst, ◌∙◌, ℕ, ◌<◌, ◌≤◌, Bool, true, false, List, [], ◌∷◌, length, map, Contains, ◌⊎◌, inl, inr, ⊎_elim, Decides, arith}
use Rattle.std.proofs.lemmas.Bool.{cases_Bool, false≢true, false_from_ne_true}
use Rattle.std.proofs.lemmas.List.{length-map}
use Rattle.std.proofs.lemmas.List.Sums.{count_by-le-length}
use Rattle.reachability.specs.Paths.{Path, IsAcyclic, HasArc, reaches, level}
use Rattle.reachability.proofs.SpreadLaws.{reaches_decides}
use Rattle.reachability.proofs.CountLaws.{has_first, has_later, first_or_later, has_image, count_less, least}
use Rattle.reachability.proofs.PathLaws.{one_arc, two_paths, back_to_root, only_paths}

module _ {K : Type 0} (same : K → K → Bool) (exact : (x y : K) → Decides (same x y) (x ≡ y)) where
  -- whether an arc leads to p
  arc_into : (arcs : List (K × K)) (p : K) → ((r : K) → HasArc arcs r p → ⊥) ⊎ ((r : K) × HasArc arcs r p)
  arc_into [] p = inl (λ r arc. omega (arith, arc.1))
  arc_into (arc ∷ arcs) p = ⊎_elim
      (λ none. ⊎_elim
      (λ (here : same arc.1 p ≡ true). inr (arc.0, subst (λ x. HasArc (arc ∷ arcs) arc.0 x) ((exact arc.1 p).0 here) (has_first arc arcs)))
      (λ (other : same arc.1 p ≡ false). inl (λ r there. ⊎_elim
      (λ e. false≢true (sym other ∙ (exact arc.1 p).1 (ap (λ a. a.1) e)))
      (λ later. none r later) (first_or_later arc arcs (r, p) there)))
      (cases_Bool (same arc.1 p)))
      (λ w. inr (w.0, has_later arc arcs (w.0, p) w.1)) (arc_into arcs p)

  -- ---- levels

  module _ (arcs : List (K × K)) (acyclic : IsAcyclic (HasArc arcs)) where
    not_itself : (p : K) → reaches same arcs p p ≡ false
    not_itself p = false_from_ne_true _ (λ e. acyclic p ((reaches_decides same exact arcs p p).0 e))

    -- levels rise along each arc
    pub level_rises : (keys : List K) (p q : K) → Contains keys p → HasArc arcs p q → level same arcs keys p < level same arcs keys q
    level_rises keys p q there arc = count_less (λ k. reaches same arcs k p) (λ k. reaches same arcs k q)
        (λ k e. (reaches_decides same exact arcs k q).1
        (two_paths (HasArc arcs) k p q ((reaches_decides same exact arcs k p).0 e) (one_arc (HasArc arcs) p q arc)))
        keys p there (not_itself p) ((reaches_decides same exact arcs p q).1 (one_arc (HasArc arcs) p q arc))

    -- a level is below the number of keys
    pub level_below : (keys : List K) (p : K) → Contains keys p → level same arcs keys p < length keys
    level_below keys p there =
        let less = count_less (λ k. reaches same arcs k p) (λ k. true) (λ k e. refl) keys p there (not_itself p) refl in
        omega (arith, less, count_by-le-length (λ k. true) keys)

    -- ---- the level among the keys that arcs begin at

    height : K → ℕ
    height = level same arcs (map (λ a. a.0) arcs)

    height_rises : (p q : K) → HasArc arcs p q → height p < height q
    unfolding height
    height_rises p q arc = level_rises (map (λ a. a.0) arcs) p q (has_image (λ a. a.0) arcs (p, q) arc) arc

    height_le : (p : K) → height p ≤ length arcs
    unfolding height
    height_le p = omega (arith, count_by-le-length (λ k. reaches same arcs k p) (map (λ a. a.0) arcs), length-map arcs (λ a. a.0))

    -- where each key is a root or has an arc into it, it is a root or ends a path from one
    pub begins_at_root : (In Root : K → Type 0) → ((p : K) → In p → Root p ⊎ ((r : K) × In r × HasArc arcs r p)) → (p : K) → In p → Root p
        ⊎ ((r : K) × In r × Root r × Path (HasArc arcs) r p)
    begins_at_root = back_to_root (HasArc arcs) height height_rises

    -- a test that asks for an arc to `q`, or for one to a key that passes, is passed only where a path to `q` begins
    pub told_by_path : (Told : K → Type 0) (q : K) → ((p : K) → Told p → HasArc arcs p q ⊎ ((r : K) × HasArc arcs p r × Told r)) → (p : K)
        → Told p → Path (HasArc arcs) p q
    told_by_path Told q = only_paths (HasArc arcs) height height_rises Told q (length arcs) height_le

    -- some key has no arc into it from one of the keys
    pub a_first : (key : K) (keys : List K) → (p : K) × Contains (key ∷ keys) p × ((r : K) → Contains (key ∷ keys) r → HasArc arcs r p → ⊥)
    a_first key keys =
        let low = least height key keys in
        (low.0, low.1, λ r there arc. omega (arith, low.2 r there, height_rises r low.0 arc))

    -- a key with an arc into it ends a path from a key without one
    pub from_source : (p r : K) → HasArc arcs r p → (s : K) × Path (HasArc arcs) s p × ((x : K) → HasArc arcs x s → ⊥)
    from_source p r arc = ⊎_elim (λ none. absurd (none r arc)) (λ w. (w.0, w.3, w.2))
        (begins_at_root (λ x. Unit {0}) (λ x. (y : K) → HasArc arcs y x → ⊥)
        (λ x _. ⊎_elim (λ none. inl none) (λ w. inr (w.0, tt, w.1)) (arc_into arcs x)) p tt)
