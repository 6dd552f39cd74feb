-- Lists of heads, one arc after another, and arcs between keys that are numbered.
use Rattle.std.proofs.Common.{◌≡◌, sym, ap, subst, ◌∙◌, ℕ, ◌<◌, List, [], ◌∷◌, ◌++◌, length, get_or, set, replicate, All, Contains, ◌↔◌, ⊎_elim, arith}
use Rattle.std.specs.List.{AllZip}
use Rattle.std.proofs.lemmas.Bool.{cases_eq, cases_lt}
use Rattle.std.proofs.lemmas.List.{length-set, get_or-set_same, get_or-set_other, get_or_past, get_or-replicate, get_or_default, length-replicate}
use Rattle.std.proofs.lemmas.List.Elements.{All-contains, Contains-get_or, Contains-append_left, Contains-push, Contains-push_cases}
use Rattle.reachability.specs.Paths.{Path, HasArc}
use Rattle.reachability.specs.Places.{LeadsTo, AreWithin, AreHeads, IsMarked, MarksReached, IsAt, AreOnce, AreNumbered}
use Rattle.reachability.proofs.CountLaws.{has_first, has_later, first_or_later}
use Rattle.reachability.proofs.PathLaws.{one_arc, arc_before, along, carried}

-- ---- heads

-- without arcs no place has a head
pub no_heads : (n : ℕ) → AreHeads n [] (replicate n [])
no_heads n = record {
  each = length-replicate n [];
  same = λ p q. (λ leads. absurd (omega (arith, (rw (empty n p) at leads).1)), λ arc. absurd (omega (arith, arc.1)));
}
  where
    empty : (n p : ℕ) → get_or (replicate n []) p [] ≡ let none : List ℕ = [] in none
    empty n p = ⊎_elim (λ lt. get_or-replicate n p [] [] lt)
        (λ le. get_or_past (replicate n []) p [] (omega (arith, le, length-replicate {A = List ℕ} n []))) (cases_lt p n)

-- one arc more is one head more of its tail
pub one_more_arc : (n : ℕ) (arcs : List (ℕ × ℕ)) (heads : List (List ℕ)) (a b : ℕ) → a < n → AreHeads n arcs heads
    → AreHeads n (arcs ++ (a, b) ∷ []) (set heads a (get_or heads a [] ++ b ∷ []))
one_more_arc n arcs heads a b lt are = record {
  each = length-set heads a (get_or heads a [] ++ b ∷ []) ∙ are.each;
  same = λ p q. ⊎_elim
      (λ e.
      let at : get_or (set heads a (get_or heads a [] ++ b ∷ [])) p [] ≡ get_or heads a [] ++ b ∷ [] =
      rw e (get_or-set_same heads a (get_or heads a [] ++ b ∷ []) [] (omega (arith, lt, are.each))) in (
        λ leads. ⊎_elim
            (λ old. Contains-append_left arcs ((a, b) ∷ []) (p, q) ((are.same p q).0 (subst (λ x. LeadsTo heads x q) (sym e) old)))
            (λ is. subst (Contains (arcs ++ (a, b) ∷ [])) (λ i. (sym e i, is i)) (Contains-push arcs (a, b)))
            (Contains-push_cases (get_or heads a []) b q (rw at at leads)),
        λ arc. rw at (⊎_elim
            (λ old. Contains-append_left (get_or heads a []) (b ∷ []) q (subst (λ x. LeadsTo heads x q) e ((are.same p q).1 old)))
            (λ is. subst (Contains (get_or heads a [] ++ b ∷ [])) (ap (λ x. x.1) is) (Contains-push (get_or heads a []) b))
            (Contains-push_cases arcs (a, b) (p, q) arc)),
      ))
      (λ other.
      let at = get_or-set_other heads a p (get_or heads a [] ++ b ∷ []) [] other in (
        λ leads. Contains-append_left arcs ((a, b) ∷ []) (p, q) ((are.same p q).0 (subst (λ l. Contains l q) at leads)),
        λ arc. subst (λ l. Contains l q) (sym at) (⊎_elim (λ old. (are.same p q).1 old) (λ is. absurd (other (sym (ap (λ x. x.0) is))))
            (Contains-push_cases arcs (a, b) (p, q) arc)),
      ))
      (cases_eq p a);
}

-- heads are places where the ends of all arcs are
pub heads_within : (n : ℕ) (arcs : List (ℕ × ℕ)) (heads : List (List ℕ)) → All (λ arc. (arc.0 < n) × (arc.1 < n)) arcs
    → AreHeads n arcs heads → AreWithin heads
heads_within n arcs heads within are k d lt j e in_list =
    let leads : LeadsTo heads k (get_or (get_or heads k d) j e) =
    subst (λ l. Contains l (get_or (get_or heads k d) j e)) (get_or_default heads k d [] lt)
    (Contains-get_or (get_or heads k d) j e in_list) in
    omega (arith, (All-contains (λ arc. (arc.0 < n) × (arc.1 < n)) arcs _ within ((are.same k _).0 leads)).1, are.each)

-- ---- keys and places

module _ {A B : Type 0} (R : A → B → Type 0) where
  -- each element of the first list stands beside one of the second
  pub zip_to : (xs : List A) (ys : List B) → AllZip R xs ys → (x : A) → Contains xs x → (y : B) × R x y × Contains ys y
  zip_to [] ys all x there = absurd (omega (arith, there.1))
  zip_to (z ∷ zs) [] all x there = elim all [ ]
  zip_to (z ∷ zs) (y ∷ ys) all x there = ⊎_elim
      (λ e. (y, subst (λ u. R u y) e all.0, has_first y ys))
      (λ later. let rest = zip_to zs ys all.1 x later in (rest.0, rest.1, has_later y ys rest.0 rest.2))
      (first_or_later z zs x there)

  -- each element of the second list stands beside one of the first
  pub zip_from : (xs : List A) (ys : List B) → AllZip R xs ys → (y : B) → Contains ys y → (x : A) × R x y × Contains xs x
  zip_from xs [] all y there = absurd (omega (arith, there.1))
  zip_from [] (z ∷ zs) all y there = elim all [ ]
  zip_from (x ∷ xs) (z ∷ zs) all y there = ⊎_elim
      (λ e. (x, subst (λ u. R x u) e all.0, has_first x xs))
      (λ later. let rest = zip_from xs zs all.1 y later in (rest.0, rest.1, has_later x xs rest.0 rest.2))
      (first_or_later z zs y there)

  -- lists that stand beside each other do so with one pair more
  pub zip_push : (xs : List A) (ys : List B) (x : A) (y : B) → AllZip R xs ys → R x y → AllZip R (xs ++ x ∷ []) (ys ++ y ∷ [])
  zip_push [] [] x y all r = (r, tt)
  zip_push [] (z ∷ zs) x y all r = elim all [ ]
  zip_push (z ∷ zs) [] x y all r = elim all [ ]
  zip_push (w ∷ ws) (z ∷ zs) x y all r = (all.0, zip_push ws zs x y all.1 r)

-- a path goes over to what stands for its keys, where each key has one that stands for it
carried_by : {K L : Type 0} (Joins : K → K → Type 0) (Others : L → L → Type 0) (Stands : K → L → Type 0)
    → ((p : K) (a b : L) → Stands p a → Stands p b → a ≡ b)
    → ((p q : K) → Joins p q → (a : L) × (b : L) × Stands p a × Stands q b × Others a b) → (p q : K) (b : L) → Stands q b → Path Joins p q
    → (a : L) → Stands p a → Path Others a b
carried_by Joins Others Stands one arcs p q b to path = along Joins (λ x. (a : _) → Stands x a → Path Others a b) q
    (λ x arc a at. let w = arcs x q arc in
    one_arc Others a b (subst (λ y. Others a y) (one q _ _ w.3 to) (subst (λ y. Others y w.1) (one x _ _ w.2 at) w.4)))
    (λ x y arc rest a at. let w = arcs x y arc in
    arc_before Others a w.1 b (subst (λ z. Others z w.1) (one x _ _ w.2 at) w.4) (rest w.1 w.3)) p path

module _ {K : Type 0} (keys : List K) (arcs : List (K × K)) (numbers : List (ℕ × ℕ)) (numbered : AreNumbered keys arcs numbers) where
  one_key : (i : ℕ) (p q : K) → IsAt keys p i → IsAt keys q i → p ≡ q
  one_key i p q a b = sym a.1 ∙ get_or_default keys i p q a.0 ∙ b.1

  -- the numbers of arcs are places of keys
  pub numbers_within : All (λ number. (number.0 < length keys) × (number.1 < length keys)) numbers
  numbers_within k d lt = let w = zip_from _ arcs numbers numbered (get_or numbers k d) (Contains-get_or numbers k d lt) in
      (w.1.0.0, w.1.1.0)

  -- paths between places are the paths between their keys
  pub number_path : AreOnce keys → (p q : K) (i j : ℕ) → IsAt keys p i → IsAt keys q j → Path (HasArc numbers) i j ↔ Path (HasArc arcs) p q
  number_path once p q i j at_i at_j = (
    λ path. carried_by (HasArc numbers) (HasArc arcs) (λ i p. IsAt keys p i) one_key
        (λ x y arc. let w = zip_from _ arcs numbers numbered (x, y) arc in (w.0.0, w.0.1, w.1.0, w.1.1, w.2)) i j q at_j path p at_i,
    λ path. carried_by (HasArc arcs) (HasArc numbers) (λ p i. IsAt keys p i) once
        (λ x y arc. let w = zip_to _ arcs numbers numbered (x, y) arc in (w.0.0, w.0.1, w.1.0, w.1.1, w.2)) p q j at_j path i at_i,
  )

-- a search over numbered arcs tells of paths between keys
pub told_by_marks : {K : Type 0} (keys : List K) (arcs : List (K × K)) (numbers : List (ℕ × ℕ)) (heads : List (List ℕ)) (marks : _)
    → AreNumbered keys arcs numbers → AreHeads (length keys) numbers heads → AreOnce keys
    → (p q : K) (i j : ℕ) → IsAt keys p i → IsAt keys q j → MarksReached heads i marks → IsMarked marks j ↔ Path (HasArc arcs) p q
told_by_marks keys arcs numbers heads marks numbered are once p q i j at_i at_j told =
    let over = number_path keys arcs numbers numbered once p q i j at_i at_j in (
      λ marked. over.0 (carried (LeadsTo heads) (HasArc numbers) (λ x. x) (λ x y. (are.same x y).0) i j ((told.reached j).0 marked)),
      λ path. (told.reached j).1 (carried (HasArc numbers) (LeadsTo heads) (λ x. x) (λ x y. (are.same x y).1) i j (over.1 path)),
    )
