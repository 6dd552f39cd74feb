-- Look-ups in lists in order: after one more element, and in lists that answer alike.
use Rattle.std.proofs.Common.{◌≡◌, refl, sym, ap, subst, ◌∙◌, Bool, true, false, cond, Option, Some, None, List, [], ◌∷◌, map, Contains, ◌⊎◌, inl, inr, ⊎_elim, ◌↔◌}
use Rattle.std.specs.List.Sorted.{IsStrictlySortedBy}
use Rattle.std.specs.Ordering.{match_ordering, is_eq, eq_by_cmp}
use Rattle.std.specs.declared.cmp.Ordering.{Ordering}
use Rattle.std.specs.declared.cmp.Ordering.TheVariants.{Less, Equal, Greater}
use Rattle.std.specs.Cmp.{IsTotalOrder, tied_itself}
use Rattle.std.specs.FinMap.{IsAntisymmetric}
use Rattle.std.proofs.lemmas.Option.{none-some}
use Rattle.std.proofs.lemmas.List.Elements.{All-contains, All-from_recursion}
use Rattle.reachability.proofs.CountLaws.{has_first, has_later, first_or_later, has_image}
use Rattle.keyed_lists.specs.Keyed.{IsInOrder, find_key, with_one}
use Rattle.keyed_lists.proofs.KeyedLaws.{find_some, find_none}

module _ {X K : Type 0} {R : K → K → Ordering} (o : IsTotalOrder R) (exact : IsAntisymmetric R) (key : X → K) where
  -- what is found is there, with the key
  pub find_sound : (xs : List X) (k : K) (x : X) → find_key R key xs k ≡ Some x → Contains xs x × (key x ≡ k)
  find_sound [] k x e = absurd (none-some x e)
  find_sound (y ∷ ys) k x e = sound_by_order (R (key y) k) refl e (find_sound ys k x)
    where
      sound_by_order : (r : Ordering) → R (key y) k ≡ r → cond (is_eq r) (Some y) (find_key R key ys k) ≡ Some x
          → (find_key R key ys k ≡ Some x → Contains ys x × (key x ≡ k)) → Contains (y ∷ ys) x × (key x ≡ k)
      sound_by_order Less is found rest = (has_later y ys x (rest found).0, (rest found).1)
      sound_by_order Equal is found rest =
          let same : y ≡ x = cc in
          (subst (Contains (y ∷ ys)) same (has_first y ys), ap key (sym same) ∙ exact (key y) k is)
      sound_by_order Greater is found rest = (has_later y ys x (rest found).0, (rest found).1)

  -- what is found at a key is the element with it, and no other
  pub found_iff : (xs : List X) (k : K) (x : X) → IsInOrder R key xs → (find_key R key xs k ≡ Some x) ↔ (Contains xs x × (key x ≡ k))
  found_iff xs k x ordered = (find_sound xs k x, λ h. find_some o exact key xs k x ordered h.0 (ap (λ u. R u k) h.1 ∙ tied_itself o k))

  -- ---- one more element

  either_first : (a b : Bool) (x y : X) (r : Option X) → (a ≡ true → b ≡ true → ⊥)
      → cond a (Some x) (cond b (Some y) r) ≡ cond b (Some y) (cond a (Some x) r)
  either_first true true x y r apart = absurd (apart refl refl)
  either_first true false x y r apart = refl
  either_first false b x y r apart = refl

  is_tie : (r : Ordering) → is_eq r ≡ true → r ≡ Equal
  is_tie Less e = absurd (cc)
  is_tie Equal e = refl
  is_tie Greater e = absurd (cc)

  later_none : (y : X) (r : Option X) (b : Bool) → cond b (Some y) r ≡ None → r ≡ None
  later_none y r true e = absurd (none-some y (sym e))
  later_none y r false e = e

  -- with one element more its key finds it, and each other key what it found before
  pub find-with_one : (xs : List X) (x : X) (k : K) → find_key R key xs (key x) ≡ None
      → find_key R key (with_one R key xs x) k ≡ cond (eq_by_cmp R (key x) k) (Some x) (find_key R key xs k)
  find-with_one [] x k none = refl
  find-with_one (y ∷ ys) x k none =
      (elim (R (key x) (key y)) as (λ r. R (key x) (key y) ≡ r
      → (find_key R key ys (key x) ≡ None → find_key R key (with_one R key ys x) k ≡ cond (eq_by_cmp R (key x) k) (Some x)
      (find_key R key ys k)) → find_key R key (match_ordering r (x ∷ y ∷ ys) (y ∷ ys) (y ∷ with_one R key ys x)) k
      ≡ cond (eq_by_cmp R (key x) k) (Some x) (find_key R key (y ∷ ys) k)) [
        | Less ↦ λ e rest. refl
        | Equal ↦ λ e rest. absurd (none-some y (sym none ∙ found e))
        | Greater ↦ λ e rest. ap (λ r. cond (eq_by_cmp R (key y) k) (Some y) r) (rest passed)
            ∙ either_first (eq_by_cmp R (key y) k) (eq_by_cmp R (key x) k) y x (find_key R key ys k) (λ a b.
            let same : key x ≡ key y = exact (key x) k (is_tie _ b) ∙ sym (exact (key y) k (is_tie _ a)) in
            let both : Greater ≡ Equal = sym e ∙ ap (R (key x)) (sym same) ∙ tied_itself o (key x) in cc)
      ]) refl (find-with_one ys x k)
    where
      same_key : R (key x) (key y) ≡ Equal → R (key y) (key x) ≡ Equal
      same_key e = ap (R (key y)) (exact (key x) (key y) e) ∙ tied_itself o (key y)

      found : R (key x) (key y) ≡ Equal → find_key R key (y ∷ ys) (key x) ≡ Some y
      found e = rw (same_key e) refl

      passed : find_key R key ys (key x) ≡ None
      passed = later_none y (find_key R key ys (key x)) (eq_by_cmp R (key y) (key x)) none

  -- ---- lists that answer alike

  head_found : (x : X) (xs : List X) → find_key R key (x ∷ xs) (key x) ≡ Some x
  head_found x xs = rw (tied_itself o (key x)) refl

  above : (x y : X) (xs : List X) → IsInOrder R key (x ∷ xs) → Contains xs y → R (key x) (key y) ≡ Less
  unfolding IsStrictlySortedBy
  above x y xs ordered there = All-contains (λ u. R (key x) u ≡ Less) (map key xs) (key y) (All-from_recursion _ (map key xs) ordered.0)
      (has_image key xs y there)

  rest_in_order : (x : X) (xs : List X) → IsInOrder R key (x ∷ xs) → IsInOrder R key xs
  unfolding IsStrictlySortedBy
  rest_in_order x xs ordered = ordered.1

  not_less : (k : K) → R k k ≡ Less → ⊥
  not_less k e = let both : Less ≡ Equal = sym e ∙ tied_itself o k in cc

  -- behind an element its key is not found again
  not_again : (x : X) (xs : List X) (k : K) → IsInOrder R key (x ∷ xs) → R (key x) k ≡ Equal → find_key R key xs k ≡ None
  not_again x xs k ordered tie = find_none o exact key xs k
      (λ y there is. not_less (key x) (ap (R (key x)) (exact (key x) k tie ∙ sym (exact (key y) k is)) ∙ above x y xs ordered there))

  passes : (x : X) (r : Option X) (t : Ordering) → (t ≡ Equal → ⊥) → cond (is_eq t) (Some x) r ≡ r
  passes x r Less f = refl
  passes x r Equal f = absurd (f refl)
  passes x r Greater f = refl

  tie_or_not : (r : Ordering) → (r ≡ Equal) ⊎ (r ≡ Equal → ⊥)
  tie_or_not Less = inr (λ e. cc)
  tie_or_not Equal = inl refl
  tie_or_not Greater = inr (λ e. cc)

  same_rest : (x : X) (xs ys : List X) → IsInOrder R key (x ∷ xs) → IsInOrder R key (x ∷ ys)
      → ((k : K) → find_key R key (x ∷ xs) k ≡ find_key R key (x ∷ ys) k) → (k : K) → find_key R key xs k ≡ find_key R key ys k
  same_rest x xs ys a b same k = ⊎_elim
      (λ tie. not_again x xs k a tie ∙ sym (not_again x ys k b tie))
      (λ apart. sym (passes x (find_key R key xs k) _ apart) ∙ same k ∙ passes x (find_key R key ys k) _ apart)
      (tie_or_not (R (key x) k))

  same_head : (x y : X) (xs ys : List X) → IsInOrder R key (x ∷ xs) → IsInOrder R key (y ∷ ys)
      → ((k : K) → find_key R key (x ∷ xs) k ≡ find_key R key (y ∷ ys) k) → x ≡ y
  same_head x y xs ys a b same = ⊎_elim
      (λ is. sym is)
      (λ in_ys. ⊎_elim (λ is. is) (λ in_xs. absurd
      (not_less (key x) (o.trans (key x) (key y) (key x) (above x y xs a in_xs) (above y x ys b in_ys))))
      (first_or_later x xs y (find_sound (x ∷ xs) (key y) y (same (key y) ∙ head_found y ys)).0))
      (first_or_later y ys x (find_sound (y ∷ ys) (key x) x (sym (same (key x)) ∙ head_found x xs)).0)

  -- lists in order that answer all look-ups alike are one
  pub same_lists : (xs ys : List X) → IsInOrder R key xs → IsInOrder R key ys
      → ((k : K) → find_key R key xs k ≡ find_key R key ys k) → xs ≡ ys
  same_lists [] [] a b same = refl
  same_lists [] (y ∷ ys) a b same = absurd (none-some y (same (key y) ∙ head_found y ys))
  same_lists (x ∷ xs) [] a b same = absurd (none-some x (sym (same (key x)) ∙ head_found x xs))
  same_lists (x ∷ xs) (y ∷ ys) a b same =
      let head = same_head x y xs ys a b same in
      let rest = same_lists xs ys (rest_in_order x xs a) (rest_in_order y ys b)
      (same_rest x xs ys a (subst (λ z. IsInOrder R key (z ∷ ys)) (sym head) b) (λ k. same k
      ∙ ap (λ z. find_key R key (z ∷ ys) k) (sym head))) in
      λ i. head i ∷ rest i
