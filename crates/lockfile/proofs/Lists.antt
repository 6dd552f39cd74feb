-- Searches in lists, and lists that are made of others.
use Rattle.std.proofs.Common.{◌≡◌, refl, sym, ap, subst, ◌∙◌, Bool, true, false, cond, Option, Some, None, List, [], ◌∷◌, map, Contains, ⊎_elim, find}
use Rattle.std.specs.List.{filter_map, flat_map, cons_option}
use Rattle.std.specs.Str.{bytes_eq}
use Rattle.std.specs.declared.cmp.Ordering.{Ordering}
use Rattle.std.specs.Cmp.{IsTotalOrder}
use Rattle.std.specs.Cmp.Lexicographic.{bytes_decides}
use Rattle.std.specs.FinMap.{IsAntisymmetric}
use Rattle.std.proofs.lemmas.Bool.{false≢true}
use Rattle.std.proofs.lemmas.Option.{none-some}
use Rattle.std.proofs.lemmas.List.Elements.{Contains-append_left, Contains-append_right, Contains-append_cases}
use Rattle.reachability.proofs.CountLaws.{first_or_later, has_first, has_image, has_later}
use Rattle.keyed_lists.specs.Keyed.{IsInOrder, find_key}
use Rattle.keyed_lists.proofs.KeyedLaws.{find_known, find_none}
use Rattle.keyed_lists.proofs.LookupLaws.{find_sound, found_iff}
use Rattle.variant_values.proofs.Keys.{lacks_all}
use Rattle.graph_core.specs.Graphs.{Text}

-- ---- searches

-- nothing passes a test that none passes
pub find_no : {X : Type 0} (p : X → Bool) (xs : List X) → ((x : X) → Contains xs x → p x ≡ false) → find p xs ≡ None
find_no p [] none = refl
find_no p (x ∷ xs) none = rw (none x (has_first x xs)) (find_no p xs (λ y has. none y (has_later x xs y has)))

-- what alone has its key is found by it
pub find_one : {X : Type 0} (key : X → Text) (xs : List X) (x : X) → ((y : X) → Contains xs y → key y ≡ key x → y ≡ x) → Contains xs x
    → find (λ y. bytes_eq (key y) (key x)) xs ≡ Some x
find_one key [] x alone has = absurd (lacks_all x has)
find_one key (y ∷ ys) x alone has = find_one-cases (bytes_eq (key y) (key x)) refl
    (λ later. find_one key ys x (λ z there. alone z (has_later y ys z there)) later)
  where
    find_one-cases : (b : Bool) → bytes_eq (key y) (key x) ≡ b → (Contains ys x → find (λ z. bytes_eq (key z) (key x)) ys ≡ Some x)
        → cond b (Some y) (find (λ z. bytes_eq (key z) (key x)) ys) ≡ Some x
    find_one-cases true is rest = ap (λ z. Some z) (alone y (has_first y ys) ((bytes_decides (key y) (key x)).0 is))
    find_one-cases false is rest = ⊎_elim
        (λ same. absurd (false≢true (sym is ∙ (bytes_decides (key y) (key x)).1 (ap key same))))
        rest
        (first_or_later y ys x has)

-- lists with the same elements are looked up alike, where the one is in order
pub find_alike : {X K : Type 0} {R : K → K → Ordering} (o : IsTotalOrder R) (exact : IsAntisymmetric R) (key : X → K) (xs ys : List X)
    → IsInOrder R key ys → ((x : X) → Contains xs x → Contains ys x) → ((x : X) → Contains ys x → Contains xs x)
    → (k : K) → find_key R key ys k ≡ find_key R key xs k
find_alike {X = X} {R = R} o exact key xs ys order there back k = find_alike-cases (find_key R key xs k) refl
  where
    find_alike-cases : (r : Option X) → find_key R key xs k ≡ r → find_key R key ys k ≡ r
    find_alike-cases (Some x) is = let has = find_sound o exact key xs k x is in
        (found_iff o exact key ys k x order).1 (there x has.0, has.1)
    find_alike-cases None is = find_none o exact key ys k (λ y has tie.
        let known = find_known o exact key xs k (subst (Contains (map key xs)) (exact (key y) k tie) (has_image key xs y (back y has))) in
        none-some known.0 (sym is ∙ known.1))

-- ---- lists that are made of others

behind : {X : Type 0} (r : Option X) (xs : List X) (x : X) → Contains xs x → Contains (cons_option r xs) x
behind None xs x has = has
behind (Some y) xs x has = has_later y xs x has

-- what is given of one of some keys stands in what is given of all
pub in_given : {K X : Type 0} (given : K → Option X) (ks : List K) (k : K) (x : X) → Contains ks k → given k ≡ Some x
    → Contains (filter_map given ks) x
in_given given [] k x has is = absurd (lacks_all k has)
in_given given (j ∷ ks) k x has is = ⊎_elim
    (λ same. subst (λ r. Contains (cons_option r (filter_map given ks)) x) (sym (ap given same ∙ is)) (has_first x (filter_map given ks)))
    (λ later. behind (given j) (filter_map given ks) x (in_given given ks k x later is))
    (first_or_later j ks k has)

module _ {X Y : Type 0} (f : X → List Y) where
  -- what stands in one of the lists stands in all of them
  pub in_flat : (xs : List X) (x : X) (y : Y) → Contains xs x → Contains (f x) y → Contains (flat_map f xs) y
  in_flat [] x y has is = absurd (lacks_all x has)
  in_flat (z ∷ zs) x y has is = ⊎_elim
      (λ same. Contains-append_left (f z) (flat_map f zs) y (subst (λ u. Contains (f u) y) (sym same) is))
      (λ later. Contains-append_right (f z) (flat_map f zs) y (in_flat zs x y later is))
      (first_or_later z zs x has)

  -- what stands in all of the lists stands in one of them
  pub from_flat : (xs : List X) (y : Y) → Contains (flat_map f xs) y → (x : X) × Contains xs x × Contains (f x) y
  from_flat [] y has = absurd (lacks_all y has)
  from_flat (x ∷ xs) y has = ⊎_elim
      (λ here. (x, has_first x xs, here))
      (λ later. let rest = from_flat xs y later in (rest.0, has_later x xs rest.0 rest.1, rest.2))
      (Contains-append_cases (f x) (flat_map f xs) y has)
