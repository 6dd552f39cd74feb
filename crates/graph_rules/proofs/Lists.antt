-- Elements of lists: of a test of all or of some, a search, a map, a filter; and look-ups by a name.
use Rattle.std.proofs.Common.{◌≡◌, refl, sym, ap, subst, ◌∙◌, Bool, true, false, List, [], ◌∷◌, ◌++◌, map, Option, Some, None, find, cond, ◌⊎◌, inl, inr, ⊎_elim, Contains, ℕ, arith}
use Rattle.std.specs.List.{list_all, list_any, filter, filter_map, cons_option, flat_map}
use Rattle.std.specs.Option.{option_and_then}
use Rattle.std.specs.Str.{bytes_eq}
use Rattle.std.specs.Cmp.{tied_itself}
use Rattle.std.specs.Cmp.Lexicographic.{nat_list_cmp_total, bytes_decides}
use Rattle.std.proofs.lemmas.Bool.{and_parts, and_from, or_cases, or_left, or_right}
use Rattle.problem.proofs.OfVariantValues.Texts2.{ties_are_equal}
use Rattle.reachability.proofs.CountLaws.{has_first, has_later, first_or_later}
use Rattle.problem.proofs.OfKeyedLists.KeyedLaws.{find_some}
use Rattle.problem.specs.OfGraphCore.Graphs.{Text, Content, IsGraph, name_of, node_of}
use Rattle.problem.specs.OfGraphCore.Node.{Node}
use Rattle.problem.specs.OfConditionRules.Words.{is_one_text, is_some_and}

abbrev pub In : {X : Type 0} → X → List X → Type 0
In x [] = ⊥
In x (y ∷ ys) = (x ≡ y) ⊎ In x ys

module _ {X : Type 0} where
  -- ---- all

  -- what all pass each passes
  pub list_all-each : (p : X → Bool) (xs : List X) (x : X) → list_all p xs ≡ true → In x xs → p x ≡ true
  list_all-each p [] x all none = absurd none
  list_all-each p (y ∷ ys) x all (inl same) = ap p same ∙ (and_parts (p y) (list_all p ys) all).0
  list_all-each p (y ∷ ys) x all (inr later) = list_all-each p ys x (and_parts (p y) (list_all p ys) all).1 later

  -- what each passes all pass
  pub list_all-from : (p : X → Bool) (xs : List X) → ((x : X) → In x xs → p x ≡ true) → list_all p xs ≡ true
  list_all-from p [] each = refl
  list_all-from p (y ∷ ys) each = and_from (p y) (list_all p ys) (each y (inl refl)) (list_all-from p ys (λ x there. each x (inr there)))

  -- ---- a search

  -- what is found stands in the list and passes
  pub find-in : (p : X → Bool) (xs : List X) (x : X) → find p xs ≡ Some x → In x xs × (p x ≡ true)
  find-in p [] x e = absurd (let no : None ≡ Some x = e in cc)
  find-in p (y ∷ ys) x e =
      elim (p y) as (λ b. p y ≡ b → cond b (Some y) (find p ys) ≡ Some x → In x (y ∷ ys) × (p x ≡ true)) [
        | true ↦ λ is found. let same : y ≡ x = cc in (inl (sym same), ap p (sym same) ∙ is)
        | false ↦ λ is found. let rest = find-in p ys x found in (inr rest.0, rest.1)
      ] refl e

  -- ---- lists put together

  -- what stands in the first of two lists stands in both
  pub In-left : (xs ys : List X) (x : X) → In x xs → In x (xs ++ ys)
  In-left [] ys x none = absurd none
  In-left (z ∷ zs) ys x (inl same) = inl same
  In-left (z ∷ zs) ys x (inr later) = inr (In-left zs ys x later)

  -- what stands in the second of two lists stands in both
  pub In-right : (xs ys : List X) (x : X) → In x ys → In x (xs ++ ys)
  In-right [] ys x there = there
  In-right (z ∷ zs) ys x there = inr (In-right zs ys x there)

  -- the image of what stands in a list stands in its image
  pub In-map : {Y : Type 0} (f : X → Y) (xs : List X) (x : X) → In x xs → In (f x) (map f xs)
  In-map f [] x none = absurd none
  In-map f (z ∷ zs) x (inl same) = inl (ap f same)
  In-map f (z ∷ zs) x (inr later) = inr (In-map f zs x later)

-- what stands in one of the lists stands in all of them
pub In-flat_map : {X Y : Type 0} (f : X → List Y) (xs : List X) (x : X) (y : Y) → In x xs → In y (f x) → In y (flat_map f xs)
In-flat_map f [] x y none there = absurd none
In-flat_map f (z ∷ zs) x y (inl same) there = In-left (f z) (flat_map f zs) y (subst (λ w. In y (f w)) same there)
In-flat_map f (z ∷ zs) x y (inr later) there = In-right (f z) (flat_map f zs) y (In-flat_map f zs x y later there)

-- what stands in an image is the image of something
pub from_map : {X Y : Type 0} (f : X → Y) (xs : List X) (y : Y) → In y (map f xs) → (x : X) × In x xs × (y ≡ f x)
from_map f [] y none = absurd none
from_map f (x ∷ xs) y (inl same) = (x, inl refl, same)
from_map f (x ∷ xs) y (inr later) = let r = from_map f xs y later in (r.0, inr r.1, r.2)

-- ---- a test of some

-- the one that passes
pub any-in : {X : Type 0} (p : X → Bool) (xs : List X) → list_any p xs ≡ true → (x : X) × In x xs × (p x ≡ true)
any-in p [] h = absurd cc
any-in p (y ∷ ys) h =
    let rest = any-in p ys in
    elim (or_cases (p y) (list_any p ys) h) as (λ _. (x : _) × In x (y ∷ ys) × (p x ≡ true)) [
      | inl here ↦ (y, inl refl, here)
      | inr later ↦
          let r = rest later in (r.0, inr r.1, r.2)
    ]

-- one that passes is enough
pub in-any : {X : Type 0} (p : X → Bool) (xs : List X) (x : X) → In x xs → p x ≡ true → list_any p xs ≡ true
in-any p [] x none h = absurd none
in-any p (y ∷ ys) x (inl same) h = or_left (p y) (list_any p ys) (ap p (sym same) ∙ h)
in-any p (y ∷ ys) x (inr later) h = or_right (p y) (list_any p ys) (in-any p ys x later h)

-- ---- a filter

-- what is left by a test stood there and passes
pub from_filter : {X : Type 0} (p : X → Bool) (xs : List X) (x : X) → In x (filter p xs) → In x xs × (p x ≡ true)
from_filter p [] x none = absurd none
from_filter p (y ∷ ys) x there =
    let rest = from_filter p ys x in
    elim (p y) as (λ b. p y ≡ b → In x (cond b (y ∷ filter p ys) (filter p ys)) → In x (y ∷ ys) × (p x ≡ true)) [
      | true ↦ λ e h. elim h as (λ _. In x (y ∷ ys) × (p x ≡ true)) [
        | inl same ↦ (inl same, ap p same ∙ e)
        | inr later ↦ let r =
            rest later in (inr r.0, r.1)
      ]
      | false ↦ λ e h. let r = rest h in (inr r.0, r.1)
    ] refl there

-- what passes stays
pub to_filter : {X : Type 0} (p : X → Bool) (xs : List X) (x : X) → In x xs → p x ≡ true → In x (filter p xs)
to_filter p [] x none h = absurd none
to_filter p (y ∷ ys) x there h =
    let rest = to_filter p ys x in
    elim (p y) as (λ b. p y ≡ b → In x (cond b (y ∷ filter p ys) (filter p ys))) [
      | true ↦ λ e. elim there as (λ _. In x (y ∷ filter p ys)) [ inl same ↦ inl same | inr later ↦ inr (rest later h) ]
      | false ↦ λ e. elim there as (λ _. In x (filter p ys)) [
        | inl same ↦
            absurd (let wrong : false ≡ true = sym e ∙ ap p (sym same) ∙ h in cc)
        | inr later ↦ rest later h
      ]
    ] refl

-- what the map gives is in its list
pub to_filter_map : {X Y : Type 0} (f : X → Option Y) (xs : List X) (x : X) (y : Y) → In x xs → f x ≡ Some y → In y (filter_map f xs)
to_filter_map f [] x y none e = absurd none
to_filter_map f (z ∷ zs) x y (inl same) e = rw (let is : f z ≡ Some y = ap f (sym same) ∙ e in is) (inl refl)
to_filter_map f (z ∷ zs) x y (inr later) e = let rest = to_filter_map f zs x y later e in
    elim (f z) as (λ o. In y (cons_option o (filter_map f zs))) [ None ↦ rest | Some w ↦ inr rest ]

-- ---- an option

-- the value of an option that passes
pub some-and : {T : Type 0} (o : Option T) (p : T → Bool) → is_some_and o p ≡ true → (x : T) × (o ≡ Some x) × (p x ≡ true)
some-and None p h = absurd cc
some-and (Some x) p h = (x, refl, h)

-- the value that the second step began with
pub and_then : {S T : Type 0} (f : S → Option T) (o : Option S) (y : T) → option_and_then f o ≡ Some y → (x : S) × (o ≡ Some x)
    × (f x ≡ Some y)
and_then f None y e = absurd (let wrong : None ≡ Some y = e in cc)
and_then f (Some x) y e = (x, refl, e)

-- ---- texts

-- texts that the test calls equal are equal
pub bytes_eq-same : (a b : List ℕ) → bytes_eq a b ≡ true → a ≡ b
bytes_eq-same a b = (bytes_decides a b).0

-- a text is equal to itself by the test
pub bytes_eq-itself : (a : List ℕ) → bytes_eq a a ≡ true
bytes_eq-itself a = (bytes_decides a a).1 refl

-- a text that the test finds among some stands there
pub In-among : (texts : List Text) (text : Text) → is_one_text texts text ≡ true → In text texts
In-among [] text h = absurd cc
In-among (t ∷ ts) text h =
    elim (or_cases (bytes_eq text t) (is_one_text ts text) h) as (λ _. In text (t ∷ ts)) [
      | inl same ↦
          inl (bytes_eq-same text t same)
      | inr later ↦ inr (In-among ts text later)
    ]

-- ---- nodes by their names

-- what stands in a list is contained in it
pub In-contains : {X : Type 0} (xs : List X) (x : X) → In x xs → Contains xs x
In-contains [] x none = absurd none
In-contains (y ∷ ys) x (inl same) = subst (Contains (y ∷ ys)) (sym same) (has_first y ys)
In-contains (y ∷ ys) x (inr later) = has_later y ys x (In-contains ys x later)

-- what is contained in a list stands in it
pub contains-In : {X : Type 0} (xs : List X) (x : X) → Contains xs x → In x xs
contains-In [] x there = absurd (omega (arith, there.1))
contains-In (y ∷ ys) x there = ⊎_elim (λ same. inl (sym same)) (λ later. inr (contains-In ys x later)) (first_or_later y ys x there)

-- a node is the one that its name finds
pub node-itself : (graph : Content) (node : Node) → IsGraph graph → In node graph.nodes → node_of graph node.name ≡ Some node
node-itself graph node g there = find_some nat_list_cmp_total ties_are_equal name_of graph.nodes node.name node g.nodes
    (In-contains graph.nodes node there) (tied_itself nat_list_cmp_total node.name)
