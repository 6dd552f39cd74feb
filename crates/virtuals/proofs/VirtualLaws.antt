-- What tables of providers tell.
use Rattle.std.proofs.Common.{◌≡◌, nat_eq, refl, sym, ap, subst, ◌∙◌, Bool, true, false, cond, ◌&&◌, ◌||◌, Some, List, [], ◌∷◌, map, find, Contains, ⊎_elim, arith}
use Rattle.std.proofs.lemmas.Bool.{false≢true}
use Rattle.std.proofs.lemmas.List.Elements.{Contains-append_left, Contains-append_right, Contains-append_cases}
use Rattle.std.proofs.lemmas.List.Kept.{IsStrictlySortedBy-dedup, Contains-dedup, Contains-from_dedup}
use Rattle.std.proofs.lemmas.List.Sorted.{Contains-permutation, IsPermutation-sym}
use Rattle.std.specs.Cmp.{IsEquivalence, both_tied, and_equiv, on_equiv, tied_itself}
use Rattle.std.specs.Cmp.Lexicographic.{pointwise, nat_list_cmp_total, nat_list_eq_equiv, same_text, texts_ties, bytes_decides}
use Rattle.std.specs.List.{list_any, dedup}
use Rattle.std.specs.List.Sorted.{IsPermutation, IsSorted}
use Rattle.std.specs.Ordering.{eq_by_cmp, is_le}
use Rattle.std.specs.Str.{bytes_eq}
use Rattle.recipe_data.proofs.OfGraphCore.CountLaws.{has_first, has_later, first_or_later, has_image, image_of}
use Rattle.recipe_data.specs.OfVariantValues.Texts.{byte_cmp}
use Rattle.recipe_data.proofs.OfKeyedLists.RiseLaws.{rises_above, rises_rest}
use Rattle.recipe_data.specs.OfGraphCore.Graphs.{Text, pair_cmp}
use Rattle.recipe_data.proofs.OfGraphCore.PairLaws.{pair_total}
use Rattle.recipe_data.specs.declared.recipe.Recipe.{Recipe}
use Rattle.recipe_data.specs.declared.recipe.ProvideRow.{ProvideRow}
use Rattle.virtuals.specs.Virtuals.{AreInOrder, AreProviders, IsProvider, Pairs, clash, has_pair, is_virtual, recipe_name, provides_name}
use Rattle.virtuals.specs.Pairs.{all_pairs, row_pairs}

-- ---- tests of some element

-- some pass where an element does
pub any_of : {X : Type 0} (p : X → Bool) (xs : List X) (x : X) → Contains xs x → p x ≡ true → list_any p xs ≡ true
any_of p [] x there passes = absurd (omega (arith, there.1))
any_of p (y ∷ ys) x there passes = ⊎_elim
    (λ e. let here : p y ≡ true = ap p e ∙ passes in rw here refl)
    (λ later. let rest = any_of p ys x later passes in elim (p y) as (λ b. (b || list_any p ys) ≡ true) [ true ↦ refl | false ↦ rest ])
    (first_or_later y ys x there)

module _ {X : Type 0} (p : X → Bool) where
  -- where some pass, an element does
  pub from_any : (xs : List X) → list_any p xs ≡ true → (x : X) × Contains xs x × (p x ≡ true)
  from_any [] e = absurd (false≢true e)
  from_any (y ∷ ys) e = found_by_test (p y) refl e (from_any ys)
    where
      found_by_test : (b : Bool) → p y ≡ b → (b || list_any p ys) ≡ true
          → (list_any p ys ≡ true → (x : X) × Contains ys x × (p x ≡ true)) → (x : X)
          × Contains (y ∷ ys) x × (p x ≡ true)
      found_by_test true is e rest = (y, has_first y ys, is)
      found_by_test false is e rest = let found = rest e in (found.0, has_later y ys found.0 found.1, found.2)

same_test : (a b : Bool) → (a ≡ true → b ≡ true) → (b ≡ true → a ≡ true) → a ≡ b
same_test true b to from = sym (to refl)
same_test false true to from = from refl
same_test false false to from = refl

-- ---- the table

-- a table of providers has a name exactly where some recipe provides it
pub has_virtual : (recipes : List Recipe) (pairs : Pairs) (name : Text) → AreProviders recipes pairs
    → has_pair pairs name ≡ is_virtual recipes name
unfolding is_virtual
has_virtual recipes pairs name table = same_test (has_pair pairs name) (list_any (provides_name name) recipes)
    (λ has.
    let found = from_any (λ pair. bytes_eq pair.0 name) pairs has in
    let is : found.0.0 ≡ name = (bytes_decides found.0.0 name).0 found.2 in
    let at = (table.exact found.0.0 found.0.1).0 found.1 in
    any_of (provides_name name) recipes at.0 at.1 (subst (λ n. provides_name n at.0 ≡ true) is at.3))
    (λ some.
    let found = from_any (provides_name name) recipes some in
    any_of (λ (pair : Text × Text). bytes_eq pair.0 name) pairs (name, found.0.name)
    ((table.exact name found.0.name).1 (found.0, found.1, refl, found.2)) ((bytes_decides name name).1 refl))

-- a pair of a recipe's rows names the package, and a row that provides the name
pub in_rows : (name provider package_name : Text) (rows : List ProvideRow) → Contains (row_pairs package_name rows) (name, provider)
    → (package_name ≡ provider) × (list_any (λ row. bytes_eq row.name name) rows ≡ true)
in_rows name provider package_name rows there =
    let from = image_of (λ (row : ProvideRow). let p : Text × Text = (row.name, package_name) in p) rows (name, provider) there in (
      ap (λ p. p.1) from.2,
      any_of (λ row. bytes_eq row.name name) rows from.0 from.1
          ((bytes_decides from.0.name name).1 (ap (λ p. p.0) from.2)),
    )

-- a row that provides a name gives its pair
pub to_rows : (name package_name : Text) (rows : List ProvideRow) → list_any (λ row. bytes_eq row.name name) rows ≡ true
    → Contains (row_pairs package_name rows) (name, package_name)
to_rows name package_name rows some =
    let found = from_any (λ row. bytes_eq row.name name) rows some in
    let is : found.0.name ≡ name = (bytes_decides found.0.name name).0 found.2 in
    subst (λ n. Contains (row_pairs package_name rows) (n, package_name)) is
    (has_image (λ (row : ProvideRow). let p : Text × Text = (row.name, package_name) in p) rows found.0 found.1)

-- a pair of all recipes is a virtual and one that provides it
pub in_all : (name provider : Text) (recipes : List Recipe) → Contains (all_pairs recipes) (name, provider)
    → IsProvider recipes name provider
unfolding provides_name
in_all name provider [] there = absurd (omega (arith, there.1))
in_all name provider (recipe ∷ recipes) there = ⊎_elim
    (λ here. let is = in_rows name provider recipe.name recipe.provides here in (recipe, has_first recipe recipes, is.0, is.1))
    (λ later. let is = in_all name provider recipes later in (is.0, has_later recipe recipes is.0 is.1, is.2, is.3))
    (Contains-append_cases (row_pairs recipe.name recipe.provides) (all_pairs recipes) (name, provider) there)

-- a virtual and one that provides it are a pair of all recipes
pub to_all : (name provider : Text) (recipes : List Recipe) → IsProvider recipes name provider
    → Contains (all_pairs recipes) (name, provider)
unfolding provides_name
to_all name provider [] is = absurd (omega (arith, is.1.1))
to_all name provider (recipe ∷ recipes) is = ⊎_elim
    (λ e. Contains-append_left (row_pairs recipe.name recipe.provides) (all_pairs recipes) (name, provider)
    (subst (λ (q : Text). Contains (row_pairs recipe.name recipe.provides) (name, q)) (ap (λ (r : Recipe). r.name) e ∙ is.2)
    (to_rows name recipe.name recipe.provides (subst (λ (r : Recipe). list_any (λ row. bytes_eq row.name name) r.provides ≡ true)
    (sym e) is.3))))
    (λ later. Contains-append_right (row_pairs recipe.name recipe.provides) (all_pairs recipes) (name, provider)
    (to_all name provider recipes (is.0, later, is.2, is.3)))
    (first_or_later recipe recipes is.0 is.1)

-- ---- sorted, each once

abbrev pub same_pair : Text × Text → Text × Text → Bool
same_pair p q = pointwise nat_eq p.0 q.0 && pointwise nat_eq p.1 q.1

pair_equiv : IsEquivalence same_pair
pair_equiv = and_equiv (on_equiv (λ p. p.0) nat_list_eq_equiv) (on_equiv (λ p. p.1) nat_list_eq_equiv)

pair_ties : (p q : Text × Text) → same_pair p q ≡ eq_by_cmp pair_cmp p q
pair_ties p q = both_tied _ _ (byte_cmp p.0 q.0) (byte_cmp p.1 q.1) (texts_ties p.0 q.0) (texts_ties p.1 q.1)

and_parts : (a b : Bool) → (a && b) ≡ true → (a ≡ true) × (b ≡ true)
and_parts true b e = (refl, e)
and_parts false b e = absurd (false≢true e)

pair_same : (p q : Text × Text) → same_pair p q ≡ true → p ≡ q
pair_same p q e =
    let parts = and_parts (pointwise nat_eq p.0 q.0) (pointwise nat_eq p.1 q.1) e in
    let first : p.0 ≡ q.0 = same_text p.0 q.0 (sym parts.0) in
    let second : p.1 ≡ q.1 = same_text p.1 q.1 (sym parts.1) in
    λ i. (first i, second i)

-- all pairs sorted, each once, are the table of providers
pub table_of : (recipes : List Recipe) (sorted : Pairs) → IsPermutation (all_pairs recipes) sorted → IsSorted pair_cmp sorted
    → AreProviders recipes (dedup same_pair sorted)
table_of recipes sorted moved ordered = record {
  order = IsStrictlySortedBy-dedup pair_total pair_ties sorted ordered;
  exact = λ name provider. (
    λ there. in_all name provider recipes (Contains-permutation sorted (all_pairs recipes) (name, provider)
        (IsPermutation-sym (all_pairs recipes) sorted moved) (Contains-from_dedup same_pair sorted (name, provider) there)),
    λ is. Contains-dedup pair_equiv pair_same sorted (name, provider)
        (Contains-permutation (all_pairs recipes) sorted (name, provider) moved (to_all name provider recipes is)),
  );
}

-- ---- the clash

-- the first recipe whose name the table has is the one whose name some recipe provides
pub clash_agrees : (recipes : List Recipe) (pairs : Pairs) → AreProviders recipes pairs
    → find (λ recipe. has_pair pairs recipe.name) recipes ≡ clash recipes
clash_agrees recipes pairs table =
    let same : (recipe : Recipe) → has_pair pairs recipe.name ≡ is_virtual recipes recipe.name =
    λ recipe. has_virtual recipes pairs recipe.name table in
    ap (λ (test : Recipe → Bool). find test recipes) (λ i recipe. same recipe i)

-- what is found first in recipes in order has the least name that passes
pub first_found : (test : Recipe → Bool) (recipes : List Recipe) (first other : Recipe) → AreInOrder recipes
    → find test recipes ≡ Some first → Contains recipes other → test other ≡ true → is_le (byte_cmp first.name other.name) ≡ true
first_found test [] first other ordered found there passes = absurd (omega (arith, there.1))
first_found test (recipe ∷ recipes) first other ordered found there passes =
    ordered_by_test (test recipe) refl found (first_found test recipes first other
    (rises_rest byte_cmp recipe.name (map recipe_name recipes) ordered))
  where
    ordered_by_test : (b : Bool) → test recipe ≡ b → cond b (Some recipe) (find test recipes) ≡ Some first
        → (find test recipes ≡ Some first → Contains recipes other → test other ≡ true → is_le (byte_cmp first.name other.name) ≡ true)
        → is_le (byte_cmp first.name other.name) ≡ true
    ordered_by_test true is e rest =
        let same : recipe ≡ first = cc in
        subst (λ (r : Recipe). is_le (byte_cmp r.name other.name) ≡ true) same (⊎_elim
        (λ here. ap is_le (ap (λ (r : Recipe). byte_cmp recipe.name r.name) (sym here) ∙ tied_itself nat_list_cmp_total recipe.name))
        (λ later. ap is_le (rises_above byte_cmp recipe.name (map recipe_name recipes) ordered other.name
        (has_image recipe_name recipes other later)))
        (first_or_later recipe recipes other there))
    ordered_by_test false is e rest = ⊎_elim
        (λ here. absurd (false≢true (sym is ∙ ap test here ∙ passes)))
        (λ later. rest e later passes)
        (first_or_later recipe recipes other there)
