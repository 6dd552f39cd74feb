-- One recipe more among others.
use Rattle.std.proofs.Common.{◌≡◌, Bool, true, false, cond, List, [], ◌∷◌, refl}
use Rattle.std.specs.List.{list_all}
use Rattle.std.specs.Ordering.{match_ordering}
use Rattle.std.specs.declared.cmp.Ordering.TheVariants.{Less, Equal, Greater}
use Rattle.std.specs.Cmp.Lexicographic.{nat_list_cmp_total}
use Rattle.std.proofs.lemmas.Bool.{and_parts, and_from}
use Rattle.variant_values.specs.Texts.{byte_cmp}
use Rattle.variant_values.proofs.Texts.{ties_are_equal}
use Rattle.keyed_lists.specs.Keyed.{with_one}
use Rattle.keyed_lists.proofs.KeyedLaws.{in_order-with_one}
use Rattle.recipe_data.specs.Right.{is_right_recipe}
use Rattle.recipe_data.specs.declared.recipe.Recipe.{Recipe}
use Rattle.virtuals.specs.Virtuals.{AreInOrder, recipe_name}

abbrev pub with_recipe : List Recipe → Recipe → List Recipe
with_recipe = with_one byte_cmp recipe_name

one_right : (xs : List Recipe) (x : Recipe) → list_all is_right_recipe xs ≡ true → is_right_recipe x ≡ true
    → list_all is_right_recipe (with_recipe xs x) ≡ true
one_right [] x all this = and_from (is_right_recipe x) true this refl
one_right (y ∷ ys) x all this =
    let parts = and_parts (is_right_recipe y) (list_all is_right_recipe ys) all in
    let rest = one_right ys x parts.1 this in
    elim (byte_cmp x.name y.name) as (λ r. list_all is_right_recipe (match_ordering r (x ∷ y ∷ ys) (y ∷ ys) (y ∷ with_recipe ys x)) ≡ true) [
      | Less ↦ and_from (is_right_recipe x) (list_all is_right_recipe (y ∷ ys)) this all
      | Equal ↦ all
      | Greater ↦ and_from (is_right_recipe y) (list_all is_right_recipe (with_recipe ys x)) parts.0 rest
    ]

pub put_right : (added : Bool) (xs : List Recipe) (x : Recipe) → list_all is_right_recipe xs ≡ true → is_right_recipe x ≡ true
    → list_all is_right_recipe (cond added (with_recipe xs x) xs) ≡ true
put_right true xs x all this = one_right xs x all this
put_right false xs x all this = all

pub put_order : (added : Bool) (xs : List Recipe) (x : Recipe) → AreInOrder xs → AreInOrder (cond added (with_recipe xs x) xs)
put_order true xs x order = in_order-with_one nat_list_cmp_total ties_are_equal recipe_name xs x order
put_order false xs x order = order
