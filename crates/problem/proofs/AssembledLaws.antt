-- A problem of right parts is put together right.
use Rattle.std.proofs.Common.{◌≡◌, refl, sym, ap, subst, ◌∙◌, Bool, true, ℕ, zero, suc, ◌<◌, List, [], ◌∷◌, length, get_or, map, ◌&&◌}
use Rattle.std.specs.Prelude.{is_some, slice_get, Option, Some}
use Rattle.std.specs.List.{list_all}
use Rattle.std.specs.Option.{option_map}
use Rattle.std.specs.Cmp.Lexicographic.{nat_list_cmp_total}
use Rattle.std.proofs.lemmas.Bool.{and_from, and_parts}
use Rattle.std.proofs.lemmas.Option.{slice_get-get_or, slice_get-map}
use Rattle.condition_rules.specs.OfVariantValues.Texts.{byte_cmp}
use Rattle.condition_rules.specs.OfKeyedLists.Keyed.{rises}
use Rattle.condition_rules.proofs.OfKeyedLists.RiseLaws.{rises_decides}
use Rattle.condition_rules.specs.OfSpecGrammar.Spec.{Spec}
use Rattle.site_settings.specs.declared.settings.Settings.{Settings}
use Rattle.condition_rules.specs.OfConditions.Right.{is_right_recipe}
use Rattle.condition_rules.specs.OfConditions.Recipe.{Recipe}
use Rattle.condition_rules.specs.OfVirtuals.Virtuals.{AreInOrder}
use Rattle.reuse_db.specs.declared.record.Record.{Record}
use Rattle.problem.specs.Assembled.{is_assembled}
use Rattle.problem.specs.Problems.{Problem, alone, each_alone, problem_of}

-- parts that are put together meet the test
pub assembled : (recipes : List Recipe) (settings : Settings) (database : List Record) (roots : List Spec) → AreInOrder recipes
    → list_all is_right_recipe recipes ≡ true → list_all (λ spec. is_some spec.top.name) roots ≡ true
    → is_assembled (problem_of recipes settings database roots) ≡ true
unfolding is_assembled
assembled recipes settings database roots order right named =
    let names = map (λ (recipe : Recipe). recipe.name) recipes in
    let rising : rises byte_cmp names ≡ true = (rises_decides byte_cmp nat_list_cmp_total names).1 order in
    and_from (rises byte_cmp names && list_all is_right_recipe recipes) (list_all (λ spec. is_some spec.top.name) roots)
    (and_from (rises byte_cmp names) (list_all is_right_recipe recipes) rising right) named

-- ---- one root by itself

same_held : {X : Type 0} {x y : X} → (let T : Type 0 = Option X in let a : T = Some x in let b : T = Some y in a ≡ b) → x ≡ y
same_held e = cc

found_at : {X : Type 0} (xs : List X) (place : ℕ) (x : X) → place < length xs → x ≡ get_or xs place x → slice_get xs place ≡ Some x
found_at xs place x within is = slice_get-get_or xs place x within ∙ ap Some (sym is)

-- where each of a list passes, so does one by itself
one_passes : {X : Type 0} (p : X → Bool) (xs : List X) (place : ℕ) (x : X) → slice_get xs place ≡ Some x → list_all p xs ≡ true
    → list_all p (x ∷ []) ≡ true
one_passes p [] place x is all = absurd cc
one_passes p (y ∷ xs) zero x is all =
    subst (λ z. list_all p (z ∷ []) ≡ true) (same_held is) (and_from (p y) true (and_parts (p y) (list_all p xs) all).0 refl)
one_passes p (y ∷ xs) (suc place) x is all = one_passes p xs place x is (and_parts (p y) (list_all p xs) all).1

-- the problem of one root is put together right where that of all is
pub alone_assembled : (problem : Problem) (place : ℕ) (root : Spec) → place < length problem.roots → root ≡ get_or problem.roots place root
    → is_assembled problem ≡ true → is_assembled (alone problem root) ≡ true
unfolding is_assembled
alone_assembled problem place root within is right =
    let front = rises byte_cmp (map (λ (recipe : Recipe). recipe.name) problem.recipes) && list_all is_right_recipe problem.recipes in
    let parts = and_parts front (list_all (λ spec. is_some spec.top.name) problem.roots) right in
    and_from front (list_all (λ spec. is_some spec.top.name) (root ∷ [])) parts.0
    (one_passes (λ spec. is_some spec.top.name) problem.roots place root (found_at problem.roots place root within is) parts.1)

pub apart_at : (problem : Problem) (place : ℕ) (root : Spec) → place < length problem.roots → root ≡ get_or problem.roots place root
    → slice_get (each_alone problem) place ≡ Some (alone problem root)
apart_at problem place root within is =
    slice_get-map (alone problem) problem.roots place
    ∙ ap (option_map (alone problem)) (found_at problem.roots place root within is)

-- whose problem stands at a place of those apart
root_of : (f : Spec → Problem) (roots : List Spec) (place : ℕ) (one : Problem) → slice_get (map f roots) place ≡ Some one
    → (root : Spec) × (slice_get roots place ≡ Some root) × (one ≡ f root)
root_of f [] place one is = absurd cc
root_of f (r ∷ roots) zero one is = (r, refl, sym (same_held is))
root_of f (r ∷ roots) (suc place) one is = root_of f roots place one is

pub root_apart : (problem : Problem) (place : ℕ) (one : Problem) → slice_get (each_alone problem) place ≡ Some one
    → (root : Spec) × (slice_get problem.roots place ≡ Some root) × (one ≡ alone problem root)
root_apart problem place one is = root_of (alone problem) problem.roots place one is
