-- Rows of `provides` that name a virtual.
use Rattle.std.proofs.Common.{◌≡◌, refl, sym, ap, ◌∙◌, ℕ, zero, suc, ◌<◌, ◌||◌, Bool, true, false, cond, List, [], ◌∷◌, length, get_or, filter, Option, arith}
use Rattle.std.proofs.lemmas.Bool.{false≢true}
use Rattle.std.proofs.lemmas.List.{get_or-map}
use Rattle.std.proofs.Math.ListN.{get_or-map as get_mapped}
use Rattle.std.specs.List.{list_any}
use Rattle.keyed_lists.specs.Keyed.{IsPlaceOf, find_key}
use Rattle.keyed_lists.proofs.TextLaws.{found}
use Rattle.virtuals.specs.OfVariantValues.Texts.{byte_cmp}
use Rattle.virtuals.specs.OfGraphCore.Graphs.{Text}
use Rattle.virtuals.specs.OfConditions.Recipe.{Recipe}
use Rattle.virtuals.specs.OfConditions.ProvideRow.{ProvideRow}
use Rattle.virtuals.specs.Provided.{naming, AreRowsOf}
use Rattle.virtuals.specs.Virtuals.{AreInOrder, recipe_name}
use Rattle.condition_rules.specs.Worlds.{rows}

-- ---- the rows of a package

present : {X : Type 0} (xs : List X) (i : ℕ) → i < length xs → (x : X) × (x ≡ get_or xs i x)
present [] i lt = absurd (omega (arith, lt))
present (x ∷ xs) zero lt = (x, refl)
present (x ∷ xs) (suc i) lt = present xs i (omega (arith, lt))

abbrev of_recipe : Text → Recipe → List ProvideRow
of_recipe name recipe = naming name recipe.provides

abbrev pub of_found : Text → Option Recipe → List ProvideRow
of_found name recipe = naming name (rows (λ (r : Recipe). r.provides) recipe)

-- what stands at the place of a package are the rows of its recipe
pub rows_at : (recipes : List Recipe) (lists : List (List ProvideRow)) (place : ℕ) (package_name name : Text) → AreInOrder recipes
    → AreRowsOf recipes lists → IsPlaceOf byte_cmp recipe_name recipes package_name place
    → naming name (get_or lists place []) ≡ of_found name (find_key byte_cmp recipe_name recipes package_name)
rows_at recipes lists place package_name name order are at =
    let there = present recipes place at.within in
    sym (get_mapped (naming name) lists place []) ∙ ap (λ (l : List (List ProvideRow)). get_or l place []) (are name)
    ∙ get_or-map (of_recipe name) recipes place there.0 [] at.within ∙ ap (of_recipe name) (sym there.1)
    ∙ ap (of_found name) (found recipe_name recipes package_name place there.0 order at there.1)

-- ---- tests that only rows of one name pass

module _ {X : Type 0} (p r : X → Bool) where
  -- some pass a test where some of those do that it keeps
  pub any_kept : ((x : X) → p x ≡ false → r x ≡ false) → (xs : List X) → list_any r (filter p xs) ≡ list_any r xs
  any_kept only [] = refl
  any_kept only (x ∷ xs) = by_test (p x) (only x) (any_kept only xs)
    where
      by_test : (b : Bool) → (b ≡ false → r x ≡ false) → list_any r (filter p xs) ≡ list_any r xs
          → list_any r (cond b (x ∷ filter p xs) (filter p xs)) ≡ (r x || list_any r xs)
      by_test true fails rest = ap (λ (b : Bool). r x || b) rest
      by_test false fails rest = rest ∙ ap (λ (b : Bool). b || list_any r xs) (sym (fails refl))
