-- Rows of `provides` by the virtuals that they name.
use Rattle.std.proofs.Common.{◌≡◌, refl, sym, ap, subst, ◌∙◌, ℕ, ◌+◌, ◌<◌, Bool, List, [], ◌∷◌, ◌++◌, length, get_or, take, map, All}
use Rattle.std.proofs.lemmas.List.{take_more, map-append}
use Rattle.std.proofs.lemmas.List.Elements.{All-nil, All-push}
use Rattle.std.specs.List.Sorted.{IsSortedBy, IsStableBy}
use Rattle.keyed_lists.proofs.Lent.{same_text}
use Rattle.recipe_data.specs.OfGraphCore.Graphs.{Text}
use Rattle.recipe_data.specs.declared.recipe.ProvideRow.{ProvideRow}
use Rattle.recipe_data.specs.declared.recipe.Recipe.{Recipe}
use Rattle.virtuals.specs.Provided.{is_before, naming, AreByName, AreRowsOf}

-- copies of rows that were sorted
pub by_name : (given before after rows : List ProvideRow) → before ≡ given → rows ≡ after → IsSortedBy is_before after
    → IsStableBy is_before before after → AreByName given rows
by_name given before after rows copied is sorted stable = record {
  sorted = subst (IsSortedBy is_before) (sym is) sorted;
  same = λ name. ap (naming name) is ∙ same_text (λ (row : ProvideRow). row.name) before after name stable ∙ ap (naming name) copied;
}

abbrev pub of_recipe : Text → Recipe → List ProvideRow
of_recipe name recipe = naming name recipe.provides

-- the lists of the recipes that were gone over
pub record RowsSoFar (recipes : List Recipe) (lists : List (List ProvideRow)) : Type 0 where
  pub sorted : All (IsSortedBy is_before) lists
  pub same : AreRowsOf recipes lists

pub rows_none : (lists : List (List ProvideRow)) → lists ≡ [] → RowsSoFar [] lists
rows_none lists none = subst (RowsSoFar []) (sym none) (record { sorted = All-nil (IsSortedBy is_before); same = λ name. refl })

-- one recipe more
pub rows_more : (recipes : List Recipe) (i : ℕ) (x : Recipe) (rows : List ProvideRow) (lists more : List (List ProvideRow))
    → i < length recipes → x ≡ get_or recipes i x → AreByName x.provides rows → more ≡ lists ++ rows ∷ []
    → RowsSoFar (take i recipes) lists → RowsSoFar (take (i + 1) recipes) more
rows_more recipes i x rows lists more lt is by grown before = record {
  sorted = subst (All (IsSortedBy is_before)) (sym grown)
      (All-push (IsSortedBy is_before) lists rows before.sorted by.sorted);
  same = λ name.
      ap (map (naming name)) grown ∙ map-append (naming name) lists (rows ∷ [])
      ∙ ap (λ l. l ++ naming name rows ∷ []) (before.same name)
      ∙ ap (λ r. map (of_recipe name) (take i recipes) ++ r ∷ []) (by.same name)
      ∙ sym (map-append (of_recipe name) (take i recipes) (x ∷ []))
      ∙ ap (map (of_recipe name)) (ap (λ z. take i recipes ++ z ∷ []) is ∙ sym (take_more recipes i x lt));
}
