-- A recipe has no more rows and members than its file has bytes, and all recipes no more than all files.
use Rattle.std.proofs.Common.{◌≡◌, ℕ, ◌+◌, ◌≤◌, List, [], ◌∷◌, length, map, sum_by, arith}
use Rattle.std.specs.Prelude.{Result, Ok, Err, IfOk}
use Rattle.std.proofs.lemmas.List.Sums.{sum_by-cons}
use Rattle.std.proofs.lemmas.Result.{IfOk-at_ok}
use Rattle.recipe_lexer.specs.Layout.{tokens}
use Rattle.recipe_lexer.specs.declared.token.Token.{Token}
use Rattle.recipe_lexer.specs.declared.token.LexFault.{LexFault}
use Rattle.recipe_statements.specs.Statements.{items}
use Rattle.recipe_statements.specs.Order.{AreInOrder}
use Rattle.recipe_statements.specs.declared.item.ClassItem.{ClassItem}
use Rattle.recipe_statements.specs.declared.item.StatementFault.{StatementFault}
use Rattle.recipe_statements.proofs.OrderLaws.{items_in_order}
use Rattle.recipe_data.specs.declared.recipe.Recipe.{Recipe}
use Rattle.directive_arguments.proofs.ListLaws.{ok_then}
use Rattle.recipe_reader.specs.declared.state.State.{State}
use Rattle.recipe_reader.specs.Results.{RecipeStep, lex_step, statement_step}
use Rattle.recipe_reader.specs.Recipes.{read_items, start_recipe, recipe_in, recipe_of_file}
use Rattle.problem.specs.Limits.{size_of_recipe}
use Rattle.file_limits.proofs.Sizes.{tokens_size}
use Rattle.file_limits.proofs.TokenSizes.{tokens-fit}
use Rattle.file_limits.proofs.RowSizes.{GrowsTo, StateGrowsTo}
use Rattle.file_limits.proofs.ItemSizes.{items-grow}

lexed : (n : ℕ) (r : Result (List Token) LexFault) → IfOk r (λ found. tokens_size found ≤ n)
    → IfOk (lex_step r) (λ found. tokens_size found ≤ n)
lexed n (Ok found) h = h
lexed n (Err e) h = tt

stated : (P : List ClassItem → Type 0) (r : Result (List ClassItem) StatementFault) → IfOk r P → IfOk (statement_step r) P
stated P (Ok found) h = h
stated P (Err e) h = tt

in-state : (m n : ℕ) (r : RecipeStep State) → StateGrowsTo m r → m ≤ n → GrowsTo n (recipe_in r)
in-state m n (Ok s) h le = omega (arith, h, le)
in-state m n (Err e) h le = tt

-- a recipe is no larger than its file
pub recipe-fits : (name bytes : List ℕ) → IfOk (recipe_of_file name bytes) (λ recipe. size_of_recipe recipe ≤ length bytes)
unfolding recipe_of_file
recipe-fits name bytes =
    let n : ℕ = length bytes in
    let P : Recipe → Type 0 = λ recipe. size_of_recipe recipe ≤ n in
    ok_then (λ (found : List Token). tokens_size found ≤ n) P (lex_step (tokens bytes)) _
    (lexed n (tokens bytes) (tokens-fit bytes)) (λ found h.
    ok_then (AreInOrder 0 (length found)) P (statement_step (items bytes found)) _
    (stated (AreInOrder 0 (length found)) (items bytes found) (items_in_order bytes found)) (λ all order.
    in-state (0 + tokens_size found) n (read_items bytes found 0 all (start_recipe name))
    (items-grow bytes found 0 (length found) 0 all (start_recipe name) order) (omega (arith, h))))

-- ---- files

module _ {X : Type 0} (name bytes : X → List ℕ) where
  -- recipes are no larger than their files together
  pub recipes-fit : (files : List X) (recipes : List Recipe) → map (λ file. recipe_of_file (name file) (bytes file)) files ≡ map Ok recipes
      → sum_by size_of_recipe recipes ≤ sum_by (λ file. length (bytes file)) files
  recipes-fit files [] are = omega arith
  recipes-fit [] (recipe ∷ recipes) are = absurd cc
  recipes-fit (file ∷ files) (recipe ∷ recipes) are =
      let first : recipe_of_file (name file) (bytes file) ≡ Ok recipe = cc in
      let rest : map (λ f. recipe_of_file (name f) (bytes f)) files ≡ map Ok recipes = cc in
      let here : size_of_recipe recipe ≤ length (bytes file) =
      IfOk-at_ok (λ made. size_of_recipe made ≤ length (bytes file)) first (recipe-fits (name file) (bytes file)) in
      omega (
        arith,
        here,
        recipes-fit files recipes rest,
        sum_by-cons size_of_recipe recipe recipes,
        sum_by-cons (λ f. length (bytes f)) file files,
      )
