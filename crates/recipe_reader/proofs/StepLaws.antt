-- Steps one after the other, and the loop over items.
use Rattle.std.proofs.Common.{◌≡◌, ◌∙◌, ℕ, ◌+◌, ◌<◌, ◌≤◌, List, [], ◌∷◌, length, drop, get_or, refl, sym, zero, suc, arith}
use Rattle.std.specs.Prelude.{Ok}
use Rattle.recipe_lexer.specs.declared.token.Token.{Token}
use Rattle.recipe_statements.specs.declared.item.ClassItem.{ClassItem}
use Rattle.directive_arguments.specs.Results.{then_do}
use Rattle.directive_arguments.proofs.StepLaws.{drop_here, drop_past}
use Rattle.recipe_reader.specs.declared.state.State.{State}
use Rattle.recipe_reader.specs.declared.fault.RecipeFault.{RecipeFault}
use Rattle.recipe_reader.specs.declared.fault.RecipeFault.TheVariants as fault
use Rattle.recipe_reader.specs.Results.{RecipeStep, Fails}
use Rattle.recipe_reader.specs.Recipes.{item, count_call, read_items}

-- a fault of the first step is one of both
pub fails_then : {A B : Type 0} (e : RecipeFault) (a : RecipeStep A) (f : A → RecipeStep B) → Fails e a → Fails e (then_do a f)
fails_then fault.OutOfMemory a f h = tt
fails_then e a f h = rw h refl

-- equal steps have the same faults
pub fails_along : {A : Type 0} (e : RecipeFault) (a b : RecipeStep A) → a ≡ b → Fails e a → Fails e b
fails_along fault.OutOfMemory a b same h = tt
fails_along e a b same h = sym same ∙ h

-- ---- items

-- the items from a place on begin with the one there
pub items_here : (bytes : List ℕ) (tokens : List Token) (number : ℕ) (xs : List ClassItem) (i : ℕ) (x : ClassItem) (s : State)
    → i < length xs
    → x ≡ get_or xs i x → read_items bytes tokens number (drop i xs) s ≡ then_do (item bytes tokens number x s)
    (read_items bytes tokens (count_call x number) (drop (i + 1) xs))
unfolding read_items
items_here bytes tokens number xs i x s h is = rw (drop_here xs i x h is) refl

-- behind the last item none is left
pub items_past : (bytes : List ℕ) (tokens : List Token) (number : ℕ) (xs : List ClassItem) (i : ℕ) (s : State) → length xs ≤ i
    → read_items bytes tokens number (drop i xs) s ≡ Ok s
unfolding read_items
items_past bytes tokens number xs i s h = rw (drop_past xs i h) refl

-- an item that is read leaves the others
pub items_ok : (bytes : List ℕ) (tokens : List Token) (number : ℕ) (xs : List ClassItem) (i : ℕ) (x : ClassItem) (s t : State)
    (all : RecipeStep State)
    → i < length xs → x ≡ get_or xs i x → read_items bytes tokens number (drop i xs) s ≡ all → item bytes tokens number x s ≡ Ok t
    → read_items bytes tokens (count_call x number) (drop (i + 1) xs) t ≡ all
items_ok bytes tokens number xs i x s t all h is inv took = let here = items_here bytes tokens number xs i x s h is in let then_t =
    rw took at here in sym then_t ∙ inv

-- an item that fails is the fault of all
pub items_err : (bytes : List ℕ) (tokens : List Token) (number : ℕ) (xs : List ClassItem) (i : ℕ) (x : ClassItem) (s : State)
    (all : RecipeStep State)
    (e : RecipeFault) → i < length xs → x ≡ get_or xs i x → read_items bytes tokens number (drop i xs) s ≡ all
    → Fails e (item bytes tokens number x s) → Fails e all
items_err bytes tokens number xs i x s all e h is inv fails =
    fails_along e _ _ (sym (items_here bytes tokens number xs i x s h is) ∙ inv)
    (fails_then e (item bytes tokens number x s) (read_items bytes tokens (count_call x number) (drop (i + 1) xs)) fails)

get_same : {X : Type 0} (xs : List X) (i : ℕ) (d e : X) → i < length xs → get_or xs i d ≡ get_or xs i e
get_same [] i d e h = absurd (omega (arith, h))
get_same (x ∷ xs) zero d e h = refl
get_same (x ∷ xs) (suc i) d e h = get_same xs i d e (omega arith)

-- the same, for the item that stands at the place
pub items_ok_at : (bytes : List ℕ) (tokens : List Token) (number : ℕ) (xs : List ClassItem) (i : ℕ) (d : ClassItem) (s t : State)
    (all : RecipeStep State)
    → i < length xs → read_items bytes tokens number (drop i xs) s ≡ all → item bytes tokens number (get_or xs i d) s ≡ Ok t
    → read_items bytes tokens (count_call (get_or xs i d) number) (drop (i + 1) xs) t ≡ all
items_ok_at bytes tokens number xs i d s t all h inv took =
    items_ok bytes tokens number xs i (get_or xs i d) s t all h (get_same xs i d (get_or xs i d) h) inv took

-- the same, for the item that stands at the place
pub items_err_at : (bytes : List ℕ) (tokens : List Token) (number : ℕ) (xs : List ClassItem) (i : ℕ) (d : ClassItem) (s : State)
    (all : RecipeStep State)
    (e : RecipeFault) → i < length xs → read_items bytes tokens number (drop i xs) s ≡ all
    → Fails e (item bytes tokens number (get_or xs i d) s) → Fails e all
items_err_at bytes tokens number xs i d s all e h inv fails =
    items_err bytes tokens number xs i (get_or xs i d) s all e h (get_same xs i d (get_or xs i d) h) inv fails
