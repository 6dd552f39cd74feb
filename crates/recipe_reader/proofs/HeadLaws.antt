-- Heads of blocks: where no fault is kept, no condition has `^`.
use Rattle.std.proofs.Common.{◌≡◌, ℕ, ◌-◌, eqb, Bool, true, false, cond, List, length, refl}
use Rattle.std.specs.Prelude.{Option, Some, None, IfOk, IfSome}
use Rattle.std.specs.List.{AllByRecursion, slice_get}
use Rattle.std.proofs.lemmas.Bool.{eqb-true}
use Rattle.std.proofs.lemmas.List.{nil_from_length}
use Rattle.spec_grammar.specs.declared.part.Spec.{Spec}
use Rattle.recipe_reader.specs.declared.fault.RecipeFault.{RecipeFault}
use Rattle.recipe_reader.specs.declared.state.Head.{Head}
use Rattle.recipe_reader.specs.Results.{condition_at}
use Rattle.recipe_reader.specs.Recipes.{innermost, when_of_head, nested_in, nested_of, own_when_fault, outermost_fault, head}
use Rattle.directive_arguments.proofs.ListLaws.{any_then, all_push, all_at}
use Rattle.directive_arguments.specs.Said.{IsLocal}

-- where no fault is kept, no condition has `^`
abbrev pub IsHead : Head → Type 0
IsHead h = h.nested ≡ None → AllByRecursion IsLocal h.when.specs

abbrev pub IsAround : Option Head → Type 0
IsAround around = nested_in around ≡ None → AllByRecursion IsLocal (when_of_head around)

around_by : (o : Option Head) → IfSome o IsHead → IsAround o
around_by None h = λ e. tt
around_by (Some head) h = h

around_cond : (b : Bool) (o : Option Head) → IfSome o IsHead → IsAround (cond b None o)
around_cond true o h = λ e. tt
around_cond false o h = around_by o h

-- the innermost of right heads is right
pub around_is : (heads : List Head) (depth : ℕ) → AllByRecursion IsHead heads → IsAround (innermost heads depth)
around_is heads depth h = around_cond (eqb depth 0) (slice_get heads (depth - 1)) (all_at IsHead heads (depth - 1) h)

first_none : (a b : Option RecipeFault) → outermost_fault a b ≡ None → (a ≡ None) × (b ≡ None)
first_none None b e = (refl, e)
first_none (Some x) b e = cc

none_cond : (b : Bool) (x : RecipeFault) → cond b None (Some x) ≡ None → b ≡ true
none_cond true x e = refl
none_cond false x e = cc

own_none : (s : Spec) (place : ℕ) (text : List ℕ) → own_when_fault s place text ≡ None → IsLocal s
own_none s place text e =
    nil_from_length s.below (eqb-true (length s.below) 0
    (none_cond (eqb (length s.below) 0) (nested_of place (condition_at true place text)) e))

-- a head in right heads is right
pub head_is : (around : Option Head) (place : ℕ) (text : List ℕ) → IsAround around → IfOk (head around place text) IsHead
head_is around place text h =
    any_then IsHead (condition_at false place text) _ (λ s. λ e.
    let both = first_none (nested_in around) (own_when_fault s place text) e in
    all_push IsLocal (when_of_head around) s (h both.0) (own_none s place text both.1))
