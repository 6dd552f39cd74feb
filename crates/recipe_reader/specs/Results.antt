-- Steps of reading a file, and the faults of the stages below.
use Rattle.std.specs.Prelude.{◌≡◌, ℕ, Bool, List, Result, Ok, Err}
use Rattle.spec_grammar.specs.declared.part.Spec.{Spec}
use Rattle.recipe_lexer.specs.declared.token.Token.{Token}
use Rattle.recipe_statements.specs.declared.item.ClassItem.{ClassItem}
use Rattle.recipe_lexer.specs.declared.token.LexFault.{LexFault}
use Rattle.recipe_lexer.specs.declared.token.LexFault.TheVariants as lex
use Rattle.recipe_statements.specs.declared.item.StatementFault.{StatementFault}
use Rattle.recipe_statements.specs.declared.item.StatementFault.TheVariants as statement
use Rattle.recipe_values.specs.declared.segment.Segment.{Segment}
use Rattle.directive_arguments.specs.declared.fault.ArgumentFault.{ArgumentFault}
use Rattle.directive_arguments.specs.declared.fault.ArgumentFault.TheVariants as argument
use Rattle.directive_arguments.specs.declared.directive.Directive.{Directive}
use Rattle.directive_arguments.specs.declared.given.Given.{Given}
use Rattle.directive_arguments.specs.Texts.{condition}
use Rattle.directive_arguments.specs.Arguments.{arguments}
use Rattle.recipe_reader.specs.declared.fault.RecipeFault.{RecipeFault}
use Rattle.recipe_reader.specs.declared.fault.RecipeFault.TheVariants as fault

abbrev pub RecipeStep : Type 0 → Type 0
RecipeStep A = Result A RecipeFault

-- ---- faults of the stages below

abbrev pub lex_fault : LexFault → RecipeFault
lex_fault lex.OutOfMemory = fault.OutOfMemory
lex_fault e = fault.Lex e

abbrev pub statement_fault : StatementFault → RecipeFault
statement_fault (statement.Unsupported p) = fault.Unsupported p
statement_fault statement.NoClass = fault.NoClass
statement_fault (statement.TwoClasses p) = fault.TwoClasses p
statement_fault (statement.TooDeep p) = fault.TooDeep p
statement_fault statement.OutOfMemory = fault.OutOfMemory

abbrev pub argument_fault : ArgumentFault → RecipeFault
argument_fault (argument.Unsupported p) = fault.Unsupported p
argument_fault (argument.Spec p e) = fault.Spec p e
argument_fault (argument.BadArgument p) = fault.BadArgument p
argument_fault argument.OutOfMemory = fault.OutOfMemory

-- ---- their steps

abbrev pub lex_step : Result (List Token) LexFault → RecipeStep (List Token)
lex_step (Ok found) = Ok found
lex_step (Err e) = Err (lex_fault e)

abbrev pub statement_step : Result (List ClassItem) StatementFault → RecipeStep (List ClassItem)
statement_step (Ok found) = Ok found
statement_step (Err e) = Err (statement_fault e)

abbrev pub argument_step : {A : Type 0} → Result A ArgumentFault → RecipeStep A
argument_step (Ok a) = Ok a
argument_step (Err e) = Err (argument_fault e)

-- the condition that a text is
abbrev pub condition_at : Bool → ℕ → List ℕ → RecipeStep Spec
condition_at local place text = argument_step (condition local place text)

-- what the arguments of a directive say
abbrev pub arguments_at : List ℕ → Directive → List Segment → RecipeStep Given
arguments_at bytes d segments = argument_step (arguments bytes d segments)

-- the strings that are no text are not read
abbrev pub as_recipe_step : {A : Type 0} → Result A ℕ → RecipeStep A
as_recipe_step (Ok a) = Ok a
as_recipe_step (Err place) = Err (fault.Unsupported place)

-- ---- what a call answers

-- the fault is that of the step, but for want of memory, which may come at any time
abbrev pub Fails : {A : Type 0} → RecipeFault → RecipeStep A → Type 0
Fails fault.OutOfMemory step = Unit {0}
Fails e step = step ≡ Err e

abbrev pub Is : {A : Type 0} → Result A RecipeFault → RecipeStep A → Type 0
Is (Ok a) step = step ≡ Ok a
Is (Err e) step = Fails e step

-- the call changed something to what the step gives
abbrev pub Gives : {X A : Type 0} → Result X RecipeFault → A → RecipeStep A → Type 0
Gives (Ok x) new step = step ≡ Ok new
Gives (Err e) new step = Fails e step
