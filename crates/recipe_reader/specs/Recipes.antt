-- The recipe of a file.
use Rattle.std.specs.Prelude.{ℕ, ◌+◌, ◌-◌, ◌==◌, true, false, List, [], ◌∷◌, ◌++◌, length, take, drop, Option, Some, None, Ok, Err, if◌then◌else◌}
use Rattle.std.specs.List.{slice_get}
use Rattle.std.specs.Option.{option_to_list}
use Rattle.spec_grammar.specs.declared.part.Spec.{Spec}
use Rattle.recipe_lexer.specs.Layout.{tokens}
use Rattle.recipe_lexer.specs.declared.token.Token.{Token}
use Rattle.recipe_statements.specs.Lines.{word}
use Rattle.recipe_statements.specs.Statements.{items}
use Rattle.recipe_statements.specs.declared.item.ClassItem.{ClassItem}
use Rattle.recipe_statements.specs.declared.item.ClassItem.TheVariants.{With, Call}
use Rattle.recipe_values.specs.Strings.{strings_text, first_start}
use Rattle.recipe_values.specs.Brackets.{arguments_of}
use Rattle.recipe_values.specs.declared.segment.Segment.{Segment}
use Rattle.recipe_data.specs.OfSpecGrammar.Condition.{Condition}
use Rattle.recipe_data.specs.declared.recipe.Recipe.{Recipe}
use Rattle.recipe_reader.specs.declared.fault.RecipeFault.{RecipeFault}
use Rattle.recipe_reader.specs.declared.fault.RecipeFault.TheVariants as fault
use Rattle.directive_arguments.specs.declared.given.Given.{Given}
use Rattle.directive_arguments.specs.declared.directive.Directive.{Directive}
use Rattle.directive_arguments.specs.declared.directive.Directive.TheVariants as directive
use Rattle.recipe_reader.specs.declared.state.Head.{Head}
use Rattle.recipe_reader.specs.declared.state.State.{State}
use Rattle.directive_arguments.specs.Results.{then_do}
use Rattle.recipe_reader.specs.Results.{RecipeStep, lex_step, statement_step, condition_at, as_recipe_step, arguments_at}
use Rattle.directive_arguments.specs.Table.{directive_of}
use Rattle.recipe_reader.specs.Rows.{add_directive}

-- ---- the tokens of an item, from one place of the list up to another

abbrev pub between : List Token → ℕ → ℕ → List Token
between tokens first stop = drop first (take stop tokens)

-- the byte at which the token at a place of the list starts
abbrev pub byte_at : List Token → ℕ → ℕ
byte_at tokens place = first_start (drop place tokens)

abbrev pub first_token_word : List ℕ → List Token → List ℕ
first_token_word bytes [] = []
first_token_word bytes (t ∷ more) = word bytes t

-- ---- heads

-- the innermost of the first heads, so many as a depth says
abbrev pub innermost : List Head → ℕ → Option Head
innermost heads depth = if depth == 0 then None else slice_get heads (depth - 1)

abbrev pub when_of_head : Option Head → List Spec
when_of_head None = []
when_of_head (Some h) = h.when.specs

abbrev pub nested_in : Option Head → Option RecipeFault
nested_in None = None
nested_in (Some h) = h.nested

-- a text with `^` is no local condition, and its fault says where the first `^` is
abbrev pub nested_of : ℕ → RecipeStep Spec → RecipeFault
nested_of place (Err e) = e
nested_of place (Ok s) = fault.Unsupported place

abbrev pub own_when_fault : Spec → ℕ → List ℕ → Option RecipeFault
own_when_fault s place text = if length s.below == 0 then None else Some (nested_of place (condition_at true place text))

-- the outermost fault counts
abbrev pub outermost_fault : Option RecipeFault → Option RecipeFault → Option RecipeFault
outermost_fault None own = own
outermost_fault (Some e) own = Some e

-- the head with this text, whose first string is at `place`, in those around it
abbrev pub head : Option Head → ℕ → List ℕ → RecipeStep Head
head around place text =
    then_do (condition_at false place text) (λ s. Ok (record {
      when = record { specs = when_of_head around ++ s ∷ [] };
      nested = outermost_fault (nested_in around) (own_when_fault s place text);
    }))

abbrev pub enter_head : ℕ → State → Head → State
enter_head depth s h = record s { heads = take depth s.heads ++ h ∷ [] }

-- `with when(TEXT):`, whose strings are these
unfoldable pub with_head : List ℕ → List Token → ℕ → State → RecipeStep State
with_head bytes texts depth s =
    then_do (as_recipe_step (strings_text bytes texts)) (λ text.
    then_do (head (innermost s.heads depth) (first_start texts) text) (λ h. Ok (enter_head depth s h)))

-- ---- directives

-- the conditions of the blocks around it, the outermost first, and then its own
abbrev pub when_of : Option Head → Given → Condition
when_of around g = record { specs = when_of_head around ++ option_to_list g.options.when }

abbrev pub unless_fault : Option RecipeFault → ℕ → RecipeStep ℕ
unless_fault None place = Ok place
unless_fault (Some e) place = Err e

-- a `version` stands in no block, and a `provides` in none whose condition has `^`
abbrev pub may_stand_in : Directive → Option Head → ℕ → RecipeStep ℕ
may_stand_in directive.Version None place = Ok place
may_stand_in directive.Version (Some h) place = Err (fault.Unsupported place)
may_stand_in directive.Provides around place = unless_fault (nested_in around) place
may_stand_in d around place = Ok place

-- a directive at a byte, the number of which is the place among the calls of the file
unfoldable pub call : List ℕ → Directive → ℕ → ℕ → List Segment → Option Head → State → RecipeStep State
call bytes d place number segments around s =
    then_do (may_stand_in d around place) (λ p.
    then_do (arguments_at bytes d segments) (λ g.
    add_directive d place number g (when_of around g) s))

-- each call that is an item is one of a directive
abbrev pub call_by : Option Directive → List ℕ → ℕ → ℕ → List Segment → Option Head → State → RecipeStep State
call_by None bytes place number segments around s = Err (fault.Unsupported place)
call_by (Some d) bytes place number segments around s = call bytes d place number segments around s

-- ---- items

-- an item stands in the first heads of the item before it, as many as its depth says
abbrev pub item : List ℕ → List Token → ℕ → ClassItem → State → RecipeStep State
item bytes tokens number (With first last depth) s = with_head bytes (drop 3 (between tokens first (last - 1))) depth s
item bytes tokens number (Call first last depth) s =
    call_by (directive_of (first_token_word bytes (drop first tokens))) bytes (byte_at tokens first) number
    (arguments_of bytes (byte_at tokens last) (drop 2 (between tokens first last))) (innermost s.heads depth) s

-- calls are counted
abbrev pub count_call : ClassItem → ℕ → ℕ
count_call (With first last depth) number = number
count_call (Call first last depth) number = number + 1

unfoldable pub read_items : List ℕ → List Token → ℕ → List ClassItem → State → RecipeStep State
read_items bytes tokens number [] s = Ok s
read_items bytes tokens number (i ∷ more) s =
    then_do (item bytes tokens number i s) (read_items bytes tokens (count_call i number) more)

-- ---- files

abbrev pub empty_recipe : List ℕ → Recipe
empty_recipe name = record
    { name = name; versions = []; variants = []; depends = []; provides = []; conflicts = []; requirements = [] }

abbrev pub start_recipe : List ℕ → State
start_recipe name = record { heads = []; declared = []; recipe = empty_recipe name }

abbrev pub recipe_in : RecipeStep State → RecipeStep Recipe
recipe_in (Ok s) = Ok s.recipe
recipe_in (Err e) = Err e

-- the recipe of a file, or its first fault: that of its tokens, of its statements, of its arguments and directives
unfoldable pub recipe_of_file : List ℕ → List ℕ → RecipeStep Recipe
recipe_of_file name bytes =
    then_do (lex_step (tokens bytes)) (λ found.
    then_do (statement_step (items bytes found)) (λ all.
    recipe_in (read_items bytes found 0 all (start_recipe name))))
