-- What every recipe that was read has, step by step.
use Rattle.std.proofs.Common.{◌≡◌, ◌∙◌, ℕ, ◌+◌, ◌-◌, true, List, [], ◌∷◌, ◌++◌, length, map, take, drop, refl, ap, subst, arith}
use Rattle.std.specs.Prelude.{Result, Option, Some, None, Ok, Err, IfOk, ◌==◌, is_some}
use Rattle.std.specs.List.{AllByRecursion}
use Rattle.std.specs.Option.{option_to_list}
use Rattle.std.proofs.lemmas.Bool.{eq-eqb}
use Rattle.std.proofs.lemmas.List.{length-append, length-map}
use Rattle.spec_grammar.specs.Signs.{IsName, is_name}
use Rattle.spec_grammar.specs.declared.part.Spec.{Spec}
use Rattle.recipe_lexer.specs.Layout.{tokens}
use Rattle.recipe_lexer.specs.declared.token.Token.{Token}
use Rattle.recipe_statements.specs.Statements.{items}
use Rattle.recipe_statements.specs.declared.item.ClassItem.{ClassItem}
use Rattle.recipe_statements.specs.declared.item.ClassItem.TheVariants.{With, Call}
use Rattle.recipe_values.specs.Strings.{strings_text, first_start}
use Rattle.recipe_values.specs.Brackets.{arguments_of}
use Rattle.recipe_values.specs.declared.segment.Segment.{Segment}
use Rattle.recipe_data.specs.Right.{is_distinct, has_right_default, is_alone, is_local_row, all_numbers, numbers_of, is_right_recipe}
use Rattle.recipe_data.specs.declared.recipe.ProvideRow.{ProvideRow}
use Rattle.recipe_data.specs.declared.recipe.Recipe.{Recipe}
use Rattle.directive_arguments.specs.declared.fault.ArgumentFault.{ArgumentFault}
use Rattle.recipe_reader.specs.declared.fault.RecipeFault.{RecipeFault}
use Rattle.directive_arguments.specs.declared.directive.Directive.{Directive}
use Rattle.directive_arguments.specs.declared.directive.Directive.TheVariants as directive
use Rattle.directive_arguments.specs.declared.given.Given.{Given}
use Rattle.recipe_reader.specs.declared.state.Head.{Head}
use Rattle.recipe_reader.specs.declared.state.State.{State}
use Rattle.directive_arguments.specs.Results.{then_do}
use Rattle.recipe_reader.specs.Results.{RecipeStep, lex_step, statement_step, argument_step, as_recipe_step, arguments_at}
use Rattle.directive_arguments.specs.Table.{directive_of}
use Rattle.recipe_reader.specs.Rows.{add_directive}
use Rattle.recipe_reader.specs.Recipes.{between, byte_at, first_token_word, innermost, when_of_head, nested_in, head, with_head, when_of, unless_fault, may_stand_in, call, call_by, item, count_call, read_items, start_recipe, recipe_in, recipe_of_file}
use Rattle.recipe_reader.specs.Kept.{IsKept}
use Rattle.directive_arguments.proofs.ListLaws.{ok_then, any_then, ok_both, all_append, all_push, all_take, all_weaker, list_all_is}
use Rattle.recipe_reader.proofs.NumberLaws.{all_differ}
use Rattle.directive_arguments.specs.Said.{IsLocal, IsLocalWhen, GivesLocal, GivesNamed}
use Rattle.directive_arguments.proofs.ArgumentLaws.{arguments_local, arguments_named}
use Rattle.recipe_reader.proofs.HeadLaws.{IsHead, IsAround, around_is, head_is}
use Rattle.recipe_reader.proofs.KeptRows.{IsVariantRow, IsProvideRow, Keeps, starts_rows}
use Rattle.recipe_reader.proofs.RowLaws.{add_version_keeps, add_variant_keeps, add_depends_keeps, add_provides_keeps, add_conflict_keeps, add_requirement_keeps, into_keeps}

local_own : (o : Option Spec) → IsLocalWhen o → AllByRecursion IsLocal (option_to_list o)
local_own None h = tt
local_own (Some s) h = (h, tt)

unless_then : (P : State → Type 0) (o : Option RecipeFault) (place : ℕ) (f : ℕ → RecipeStep State) → (o ≡ None → (p : ℕ) → IfOk (f p) P)
    → IfOk (then_do (unless_fault o place) f) P
unless_then P None place f h = h refl place
unless_then P (Some e) place f h = tt

abbrev GivesBoth : Given → Type 0
GivesBoth g = GivesNamed g × GivesLocal g

argument_ok : {A : Type 0} (P : A → Type 0) (a : Result A ArgumentFault) → IfOk a P → IfOk (argument_step a) P
argument_ok P (Ok x) h = h
argument_ok P (Err e) h = tt

-- ---- right recipes

alone_is : (s : Spec) → IsLocal s → is_alone s ≡ true
alone_is s e = ap (λ below. length below == 0) e

local_is : (row : ProvideRow) → IsProvideRow row → is_local_row row ≡ true
local_is row h = list_all_is is_alone row.when.specs (all_weaker IsLocal (λ s. is_alone s ≡ true) alone_is row.when.specs h.0)

lengths : (a b c : List ℕ) → length (a ++ b ++ c) ≡ length a + length b + length c
lengths a b c =
    let outer = length-append (a ++ b) c in
    let inner = length-append a b in
    omega (arith, outer, inner)

module _ (owner : List ℕ) where
  numbers_is : (next : ℕ) (s : State) → Keeps owner next s
      → (length (numbers_of s.recipe) == length s.recipe.depends + length s.recipe.conflicts + length s.recipe.requirements) ≡ true
  numbers_is next s k =
      let recipe = s.recipe in
      let all = all_differ (all_numbers recipe) k.rows.apart in
      let sum = lengths (map (λ row. row.number) recipe.depends) (map (λ row. row.number) recipe.conflicts)
      (map (λ row. row.number) recipe.requirements) in
      let d = length-map recipe.depends (λ row. row.number) in
      let c = length-map recipe.conflicts (λ row. row.number) in
      let r = length-map recipe.requirements (λ row. row.number) in
      eq-eqb (length (numbers_of recipe)) (length recipe.depends + length recipe.conflicts + length recipe.requirements)
      (omega (arith, all, sum, d, c, r))

  right_is : (next : ℕ) (s : State) → Keeps owner next s → is_right_recipe s.recipe ≡ true
  unfolding is_right_recipe
  right_is next s k =
      let recipe = s.recipe in
      let versions : is_distinct (map (λ row. row.version) recipe.versions) ≡ true = ap is_distinct k.rows.versions.texts
      ∙ k.rows.versions.distinct in
      let variants = list_all_is has_right_default recipe.variants
      (all_weaker IsVariantRow (λ row. has_right_default row ≡ true) (λ row h. h.0) recipe.variants k.rows.variants.each) in
      let provides = list_all_is is_local_row recipe.provides
      (all_weaker IsProvideRow (λ row. is_local_row row ≡ true) local_is recipe.provides k.rows.provides.each) in
      let depends = list_all_is (λ row. is_some row.part.name) recipe.depends k.rows.depends.each in
      rw (
        versions,
        variants,
        provides,
        depends,
        k.rows.depends.numbers.rising,
        k.rows.conflicts.rising,
        k.rows.requirements.rising,
        numbers_is next s k,
      ) refl

  kept_is : (next : ℕ) (s : State) → Keeps owner next s → IsKept s.recipe
  kept_is next s k = record {
    right = right_is next s k;
    versions = k.rows.versions.numbers.rising;
    variants = k.rows.variants.numbers.rising;
    provides = k.rows.provides.numbers.climbing;
    variant_names = list_all_is (λ row. is_name row.name) s.recipe.variants
        (all_weaker IsVariantRow (λ row. IsName row.name) (λ row h. h.1) s.recipe.variants k.rows.variants.each);
    virtual_names = list_all_is (λ row. is_name row.name) s.recipe.provides
        (all_weaker IsProvideRow (λ row. IsName row.name) (λ row h. h.1) s.recipe.provides k.rows.provides.each);
  }

  -- ---- calls

  call_keeps : (bytes : List ℕ) (d : Directive) (place number : ℕ) (segments : List Segment) (around : Option Head) (s : State)
      → IsAround around → Keeps owner number s → IfOk (call bytes d place number segments around s) (Keeps owner (number + 1))
  unfolding call add_directive
  call_keeps bytes directive.Version place number segments around s h k =
      any_then (Keeps owner (number + 1)) (may_stand_in directive.Version around place) _
      (λ p. any_then (Keeps owner (number + 1)) (arguments_at bytes directive.Version segments) _ (λ g.
      add_version_keeps owner place number g.positional.version g.options s k))
  call_keeps bytes directive.Variant place number segments around s h k =
      any_then (Keeps owner (number + 1)) (may_stand_in directive.Variant around place) _
      (λ p. ok_then GivesNamed (Keeps owner (number + 1)) (arguments_at bytes directive.Variant segments) _
      (argument_ok GivesNamed _ (arguments_named bytes directive.Variant segments)) (λ g named.
      into_keeps owner (number + 1) s _ k.heads (add_variant_keeps owner place number g.positional.name g.options (when_of around g) s
      named.name k)))
  call_keeps bytes directive.DependsOn place number segments around s h k =
      any_then (Keeps owner (number + 1)) (may_stand_in directive.DependsOn around place) _
      (λ p. ok_then GivesNamed (Keeps owner (number + 1)) (arguments_at bytes directive.DependsOn segments) _
      (argument_ok GivesNamed _ (arguments_named bytes directive.DependsOn segments)) (λ g named.
      into_keeps owner (number + 1) s _ k.heads (add_depends_keeps owner place number g.positional.part g.options.kinds (when_of around g) s
      named.part k)))
  call_keeps bytes directive.Provides place number segments around s h k =
      unless_then (Keeps owner (number + 1)) (nested_in around) place _
      (λ none p. ok_then GivesBoth (Keeps owner (number + 1)) (arguments_at bytes directive.Provides segments) _
      (ok_both GivesNamed GivesLocal (arguments_at bytes directive.Provides segments)
      (argument_ok GivesNamed _ (arguments_named bytes directive.Provides segments))
      (argument_ok GivesLocal _ (arguments_local bytes segments))) (λ g both.
      into_keeps owner (number + 1) s _ k.heads (add_provides_keeps owner place number g.positional.parts (when_of around g) s both.0.parts
      (all_append IsLocal (when_of_head around) (option_to_list g.options.when) (h none) (local_own g.options.when both.1)) k)))
  call_keeps bytes directive.Conflicts place number segments around s h k =
      any_then (Keeps owner (number + 1)) (may_stand_in directive.Conflicts around place) _
      (λ p. any_then (Keeps owner (number + 1)) (arguments_at bytes directive.Conflicts segments) _ (λ g.
      into_keeps owner (number + 1) s _ k.heads (add_conflict_keeps owner place number g.positional.spec (when_of around g) s k)))
  call_keeps bytes directive.Requires place number segments around s h k =
      any_then (Keeps owner (number + 1)) (may_stand_in directive.Requires around place) _
      (λ p. any_then (Keeps owner (number + 1)) (arguments_at bytes directive.Requires segments) _ (λ g.
      into_keeps owner (number + 1) s _ k.heads (add_requirement_keeps owner place number g.positional.specs g.options.one_of
      (when_of around g) s k)))

  call_by_keeps : (d : Option Directive) (bytes : List ℕ) (place number : ℕ) (segments : List Segment) (around : Option Head) (s : State)
      → IsAround around → Keeps owner number s → IfOk (call_by d bytes place number segments around s) (Keeps owner (number + 1))
  call_by_keeps None bytes place number segments around s h k = tt
  call_by_keeps (Some d) bytes place number segments around s h k = call_keeps bytes d place number segments around s h k

  with_keeps : (bytes : List ℕ) (texts : List Token) (depth next : ℕ) (s : State) → Keeps owner next s
      → IfOk (with_head bytes texts depth s) (Keeps owner next)
  unfolding with_head
  with_keeps bytes texts depth next s k =
      any_then (Keeps owner next) (as_recipe_step (strings_text bytes texts)) _ (λ text.
      ok_then IsHead (Keeps owner next) (head (innermost s.heads depth) (first_start texts) text) _
      (head_is (innermost s.heads depth) (first_start texts) text (around_is s.heads depth k.heads)) (λ h is.
      record { rows = k.rows; heads = all_push IsHead (take depth s.heads) h (all_take IsHead depth s.heads k.heads) is }))

  -- ---- files

  item_keeps : (bytes : List ℕ) (tokens : List Token) (number : ℕ) (i : ClassItem) (s : State) → Keeps owner number s
      → IfOk (item bytes tokens number i s) (Keeps owner (count_call i number))
  item_keeps bytes tokens number (With first last depth) s k = with_keeps bytes (drop 3 (between tokens first (last - 1))) depth number s k
  item_keeps bytes tokens number (Call first last depth) s k =
      call_by_keeps (directive_of (first_token_word bytes (drop first tokens))) bytes (byte_at tokens first) number
      (arguments_of bytes (byte_at tokens last) (drop 2 (between tokens first last))) (innermost s.heads depth) s
      (around_is s.heads depth k.heads) k

  abbrev Ends : State → Type 0
  Ends s = (next : ℕ) × Keeps owner next s

  items_keep : (bytes : List ℕ) (tokens : List Token) (number : ℕ) (all : List ClassItem) (s : State) → Keeps owner number s
      → IfOk (read_items bytes tokens number all s) Ends
  unfolding read_items
  items_keep bytes tokens number [] s k = (number, k)
  items_keep bytes tokens number (i ∷ more) s k =
      ok_then (Keeps owner (count_call i number)) Ends (item bytes tokens number i s) _ (item_keeps bytes tokens number i s k)
      (λ t m. items_keep bytes tokens (count_call i number) more t m)

  -- it is kept, and has the name of its file
  abbrev pub IsOf : Recipe → Type 0
  IsOf recipe = IsKept recipe × (recipe.name ≡ owner)

  recipe_keeps : (a : RecipeStep State) → IfOk a Ends → IfOk (recipe_in a) IsOf
  recipe_keeps (Ok s) k = (kept_is k.0 s k.1, k.1.rows.name)
  recipe_keeps (Err e) k = tt

  starts : Keeps owner 0 (start_recipe owner)
  starts = record { rows = starts_rows owner; heads = tt }

  both : (bytes : List ℕ) → IfOk (recipe_of_file owner bytes) IsOf
  unfolding recipe_of_file
  both bytes =
      any_then IsOf (lex_step (tokens bytes)) _ (λ found.
      any_then IsOf (statement_step (items bytes found)) _ (λ all.
      recipe_keeps (read_items bytes found 0 all (start_recipe owner)) (items_keep bytes found 0 all (start_recipe owner) starts)))

  first_of : (a : RecipeStep Recipe) → IfOk a IsOf → IfOk a IsKept
  first_of (Ok recipe) h = h.0
  first_of (Err e) h = tt

  second_of : (a : RecipeStep Recipe) → IfOk a IsOf → IfOk a (λ recipe. recipe.name ≡ owner)
  second_of (Ok recipe) h = h.1
  second_of (Err e) h = tt

  -- each recipe that is read is right
  pub kept : (bytes : List ℕ) → IfOk (recipe_of_file owner bytes) IsKept
  kept bytes = first_of (recipe_of_file owner bytes) (both bytes)

  -- each recipe that is read has the name of its file
  pub named : (bytes : List ℕ) → IfOk (recipe_of_file owner bytes) (λ recipe. recipe.name ≡ owner)
  named bytes = second_of (recipe_of_file owner bytes) (both bytes)

  -- a recipe that was read
  pub right : (bytes : List ℕ) (recipe : Recipe) → recipe_of_file owner bytes ≡ Ok recipe → is_right_recipe recipe ≡ true
  right bytes recipe is = (subst (λ (a : RecipeStep Recipe). IfOk a IsKept) is (kept bytes)).right
