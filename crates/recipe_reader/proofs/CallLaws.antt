-- The condition of a directive is taken out of its arguments before they add their rows.
use Rattle.std.proofs.Common.{◌≡◌, ◌∙◌, ℕ, List, ◌++◌, refl, ap, subst}
use Rattle.std.specs.Prelude.{Result, Ok, Option, Some, None}
use Rattle.std.specs.Option.{option_to_list}
use Rattle.spec_grammar.specs.declared.part.Spec.{Spec}
use Rattle.recipe_data.specs.OfSpecGrammar.Condition.{Condition}
use Rattle.recipe_reader.specs.declared.fault.RecipeFault.{RecipeFault}
use Rattle.directive_arguments.specs.declared.directive.Directive.{Directive}
use Rattle.directive_arguments.specs.declared.directive.Directive.TheVariants as directive
use Rattle.directive_arguments.specs.declared.given.Given.{Given}
use Rattle.directive_arguments.specs.declared.given.Options.{Options}
use Rattle.recipe_reader.specs.declared.state.Head.{Head}
use Rattle.recipe_reader.specs.declared.state.State.{State}
use Rattle.recipe_reader.specs.Results.{RecipeStep, Gives, arguments_at}
use Rattle.recipe_values.specs.declared.segment.Segment.{Segment}
use Rattle.recipe_reader.specs.Rows.{add_version, add_variant, into, add_directive}
use Rattle.recipe_reader.specs.Recipes.{when_of_head, when_of, may_stand_in, call}

abbrev pub with_when : Option Spec → Given → Given
with_when o g = record g { options = record g.options { when = o } }

version_ignores : (place number : ℕ) (v : Option (List ℕ)) (options : Options) (o : Option Spec) (s : State)
    → add_version place number v (record options { when = o }) s ≡ add_version place number v options s
version_ignores place number None options o s = refl
version_ignores place number (Some v) options o s = refl

variant_ignores : (place number : ℕ) (name : Option (List ℕ)) (options : Options) (o : Option Spec) (when : Condition) (s : State)
    → into s (add_variant place number name (record options { when = o }) when s.recipe)
    ≡ into s (add_variant place number name options when s.recipe)
variant_ignores place number None options o when s = refl
variant_ignores place number (Some name) options o when s = refl

add_ignores : (d : Directive) (place number : ℕ) (g : Given) (o : Option Spec) (when : Condition) (s : State)
    → add_directive d place number (with_when o g) when s ≡ add_directive d place number g when s
unfolding add_directive
add_ignores directive.Version place number g o when s = version_ignores place number g.positional.version g.options o s
add_ignores directive.Variant place number g o when s = variant_ignores place number g.positional.name g.options o when s
add_ignores directive.DependsOn place number g o when s = refl
add_ignores directive.Provides place number g o when s = refl
add_ignores directive.Conflicts place number g o when s = refl
add_ignores directive.Requires place number g o when s = refl

-- a directive with its conditions adds what the definition adds
pub added : {X : Type 0} (d : Directive) (place number : ℕ) (g : Given) (o : Option Spec) (when : Condition) (around : Option Head)
    (s : State) (r : Result X RecipeFault) (new : State)
    → when.specs ≡ when_of_head around ++ option_to_list g.options.when → Gives r new (add_directive d place number (with_when o g) when s)
    → Gives r new (add_directive d place number g (when_of around g) s)
added d place number g o when around s r new specs given =
    let same : when ≡ when_of around g = ap (λ (l : List Spec). let c : Condition = record { specs = l } in c) specs in
    subst (λ (step : RecipeStep State). Gives r new step) (add_ignores d place number g o when s
    ∙ ap (λ (w : Condition). add_directive d place number g w s) same) given

-- equal blocks and conditions give equal conditions of a row
pub specs_by : (a b : Option Head) (o p : Option Spec) (specs : List Spec) → a ≡ b → o ≡ p → specs ≡ when_of_head a ++ option_to_list o
    → specs ≡ when_of_head b ++ option_to_list p
specs_by a b o p specs e f h =
    h ∙ ap (λ (x : Option Head). when_of_head x ++ option_to_list o) e ∙ ap (λ (y : Option Spec). when_of_head b ++ option_to_list y) f

-- a directive that may stand there, with its arguments
pub called : {X : Type 0} (bytes : List ℕ) (d : Directive) (place number : ℕ) (segments : List Segment) (other around : Option Head)
    (s : State) (p : ℕ) (g : Given) (r : Result X RecipeFault) (new : State)
    → other ≡ around → may_stand_in d other place ≡ Ok p → arguments_at bytes d segments ≡ Ok g
    → Gives r new (add_directive d place number g (when_of around g) s) → Gives r new (call bytes d place number segments around s)
unfolding call
called bytes d place number segments other around s p g r new same stands args given =
    let there = rw same at stands in
    rw (there, args) given
