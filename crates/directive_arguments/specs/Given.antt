-- What positional values say.
use Rattle.std.specs.Prelude.{ℕ, nat_lt, Bool, false, List, [], ◌∷◌, ◌++◌, length, Option, Some, None, is_some, Result, Ok, Err, if◌then◌else◌}
use Rattle.spec_grammar.specs.Signs.{is_name}
use Rattle.spec_grammar.specs.declared.mode.Mode.TheVariants.{Dependency, Provision}
use Rattle.spec_grammar.specs.declared.part.Part.{Part}
use Rattle.spec_grammar.specs.declared.part.Spec.{Spec}
use Rattle.recipe_values.specs.Values.{segment_value, place_of}
use Rattle.recipe_values.specs.declared.value.Scalar.TheVariants.{Text, Number}
use Rattle.recipe_values.specs.declared.value.Value.{Value}
use Rattle.recipe_values.specs.declared.value.Value.TheVariants.{One}
use Rattle.recipe_values.specs.declared.value.PlacedValue.{PlacedValue}
use Rattle.recipe_values.specs.declared.segment.Segment.{Segment}
use Rattle.directive_arguments.specs.declared.fault.ArgumentFault.TheVariants as fault
use Rattle.directive_arguments.specs.declared.directive.Directive.{Directive}
use Rattle.directive_arguments.specs.declared.directive.Directive.TheVariants.{Version, Variant, DependsOn, Provides, Conflicts, Requires}
use Rattle.directive_arguments.specs.declared.directive.Count.{Count}
use Rattle.directive_arguments.specs.declared.directive.Count.TheVariants as count
use Rattle.directive_arguments.specs.declared.given.Positional.{Positional}
use Rattle.directive_arguments.specs.Results.{ArgumentStep, then_do}
use Rattle.directive_arguments.specs.Table.{takes}
use Rattle.directive_arguments.specs.Texts.{condition, part_of, version_of}

-- ---- values as texts

abbrev pub as_argument_step : {A : Type 0} → Result A ℕ → ArgumentStep A
as_argument_step (Ok a) = Ok a
as_argument_step (Err place) = Err (fault.Unsupported place)

-- the value of a segment
abbrev pub read : List ℕ → Segment → ArgumentStep PlacedValue
read bytes s = as_argument_step (segment_value bytes s)

-- a whole number counts as its digits
abbrev pub text_in : Value → Option (List ℕ)
text_in (One (Text w)) = Some w
text_in (One (Number w)) = Some w
text_in value = None

-- ---- the positional values of a directive

abbrev pub nothing_positional : Positional
nothing_positional = record { version = None; name = None; part = None; parts = []; spec = None; specs = [] }

abbrev pub with_version : Positional → ArgumentStep (List ℕ) → ArgumentStep Positional
with_version p found = then_do found (λ v. Ok (record p { version = Some v }))

abbrev pub with_name : Positional → ℕ → List ℕ → ArgumentStep Positional
with_name p place w = if is_name w then Ok (record p { name = Some w }) else Err (fault.BadArgument place)

abbrev pub with_part : Positional → ArgumentStep Part → ArgumentStep Positional
with_part p found = then_do found (λ part. Ok (record p { part = Some part }))

abbrev pub with_provided : Positional → ArgumentStep Part → ArgumentStep Positional
with_provided p found = then_do found (λ part. Ok (record p { parts = p.parts ++ part ∷ [] }))

abbrev pub with_conflict : Positional → ArgumentStep Spec → ArgumentStep Positional
with_conflict p found = then_do found (λ s. Ok (record p { spec = Some s }))

abbrev pub with_required : Positional → ArgumentStep Spec → ArgumentStep Positional
with_required p found = then_do found (λ s. Ok (record p { specs = p.specs ++ s ∷ [] }))

-- a text, which stands at a place and whose first string is at `token`
unfoldable pub with_text : Directive → ℕ → ℕ → List ℕ → Positional → ArgumentStep Positional
with_text Version place token w p = with_version p (version_of token w)
with_text Variant place token w p = with_name p place w
with_text DependsOn place token w p = with_part p (part_of Dependency token w)
with_text Provides place token w p = with_provided p (part_of Provision token w)
with_text Conflicts place token w p = with_conflict p (condition false token w)
with_text Requires place token w p = with_required p (condition false token w)

abbrev pub with_text_in : Option (List ℕ) → Directive → PlacedValue → Positional → ArgumentStep Positional
with_text_in None d r p = Err (fault.BadArgument r.place)
with_text_in (Some w) d r p = with_text d r.place r.token w p

-- a positional value, which is to be a text
abbrev pub with_value : Directive → PlacedValue → Positional → ArgumentStep Positional
with_value d r p = with_text_in (text_in r.value) d r p

-- whether the directive has a positional value
abbrev pub has_value : Directive → Positional → Bool
has_value Version p = is_some p.version
has_value Variant p = is_some p.name
has_value DependsOn p = is_some p.part
has_value Provides p = nat_lt 0 (length p.parts)
has_value Conflicts p = is_some p.spec
has_value Requires p = nat_lt 0 (length p.specs)

-- one value more, behind another one or as the first
abbrev pub further : Count → List ℕ → Directive → Segment → Positional → ArgumentStep Positional
further count.One bytes d s p = Err (fault.Unsupported (place_of s))
further count.OneAndOthers bytes d s p = Ok p
further count.OneOrMore bytes d s p = then_do (read bytes s) (λ r. with_value d r p)

unfoldable pub positional : List ℕ → Directive → Segment → Positional → ArgumentStep Positional
positional bytes d s p =
    if has_value d p then further (takes d).positional bytes d s p
    else then_do (read bytes s) (λ r. with_value d r p)
