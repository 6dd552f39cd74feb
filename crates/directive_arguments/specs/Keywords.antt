-- What keywords say.
use Rattle.std.specs.Prelude.{ℕ, ◌==◌, Bool, true, false, List, [], ◌∷◌, ◌++◌, length, Option, Some, None, Ok, Err, if◌then◌else◌, codes}
use Rattle.std.specs.Str.{bytes_eq}
use Rattle.variant_values.specs.Texts.{Texts, with_texts}
use Rattle.spec_grammar.specs.Meaning.{truth}
use Rattle.spec_grammar.specs.Signs.{is_value}
use Rattle.spec_grammar.specs.declared.part.Spec.{Spec}
use Rattle.graph_core.specs.Graphs.{no_kinds}
use Rattle.graph_core.specs.declared.node.Kinds.{Kinds}
use Rattle.recipe_values.specs.declared.value.Scalar.{Scalar}
use Rattle.recipe_values.specs.declared.value.Scalar.TheVariants.{Text, Number, Truth, Nothing, Nested}
use Rattle.recipe_values.specs.declared.value.Element.{Element}
use Rattle.recipe_values.specs.declared.value.Value.{Value}
use Rattle.recipe_values.specs.declared.value.Value.TheVariants.{One, Many}
use Rattle.recipe_values.specs.declared.value.PlacedValue.{PlacedValue}
use Rattle.directive_arguments.specs.declared.fault.ArgumentFault.TheVariants as fault
use Rattle.directive_arguments.specs.declared.directive.Directive.{Directive}
use Rattle.directive_arguments.specs.declared.directive.Directive.TheVariants as directive
use Rattle.directive_arguments.specs.declared.directive.Keyword.{Keyword}
use Rattle.directive_arguments.specs.declared.directive.Keyword.TheVariants as keyword
use Rattle.directive_arguments.specs.declared.given.Options.{Options}
use Rattle.directive_arguments.specs.Results.{ArgumentStep, then_do, steps}
use Rattle.directive_arguments.specs.Texts.{condition}
use Rattle.directive_arguments.specs.Given.{text_in}

-- ---- `preferred`, `deprecated`, `multi`: `True` or `False`

abbrev pub truth_by : ℕ → Value → ArgumentStep Bool
truth_by place (One (Truth b)) = Ok b
truth_by place value = Err (fault.BadArgument place)

abbrev pub truth_in : PlacedValue → ArgumentStep Bool
truth_in r = truth_by r.place r.value

-- ---- `when`: a condition; `None` counts as not written

abbrev pub some_spec : ArgumentStep Spec → ArgumentStep (Option Spec)
some_spec (Ok s) = Ok (Some s)
some_spec (Err e) = Err e

abbrev pub when_text : Bool → PlacedValue → Option (List ℕ) → ArgumentStep (Option Spec)
when_text local r None = Err (fault.BadArgument r.place)
when_text local r (Some w) = some_spec (condition local r.token w)

abbrev pub when_by : Bool → PlacedValue → Value → ArgumentStep (Option Spec)
when_by local r (One Nothing) = Ok None
when_by local r value = when_text local r (text_in value)

abbrev pub when_in : Bool → PlacedValue → ArgumentStep (Option Spec)
when_in local r = when_by local r r.value

-- ---- `type`: one kind, or a tuple or list of them that is not empty

abbrev pub add_word : ℕ → List ℕ → Kinds → ArgumentStep Kinds
add_word place w kinds =
    if bytes_eq w (codes "build") then Ok (record kinds { build = true })
    else if bytes_eq w (codes "link") then Ok (record kinds { link = true })
    else if bytes_eq w (codes "run") then Ok (record kinds { run = true })
    else if bytes_eq w (codes "test") then Ok kinds
    else Err (fault.BadArgument place)

abbrev pub add_kind : ℕ → Scalar → Kinds → ArgumentStep Kinds
add_kind place (Text w) kinds = add_word place w kinds
add_kind place scalar kinds = Err (fault.BadArgument place)

abbrev pub element_kind : Element → Kinds → ArgumentStep Kinds
element_kind e kinds = add_kind e.place e.scalar kinds

abbrev pub kinds_of_value : ℕ → Value → ArgumentStep Kinds
kinds_of_value place (One scalar) = add_kind place scalar no_kinds
kinds_of_value place (Many elements) =
    if length elements == 0 then Err (fault.BadArgument place)
    else steps element_kind elements no_kinds

abbrev pub kinds_in : PlacedValue → ArgumentStep Kinds
kinds_in r = kinds_of_value r.place r.value

-- ---- `policy`: whether exactly one is to hold

abbrev pub policy_word : ℕ → List ℕ → ArgumentStep Bool
policy_word place w =
    if bytes_eq w (codes "one_of") then Ok true
    else if bytes_eq w (codes "any_of") then Ok false
    else Err (fault.BadArgument place)

abbrev pub policy_by : ℕ → Value → ArgumentStep Bool
policy_by place (One (Text w)) = policy_word place w
policy_by place value = Err (fault.BadArgument place)

abbrev pub policy_in : PlacedValue → ArgumentStep Bool
policy_in r = policy_by r.place r.value

-- ---- `values`: VALUE texts, numbers and truth values, or one such value

abbrev pub truth_text : Bool → List ℕ
truth_text true = codes "true"
truth_text false = codes "false"

-- the text of a value that a variant may have
abbrev pub scalar_text : Scalar → Option (List ℕ)
scalar_text (Text w) = Some (truth w)
scalar_text (Number w) = Some w
scalar_text (Truth b) = Some (truth_text b)
scalar_text scalar = None

abbrev pub add_text : ℕ → Option (List ℕ) → Texts → ArgumentStep Texts
add_text place None texts = Err (fault.BadArgument place)
add_text place (Some w) texts = if is_value w then Ok (texts ++ w ∷ []) else Err (fault.BadArgument place)

abbrev pub add_allowed : ℕ → Scalar → Texts → ArgumentStep Texts
add_allowed place scalar texts = add_text place (scalar_text scalar) texts

abbrev pub element_allowed : Element → Texts → ArgumentStep Texts
element_allowed e texts = add_allowed e.place e.scalar texts

abbrev pub allowed_by : ℕ → Value → ArgumentStep Texts
allowed_by place (One scalar) = add_allowed place scalar []
allowed_by place (Many elements) = steps element_allowed elements []

-- the values in byte order, each once
abbrev pub value_texts_in : PlacedValue → ArgumentStep Texts
value_texts_in r = then_do (allowed_by r.place r.value) (λ texts. Ok (with_texts [] texts))

-- ---- `default`: any value but `None`, and a tuple or list without those and without another one

abbrev pub is_default : Scalar → Bool
is_default Nothing = false
is_default Nested = false
is_default scalar = true

-- the place of the first element that is none
abbrev pub wrong_element : List Element → Option ℕ
wrong_element [] = None
wrong_element (e ∷ more) = if is_default e.scalar then wrong_element more else Some e.place

abbrev pub wrong_default : ℕ → Value → Option ℕ
wrong_default place (One scalar) = if is_default scalar then None else Some place
wrong_default place (Many elements) = wrong_element elements

abbrev pub default_by : Option ℕ → Value → ArgumentStep Value
default_by None value = Ok value
default_by (Some p) value = Err (fault.BadArgument p)

abbrev pub default_value_in : PlacedValue → ArgumentStep Value
default_value_in r = default_by (wrong_default r.place r.value) r.value

-- ---- all keywords

-- before any of them: a `requires` asks for exactly one, and a dependency is needed to build and to link
abbrev pub no_options : Options
no_options = record {
  when = None;
  preferred = false;
  deprecated = false;
  multi = false;
  one_of = true;
  kinds = record { build = true; link = true; run = false };
  default = None;
  values = None;
}

-- conditions of `provides` are local
abbrev pub is_local : Directive → Bool
is_local directive.Provides = true
is_local d = false

unfoldable pub option : Directive → Keyword → PlacedValue → Options → ArgumentStep Options
option d keyword.Preferred r o = then_do (truth_in r) (λ b. Ok (record o { preferred = b }))
option d keyword.Deprecated r o = then_do (truth_in r) (λ b. Ok (record o { deprecated = b }))
option d keyword.Multi r o = then_do (truth_in r) (λ b. Ok (record o { multi = b }))
option d keyword.When r o = then_do (when_in (is_local d) r) (λ s. Ok (record o { when = s }))
option d keyword.Kinds r o = then_do (kinds_in r) (λ kinds. Ok (record o { kinds = kinds }))
option d keyword.Policy r o = then_do (policy_in r) (λ b. Ok (record o { one_of = b }))
option d keyword.Values r o = then_do (value_texts_in r) (λ texts. Ok (record o { values = Some texts }))
option d keyword.Default r o = then_do (default_value_in r) (λ value. Ok (record o { default = Some value }))
