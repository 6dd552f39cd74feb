-- What holds of what the arguments of each directive say: names are there, and conditions of `provides` have no `^`.
use Rattle.std.proofs.Common.{◌≡◌, ℕ, Bool, true, false, cond, List, [], ◌∷◌, refl, ap, arith}
use Rattle.std.specs.Prelude.{Result, Ok, Err, Option, Some, None, IfOk}
use Rattle.spec_grammar.specs.Right.{needs_name}
use Rattle.spec_grammar.specs.Signs.{is_name}
use Rattle.spec_grammar.specs.declared.mode.Mode.{Mode}
use Rattle.spec_grammar.specs.declared.mode.Mode.TheVariants.{LocalCondition, Dependency, Provision}
use Rattle.spec_grammar.specs.declared.part.Spec.{Spec}
use Rattle.spec_grammar.specs.declared.fault.SpecFault.{SpecFault}
use Rattle.spec_grammar.proofs.DraftLaws.{whole}
use Rattle.spec_grammar.proofs.SingleLaws.{single_part}
use Rattle.recipe_lexer.specs.declared.token.Token.{Token}
use Rattle.recipe_statements.specs.Lines.{word}
use Rattle.recipe_values.specs.Arguments.{keyword_of, without_keyword}
use Rattle.recipe_values.specs.declared.value.Scalar.TheVariants.{Text, Number, Truth, Nothing, Nested}
use Rattle.recipe_values.specs.declared.value.Value.{Value}
use Rattle.recipe_values.specs.declared.value.Value.TheVariants.{One, Many}
use Rattle.recipe_values.specs.declared.value.PlacedValue.{PlacedValue}
use Rattle.recipe_values.specs.declared.segment.Segment.{Segment}
use Rattle.directive_arguments.specs.declared.fault.ArgumentFault.TheVariants as fault
use Rattle.directive_arguments.specs.declared.directive.Count.{Count}
use Rattle.directive_arguments.specs.declared.directive.Count.TheVariants as count
use Rattle.directive_arguments.specs.declared.directive.Directive.{Directive}
use Rattle.directive_arguments.specs.declared.directive.Directive.TheVariants as directive
use Rattle.directive_arguments.specs.declared.directive.Keyword.{Keyword}
use Rattle.directive_arguments.specs.declared.directive.Keyword.TheVariants as keyword
use Rattle.directive_arguments.specs.declared.directive.Role.{Role}
use Rattle.directive_arguments.specs.declared.directive.Role.TheVariants.{Reads, PassesOver, Refuses}
use Rattle.directive_arguments.specs.declared.given.Given.{Given}
use Rattle.directive_arguments.specs.declared.given.Options.{Options}
use Rattle.directive_arguments.specs.declared.given.Positional.{Positional}
use Rattle.directive_arguments.specs.Results.{ArgumentStep, then_do}
use Rattle.directive_arguments.specs.Table.{role, takes}
use Rattle.directive_arguments.specs.Texts.{IsAnswer, answer, in_text, one_by, top_of, part_of, condition, version_of}
use Rattle.directive_arguments.specs.Given.{read, text_in, with_text, with_text_in, with_value, has_value, further, positional}
use Rattle.directive_arguments.specs.Keywords.{truth_in, some_spec, when_text, when_by, when_in as when_option, kinds_in, policy_in, value_texts_in, default_value_in, option}
use Rattle.directive_arguments.specs.Arguments.{nothing_given, note, keyword as keyword_of_role, argument_by, argument, arguments}
use Rattle.directive_arguments.specs.Said.{IsNamed, AreNamed, GivesNamed, IsLocal, IsLocalWhen, GivesLocal}
use Rattle.directive_arguments.proofs.TextLaws.{answer_is}
use Rattle.directive_arguments.proofs.ListLaws.{ok_then, any_then, steps_keep, all_push}

-- ---- texts without `^`

local_by : (place : ℕ) (text : List ℕ) (a : Result (List Spec) SpecFault) → IsAnswer LocalCondition text a
    → IfOk (in_text place (one_by a)) IsLocal
local_by place text (Ok []) h = tt
local_by place text (Ok (s ∷ [])) h = ap (λ (x : Spec). x.below) (single_part LocalCondition text s refl h)
local_by place text (Ok (s ∷ t ∷ more)) h = tt
local_by place text (Err e) h = tt

local_text : (place : ℕ) (text : List ℕ) → IfOk (condition true place text) IsLocal
local_text place text = local_by place text (answer LocalCondition text) (answer_is LocalCondition text)

some_local : (a : ArgumentStep Spec) → IfOk a IsLocal → IfOk (some_spec a) IsLocalWhen
some_local (Ok s) h = h
some_local (Err e) h = tt

when_text_local : (r : PlacedValue) (o : Option (List ℕ)) → IfOk (when_text true r o) IsLocalWhen
when_text_local r None = tt
when_text_local r (Some w) = some_local (condition true r.token w) (local_text r.token w)

when_by_local : (r : PlacedValue) (value : Value) → IfOk (when_by true r value) IsLocalWhen
when_by_local r (One Nothing) = tt
when_by_local r (One (Text w)) = when_text_local r (Some w)
when_by_local r (One (Number w)) = when_text_local r (Some w)
when_by_local r (One (Truth b)) = tt
when_by_local r (One Nested) = tt
when_by_local r (Many elements) = tt

-- ---- arguments of `provides`

abbrev pub HasLocal : Options → Type 0
HasLocal o = IsLocalWhen o.when

option_local : (k : Keyword) (r : PlacedValue) (o : Options) → HasLocal o → IfOk (option directive.Provides k r o) HasLocal
unfolding option
option_local keyword.Preferred r o h = any_then HasLocal (truth_in r) _ (λ b. h)
option_local keyword.Deprecated r o h = any_then HasLocal (truth_in r) _ (λ b. h)
option_local keyword.Multi r o h = any_then HasLocal (truth_in r) _ (λ b. h)
option_local keyword.When r o h = ok_then IsLocalWhen HasLocal (when_option true r) _ (when_by_local r r.value) (λ s p. p)
option_local keyword.Kinds r o h = any_then HasLocal (kinds_in r) _ (λ b. h)
option_local keyword.Policy r o h = any_then HasLocal (policy_in r) _ (λ b. h)
option_local keyword.Values r o h = any_then HasLocal (value_texts_in r) _ (λ b. h)
option_local keyword.Default r o h = any_then HasLocal (default_value_in r) _ (λ b. h)

keyword_local : (role : Role) (bytes : List ℕ) (place : ℕ) (w : List ℕ) (s : Segment) (g : Given) → GivesLocal g
    → IfOk (keyword_of_role role bytes directive.Provides place w s g) GivesLocal
keyword_local Refuses bytes place w s g h = tt
keyword_local PassesOver bytes place w s g h = any_then GivesLocal (note place w g.names) _ (λ names. h)
keyword_local (Reads k) bytes place w s g h =
    any_then GivesLocal (note place w g.names) _ (λ names. any_then GivesLocal (read bytes s) _ (λ r.
    ok_then HasLocal GivesLocal (option directive.Provides k r g.options) _ (option_local k r g.options h) (λ o p. p)))

argument_local : (bytes : List ℕ) (s : Segment) (g : Given) → GivesLocal g → IfOk (argument bytes directive.Provides s g) GivesLocal
unfolding argument
argument_local bytes s g h = local_by_keyword (keyword_of s)
  where
    local_by_keyword : (o : Option Token) → IfOk (argument_by o bytes directive.Provides s g) GivesLocal
    local_by_keyword None = any_then GivesLocal (positional bytes directive.Provides s g.positional) _ (λ p. h)
    local_by_keyword (Some t) = keyword_local (role directive.Provides (word bytes t)) bytes t.start (word bytes t) (without_keyword s) g h

-- the condition of a `provides` has no `^`
pub arguments_local : (bytes : List ℕ) (segments : List Segment) → IfOk (arguments bytes directive.Provides segments) GivesLocal
unfolding arguments
arguments_local bytes segments = steps_keep GivesLocal (argument bytes directive.Provides) (argument_local bytes) segments nothing_given tt

-- ---- texts with a name

named_by : (mode : Mode) (place : ℕ) (text : List ℕ) (a : Result (List Spec) SpecFault) → needs_name mode ≡ true → IsAnswer mode text a
    → IfOk (top_of (in_text place (one_by a))) IsNamed
named_by mode place text (Ok []) needs h = tt
named_by mode place text (Ok (s ∷ [])) needs h =
    let w = whole mode text (s ∷ []) s h (0, omega arith, refl) in
    record { some = w.0.1 needs; name = w.0.0.name }
named_by mode place text (Ok (s ∷ t ∷ more)) needs h = tt
named_by mode place text (Err e) needs h = tt

named_text : (mode : Mode) (place : ℕ) (text : List ℕ) → needs_name mode ≡ true → IfOk (part_of mode place text) IsNamed
named_text mode place text needs = named_by mode place text (answer mode text) needs (answer_is mode text)

-- ---- positional values

name_is : (b : Bool) (p : Positional) (place : ℕ) (w : List ℕ) → is_name w ≡ b → AreNamed p
    → IfOk (cond b (Ok (record p { name = Some w })) (Err (fault.BadArgument place))) AreNamed
name_is true p place w e h = record { name = e; part = h.part; parts = h.parts }
name_is false p place w e h = tt

text_named : (d : Directive) (place token : ℕ) (w : List ℕ) (p : Positional) → AreNamed p → IfOk (with_text d place token w p) AreNamed
unfolding with_text
text_named directive.Version place token w p h =
    any_then AreNamed (version_of token w) _ (λ v. record { name = h.name; part = h.part; parts = h.parts })
text_named directive.Variant place token w p h = name_is (is_name w) p place w refl h
text_named directive.DependsOn place token w p h =
    ok_then IsNamed AreNamed (part_of Dependency token w) _ (named_text Dependency token w refl)
    (λ part is. record { name = h.name; part = is; parts = h.parts })
text_named directive.Provides place token w p h =
    ok_then IsNamed AreNamed (part_of Provision token w) _ (named_text Provision token w refl)
    (λ part is. record { name = h.name; part = h.part; parts = all_push IsNamed p.parts part h.parts is })
text_named directive.Conflicts place token w p h =
    any_then AreNamed (condition false token w) _ (λ s. record { name = h.name; part = h.part; parts = h.parts })
text_named directive.Requires place token w p h =
    any_then AreNamed (condition false token w) _ (λ s. record { name = h.name; part = h.part; parts = h.parts })

text_in_named : (o : Option (List ℕ)) (d : Directive) (r : PlacedValue) (p : Positional) → AreNamed p → IfOk (with_text_in o d r p) AreNamed
text_in_named None d r p h = tt
text_in_named (Some w) d r p h = text_named d r.place r.token w p h

value_named : (bytes : List ℕ) (d : Directive) (s : Segment) (p : Positional) → AreNamed p
    → IfOk (then_do (read bytes s) (λ r. with_value d r p)) AreNamed
value_named bytes d s p h = any_then AreNamed (read bytes s) _ (λ r. text_in_named (text_in r.value) d r p h)

further_named : (c : Count) (bytes : List ℕ) (d : Directive) (s : Segment) (p : Positional) → AreNamed p
    → IfOk (further c bytes d s p) AreNamed
further_named count.One bytes d s p h = tt
further_named count.OneAndOthers bytes d s p h = h
further_named count.OneOrMore bytes d s p h = value_named bytes d s p h

positional_named : (bytes : List ℕ) (d : Directive) (s : Segment) (p : Positional) → AreNamed p → IfOk (positional bytes d s p) AreNamed
unfolding positional
positional_named bytes d s p h = named_by_presence (has_value d p)
  where
    named_by_presence : (b : Bool)
        → IfOk (cond b (further (takes d).positional bytes d s p) (then_do (read bytes s) (λ r. with_value d r p))) AreNamed
    named_by_presence true = further_named (takes d).positional bytes d s p h
    named_by_presence false = value_named bytes d s p h

-- ---- all arguments

keyword_named : (role : Role) (bytes : List ℕ) (d : Directive) (place : ℕ) (w : List ℕ) (s : Segment) (g : Given) → GivesNamed g
    → IfOk (keyword_of_role role bytes d place w s g) GivesNamed
keyword_named Refuses bytes d place w s g h = tt
keyword_named PassesOver bytes d place w s g h = any_then GivesNamed (note place w g.names) _ (λ names. h)
keyword_named (Reads k) bytes d place w s g h =
    any_then GivesNamed (note place w g.names) _
    (λ names. any_then GivesNamed (read bytes s) _ (λ r. any_then GivesNamed (option d k r g.options) _ (λ o. h)))

argument_named : (bytes : List ℕ) (d : Directive) (s : Segment) (g : Given) → GivesNamed g → IfOk (argument bytes d s g) GivesNamed
unfolding argument
argument_named bytes d s g h = named_by_keyword (keyword_of s)
  where
    named_by_keyword : (o : Option Token) → IfOk (argument_by o bytes d s g) GivesNamed
    named_by_keyword None = ok_then AreNamed GivesNamed (positional bytes d s g.positional) _
        (positional_named bytes d s g.positional h) (λ p is. is)
    named_by_keyword (Some t) = keyword_named (role d (word bytes t)) bytes d t.start (word bytes t) (without_keyword s) g h

-- what the arguments name has a NAME
pub arguments_named : (bytes : List ℕ) (d : Directive) (segments : List Segment) → IfOk (arguments bytes d segments) GivesNamed
unfolding arguments
arguments_named bytes d segments = steps_keep GivesNamed (argument bytes d) (argument_named bytes d) segments nothing_given
    (record { name = tt; part = tt; parts = tt })
