-- What the arguments of a directive say is no larger than they are.
use Rattle.std.proofs.Common.{ℕ, ◌+◌, ◌≤◌, false, List, [], ◌∷◌, ◌++◌, length, drop, sum_by, arith, length-append}
use Rattle.std.specs.Prelude.{Result, Ok, Err, Option, Some, None, IfOk}
use Rattle.std.proofs.lemmas.List.Sums.{sum_by-cons, sum_by-take-drop}
use Rattle.std.specs.Ordering.{match_ordering}
use Rattle.std.specs.declared.cmp.Ordering.{Ordering}
use Rattle.std.specs.declared.cmp.Ordering.TheVariants.{Less, Equal, Greater}
use Rattle.variant_values.specs.Texts.{Texts, byte_cmp, with_text as put_text, with_texts}
use Rattle.spec_grammar.specs.Signs.{is_name, is_value}
use Rattle.spec_grammar.specs.declared.mode.Mode.TheVariants.{Dependency, Provision}
use Rattle.recipe_lexer.specs.declared.token.Token.{Token}
use Rattle.recipe_statements.specs.Lines.{word}
use Rattle.recipe_values.specs.Arguments.{keyword_of, without_keyword}
use Rattle.recipe_values.specs.Reads.{Read}
use Rattle.recipe_values.specs.Values.{segment_value}
use Rattle.recipe_values.specs.declared.value.Scalar.{Scalar}
use Rattle.recipe_values.specs.declared.value.Scalar.TheVariants as scalar
use Rattle.recipe_values.specs.declared.value.Element.{Element}
use Rattle.recipe_values.specs.declared.value.Value.{Value}
use Rattle.recipe_values.specs.declared.value.Value.TheVariants.{One, Many}
use Rattle.recipe_values.specs.declared.value.PlacedValue.{PlacedValue}
use Rattle.recipe_values.specs.declared.segment.Atom.{Atom}
use Rattle.recipe_values.specs.declared.segment.Segment.{Segment}
use Rattle.directive_arguments.specs.declared.fault.ArgumentFault.TheVariants as fault
use Rattle.directive_arguments.specs.declared.directive.Count.{Count}
use Rattle.directive_arguments.specs.declared.directive.Count.TheVariants as count
use Rattle.directive_arguments.specs.declared.directive.Directive.{Directive}
use Rattle.directive_arguments.specs.declared.directive.Directive.TheVariants as directive
use Rattle.directive_arguments.specs.declared.directive.Keyword.{Keyword}
use Rattle.directive_arguments.specs.declared.directive.Keyword.TheVariants as keyword
use Rattle.directive_arguments.specs.declared.directive.Role.{Role}
use Rattle.directive_arguments.specs.declared.directive.Role.TheVariants.{Reads, PassesOver, Refuses}
use Rattle.directive_arguments.specs.declared.given.Given.{Given}
use Rattle.directive_arguments.specs.declared.given.Options.{Options}
use Rattle.directive_arguments.specs.declared.given.Positional.{Positional}
use Rattle.directive_arguments.specs.Results.{ArgumentStep, then_do, steps}
use Rattle.directive_arguments.specs.Table.{role, takes}
use Rattle.directive_arguments.specs.Texts.{part_of, condition, version_of}
use Rattle.directive_arguments.specs.Given.{as_argument_step, read, text_in, with_text, with_text_in, with_value, has_value, further, positional}
use Rattle.directive_arguments.specs.Keywords.{truth_in, when_in, kinds_in, policy_in, scalar_text, add_text, add_allowed, element_allowed, allowed_by, value_texts_in, wrong_default, default_by, default_value_in, is_local, option}
use Rattle.directive_arguments.specs.Arguments.{nothing_given, note, keyword as keyword_of_role, argument_by, argument, arguments}
use Rattle.directive_arguments.proofs.ListLaws.{ok_then, any_then}
use Rattle.recipe_lexer.proofs.Keeping.{cond_all}
use Rattle.file_limits.proofs.Sizes.{scalar_size, value_size, atom_size, segment_size}
use Rattle.file_limits.proofs.TokenCounts.{no-more}
use Rattle.file_limits.proofs.ValueSizes.{Fits, ReadFits, value-fits}

-- ---- sizes

abbrev pub values_size : Option Texts → ℕ
values_size None = 0
values_size (Some texts) = length texts

abbrev pub default_size : Option Value → ℕ
default_size None = 0
default_size (Some value) = value_size value

abbrev pub options_size : Options → ℕ
options_size o = values_size o.values + default_size o.default

abbrev pub given_size : Given → ℕ
given_size g = length g.positional.parts + options_size g.options

-- ---- steps that add little

-- steps that each add no more than they count add no more together
pub steps-grow : {X S E : Type 0} (size : S → ℕ) (adds : X → ℕ) (f : X → S → Result S E)
    → ((x : X) (s : S) → IfOk (f x s) (λ t. size t ≤ size s + adds x)) → (xs : List X) (s : S)
    → IfOk (steps f xs s) (λ t. size t ≤ size s + sum_by adds xs)
steps-grow size adds f grow [] s = omega arith
steps-grow size adds f grow (x ∷ xs) s =
    ok_then (λ t. size t ≤ size s + adds x) (λ t. size t ≤ size s + sum_by adds (x ∷ xs)) (f x s) (steps f xs) (grow x s)
    (λ t h. no-more size (size t + sum_by adds xs) (size s + sum_by adds (x ∷ xs)) (steps f xs t) (steps-grow size adds f grow xs t)
    (omega (arith, h, sum_by-cons adds x xs)))

-- ---- sets of texts

insert-few : (texts : Texts) (text : List ℕ) → length (put_text texts text) ≤ length texts + 1
insert-few [] text = omega arith
insert-few (x ∷ xs) text = insert-few-cases (insert-few xs text) (byte_cmp text x)
  where
    insert-few-cases : length (put_text xs text) ≤ length xs + 1 → (o : Ordering)
        → length (match_ordering o (text ∷ x ∷ xs) (x ∷ xs) (x ∷ put_text xs text)) ≤ length (x ∷ xs) + 1
    insert-few-cases rest Less = omega arith
    insert-few-cases rest Equal = omega arith
    insert-few-cases rest Greater = omega arith

-- a set has no more texts than were put to it
pub set-few : (texts words : Texts) → length (with_texts texts words) ≤ length texts + length words
unfolding with_texts
set-few texts [] = omega arith
set-few texts (word ∷ words) = omega (arith, insert-few texts word, set-few (put_text texts word) words)

scalar-some : (s : Scalar) → 1 ≤ scalar_size s
scalar-some (scalar.Text w) = omega arith
scalar-some (scalar.Number w) = omega arith
scalar-some (scalar.Truth b) = omega arith
scalar-some scalar.Nothing = omega arith
scalar-some scalar.Nested = omega arith

-- ---- `values`: at most n texts more

abbrev TextsMore : ℕ → Texts → ArgumentStep Texts → Type 0
TextsMore n texts r = IfOk r (λ more. length more ≤ length texts + n)

texts-more : (m n : ℕ) (r : ArgumentStep Texts) → IfOk r (λ more. length more ≤ m) → m ≤ n → IfOk r (λ more. length more ≤ n)
texts-more m n r h le = no-more (λ (more : Texts). length more) m n r h le

text-more : (place : ℕ) (o : Option (List ℕ)) (texts : Texts) → TextsMore 1 texts (add_text place o texts)
text-more place None texts = tt
text-more place (Some w) texts =
    cond_all (TextsMore 1 texts) (is_value w) (Ok (texts ++ w ∷ [])) (Err (fault.BadArgument place))
    (λ e. omega (arith, length-append texts (w ∷ []))) (λ e. tt)

elements-more : (elements : List Element) (texts : Texts) → TextsMore (length elements) texts (steps element_allowed elements texts)
elements-more [] texts = omega arith
elements-more (e ∷ more) texts =
    ok_then (λ (t : Texts). length t ≤ length texts + 1) (λ (t : Texts). length t ≤ length texts + length (e ∷ more))
    (element_allowed e texts)
    (steps element_allowed more) (text-more e.place (scalar_text e.scalar) texts)
    (λ t h. texts-more (length t + length more) (length texts + length (e ∷ more)) (steps element_allowed more t) (elements-more more t)
    (omega (arith, h)))

allowed-few : (place : ℕ) (value : Value) → IfOk (allowed_by place value) (λ texts. length texts ≤ value_size value)
allowed-few place (One s) = texts-more (0 + 1) (scalar_size s) (add_allowed place s []) (text-more place (scalar_text s) []) (scalar-some s)
allowed-few place (Many elements) =
    texts-more (0 + length elements) (length elements) (steps element_allowed elements []) (elements-more elements []) (omega arith)

values-few : (r : PlacedValue) → IfOk (value_texts_in r) (λ texts. length texts ≤ value_size r.value)
values-few r =
    ok_then (λ (texts : Texts). length texts ≤ value_size r.value) (λ (texts : Texts). length texts ≤ value_size r.value)
    (allowed_by r.place r.value) (λ texts. Ok (with_texts [] texts)) (allowed-few r.place r.value)
    (λ texts h. omega (arith, h, set-few [] texts))

-- ---- `default`

default-same : (r : PlacedValue) → IfOk (default_value_in r) (λ value. value_size value ≤ value_size r.value)
default-same r = default-same-cases (wrong_default r.place r.value)
  where
    default-same-cases : (o : Option ℕ) → IfOk (default_by o r.value) (λ value. value_size value ≤ value_size r.value)
    default-same-cases None = omega arith
    default-same-cases (Some p) = tt

-- ---- all keywords

-- at most n more
abbrev OptionsMore : ℕ → Options → Options → Type 0
OptionsMore n o more = options_size more ≤ options_size o + n

option-grows : (d : Directive) (k : Keyword) (r : PlacedValue) (o : Options) → IfOk (option d k r o) (OptionsMore (value_size r.value) o)
unfolding option
option-grows d keyword.Preferred r o = any_then (OptionsMore (value_size r.value) o) (truth_in r) _ (λ b. omega arith)
option-grows d keyword.Deprecated r o = any_then (OptionsMore (value_size r.value) o) (truth_in r) _ (λ b. omega arith)
option-grows d keyword.Multi r o = any_then (OptionsMore (value_size r.value) o) (truth_in r) _ (λ b. omega arith)
option-grows d keyword.When r o = any_then (OptionsMore (value_size r.value) o) (when_in (is_local d) r) _ (λ s. omega arith)
option-grows d keyword.Kinds r o = any_then (OptionsMore (value_size r.value) o) (kinds_in r) _ (λ kinds. omega arith)
option-grows d keyword.Policy r o = any_then (OptionsMore (value_size r.value) o) (policy_in r) _ (λ b. omega arith)
option-grows d keyword.Values r o =
    ok_then (λ (texts : Texts). length texts ≤ value_size r.value) (OptionsMore (value_size r.value) o) (value_texts_in r) _ (values-few r)
    (λ texts h. omega (arith, h))
option-grows d keyword.Default r o =
    ok_then (λ (value : Value). value_size value ≤ value_size r.value) (OptionsMore (value_size r.value) o) (default_value_in r) _
    (default-same r)
    (λ value h. omega (arith, h))

-- ---- positional values

abbrev PartsMore : ℕ → Positional → Positional → Type 0
PartsMore n p q = length q.parts ≤ length p.parts + n

text-part : (d : Directive) (place token : ℕ) (w : List ℕ) (p : Positional) (n : ℕ) → 1 ≤ n
    → IfOk (with_text d place token w p) (PartsMore n p)
unfolding with_text
text-part directive.Version place token w p n some = any_then (PartsMore n p) (version_of token w) _ (λ v. omega arith)
text-part directive.Variant place token w p n some =
    cond_all (λ r. IfOk r (PartsMore n p)) (is_name w) (Ok (record p { name = Some w })) (Err (fault.BadArgument place)) (λ e. omega arith)
    (λ e. tt)
text-part directive.DependsOn place token w p n some = any_then (PartsMore n p) (part_of Dependency token w) _ (λ part. omega arith)
text-part directive.Provides place token w p n some =
    any_then (PartsMore n p) (part_of Provision token w) _ (λ part. omega (arith, some, length-append p.parts (part ∷ [])))
text-part directive.Conflicts place token w p n some = any_then (PartsMore n p) (condition false token w) _ (λ s. omega arith)
text-part directive.Requires place token w p n some = any_then (PartsMore n p) (condition false token w) _ (λ s. omega arith)

text-in : (o : Option (List ℕ)) (d : Directive) (r : PlacedValue) (p : Positional) (n : ℕ) → 1 ≤ n
    → IfOk (with_text_in o d r p) (PartsMore n p)
text-in None d r p n some = tt
text-in (Some w) d r p n some = text-part d r.place r.token w p n some

step-fits : (n : ℕ) (r : Read PlacedValue) → ReadFits n r → IfOk (as_argument_step r) (Fits n)
step-fits n (Ok r) h = h
step-fits n (Err place) h = tt

read-fits : (bytes : List ℕ) (s : Segment) → IfOk (read bytes s) (Fits (segment_size s))
read-fits bytes s = step-fits (segment_size s) (segment_value bytes s) (value-fits bytes s)

value-part : (bytes : List ℕ) (d : Directive) (s : Segment) (p : Positional)
    → IfOk (then_do (read bytes s) (λ r. with_value d r p)) (PartsMore (segment_size s) p)
value-part bytes d s p =
    ok_then (Fits (segment_size s)) (PartsMore (segment_size s) p) (read bytes s) _ (read-fits bytes s)
    (λ r fits. text-in (text_in r.value) d r p (segment_size s) fits.1)

further-part : (c : Count) (bytes : List ℕ) (d : Directive) (s : Segment) (p : Positional)
    → IfOk (further c bytes d s p) (PartsMore (segment_size s) p)
further-part count.One bytes d s p = tt
further-part count.OneAndOthers bytes d s p = omega arith
further-part count.OneOrMore bytes d s p = value-part bytes d s p

positional-part : (bytes : List ℕ) (d : Directive) (s : Segment) (p : Positional)
    → IfOk (positional bytes d s p) (PartsMore (segment_size s) p)
unfolding positional
positional-part bytes d s p =
    cond_all (λ r. IfOk r (PartsMore (segment_size s) p)) (has_value d p) (further (takes d).positional bytes d s p)
    (then_do (read bytes s) (λ r. with_value d r p)) (λ e. further-part (takes d).positional bytes d s p) (λ e. value-part bytes d s p)

-- ---- all arguments

drop-size : (n : ℕ) (atoms : List Atom) → sum_by atom_size (drop n atoms) ≤ sum_by atom_size atoms
drop-size n atoms = omega (arith, sum_by-take-drop atom_size atoms n)

abbrev GivenMore : ℕ → Given → Given → Type 0
GivenMore n g more = given_size more ≤ given_size g + n

keyword-grows : (role : Role) (bytes : List ℕ) (d : Directive) (place : ℕ) (w : List ℕ) (s : Segment) (g : Given)
    → IfOk (keyword_of_role role bytes d place w s g) (GivenMore (segment_size s) g)
keyword-grows Refuses bytes d place w s g = tt
keyword-grows PassesOver bytes d place w s g = any_then (GivenMore (segment_size s) g) (note place w g.names) _ (λ names. omega arith)
keyword-grows (Reads k) bytes d place w s g =
    any_then (GivenMore (segment_size s) g) (note place w g.names) _ (λ names.
    ok_then (Fits (segment_size s)) (GivenMore (segment_size s) g) (read bytes s) _ (read-fits bytes s) (λ r fits.
    ok_then (OptionsMore (value_size r.value) g.options) (GivenMore (segment_size s) g) (option d k r g.options) _
    (option-grows d k r g.options) (λ o h. omega (arith, h, fits.0))))

argument-by : (o : Option Token) (bytes : List ℕ) (d : Directive) (s : Segment) (g : Given)
    → IfOk (argument_by o bytes d s g) (GivenMore (segment_size s) g)
argument-by None bytes d s g =
    ok_then (PartsMore (segment_size s) g.positional) (GivenMore (segment_size s) g) (positional bytes d s g.positional) _
    (positional-part bytes d s g.positional) (λ q h. omega (arith, h))
argument-by (Some t) bytes d s g =
    let rest : Segment = without_keyword s in
    no-more given_size (given_size g + segment_size rest) (given_size g + segment_size s) _
    (keyword-grows (role d (word bytes t)) bytes d t.start (word bytes t) rest g) (omega (arith, drop-size 2 s.atoms))

argument-grows : (bytes : List ℕ) (d : Directive) (s : Segment) (g : Given)
    → IfOk (argument bytes d s g) (λ more. given_size more ≤ given_size g + segment_size s)
unfolding argument
argument-grows bytes d s g = argument-by (keyword_of s) bytes d s g

-- the arguments of a call are no larger than its segments
pub arguments-fit : (bytes : List ℕ) (d : Directive) (segments : List Segment)
    → IfOk (arguments bytes d segments) (λ g. given_size g ≤ sum_by segment_size segments)
unfolding arguments
arguments-fit bytes d segments =
    let n : ℕ = sum_by segment_size segments in
    no-more given_size (given_size nothing_given + n) n (steps (argument bytes d) segments nothing_given)
    (steps-grow given_size segment_size (argument bytes d) (argument-grows bytes d) segments nothing_given) (omega arith)
