-- What the arguments of a directive say, one after the other from the left.
use Rattle.std.specs.Prelude.{ℕ, List, [], ◌∷◌, ◌++◌, Option, Some, None, Ok, Err, if◌then◌else◌}
use Rattle.std.specs.List.{list_any}
use Rattle.std.specs.Str.{bytes_eq, is_utf8}
use Rattle.variant_values.specs.Texts.{Texts}
use Rattle.recipe_lexer.specs.declared.token.Token.{Token}
use Rattle.recipe_statements.specs.Lines.{word}
use Rattle.recipe_values.specs.Arguments.{keyword_of, without_keyword}
use Rattle.recipe_values.specs.declared.segment.Segment.{Segment}
use Rattle.directive_arguments.specs.declared.fault.ArgumentFault.TheVariants as fault
use Rattle.directive_arguments.specs.declared.directive.Directive.{Directive}
use Rattle.directive_arguments.specs.declared.directive.Role.{Role}
use Rattle.directive_arguments.specs.declared.directive.Role.TheVariants.{Reads, PassesOver, Refuses}
use Rattle.directive_arguments.specs.declared.given.Given.{Given}
use Rattle.directive_arguments.specs.Results.{ArgumentStep, then_do, steps}
use Rattle.directive_arguments.specs.Table.{role}
use Rattle.directive_arguments.specs.Given.{read, nothing_positional, positional}
use Rattle.directive_arguments.specs.Keywords.{no_options, option}

-- before any argument
abbrev pub nothing_given : Given
nothing_given = record { positional = nothing_positional; names = []; options = no_options }

-- a keyword may stand once
abbrev pub once : ℕ → List ℕ → Texts → ArgumentStep Texts
once place w names = if list_any (bytes_eq w) names then Err (fault.BadArgument place) else Ok (names ++ w ∷ [])

-- it is a word, and words of a file are UTF-8
abbrev pub note : ℕ → List ℕ → Texts → ArgumentStep Texts
note place w names = if is_utf8 w then once place w names else Err (fault.Unsupported place)

-- a keyword at a place, and the value behind it, which is read where the directive reads it
abbrev pub keyword : Role → List ℕ → Directive → ℕ → List ℕ → Segment → Given → ArgumentStep Given
keyword Refuses bytes d place w s g = Err (fault.Unsupported place)
keyword PassesOver bytes d place w s g = then_do (note place w g.names) (λ names. Ok (record g { names = names }))
keyword (Reads k) bytes d place w s g =
    then_do (note place w g.names) (λ names. then_do (read bytes s) (λ r.
    then_do (option d k r g.options) (λ o. Ok (record g { names = names; options = o }))))

abbrev pub argument_by : Option Token → List ℕ → Directive → Segment → Given → ArgumentStep Given
argument_by None bytes d s g = then_do (positional bytes d s g.positional) (λ p. Ok (record g { positional = p }))
argument_by (Some t) bytes d s g = keyword (role d (word bytes t)) bytes d t.start (word bytes t) (without_keyword s) g

-- one argument more, which is wholly checked before the next one
unfoldable pub argument : List ℕ → Directive → Segment → Given → ArgumentStep Given
argument bytes d s g = argument_by (keyword_of s) bytes d s g

unfoldable pub arguments : List ℕ → Directive → List Segment → ArgumentStep Given
arguments bytes d segments = steps (argument bytes d) segments nothing_given
