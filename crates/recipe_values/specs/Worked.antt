-- What rows by computation speak of: texts in brackets.
use Rattle.std.specs.Prelude.{ℕ, ◌-◌, List, [], length, take, drop, map, Option, Result, Ok, Err}
use Rattle.recipe_lexer.specs.Layout.{text_tokens}
use Rattle.recipe_lexer.specs.declared.token.Token.{Token}
use Rattle.recipe_lexer.specs.declared.token.LexFault.{LexFault}
use Rattle.recipe_values.specs.declared.value.Scalar.{Scalar}
use Rattle.recipe_values.specs.declared.value.Element.{Element}
use Rattle.recipe_values.specs.declared.value.Value.{Value}
use Rattle.recipe_values.specs.declared.value.PlacedValue.{PlacedValue}
use Rattle.recipe_values.specs.declared.segment.Segment.{Segment}
use Rattle.recipe_values.specs.Reads.{Read}
use Rattle.recipe_values.specs.Values.{segment_value}
use Rattle.recipe_values.specs.Brackets.{arguments_of}
use Rattle.recipe_values.specs.Arguments.{keyword_of, without_keyword}

-- the tokens inside the brackets that a line is
abbrev pub inside : Result (List Token) LexFault → List Token
inside (Ok tokens) = take (length tokens - 4) (drop 1 tokens)
inside (Err fault) = []

-- what stands between the commas of a text in brackets
abbrev pub segments_in : List ℕ → List Segment
segments_in text = arguments_of text (length text - 1) (inside (text_tokens text))

-- the values of the arguments
abbrev pub values_in : List ℕ → List (Read PlacedValue)
values_in text = map (segment_value text) (segments_in text)

-- their keywords
abbrev pub keywords_in : List ℕ → List (Option Token)
keywords_in text = map keyword_of (segments_in text)

-- their values behind keywords
abbrev pub values_behind_keywords : List ℕ → List (Read PlacedValue)
values_behind_keywords text = map (λ s. segment_value text (without_keyword s)) (segments_in text)

abbrev pub reading : Value → ℕ → ℕ → PlacedValue
reading value place token = record { value = value; place = place; token = token }

abbrev pub member : Scalar → ℕ → Element
member scalar place = record { scalar = scalar; place = place }
