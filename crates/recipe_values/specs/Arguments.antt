-- Arguments: those that are given by a keyword.
use Rattle.std.specs.Prelude.{ℕ, ◌&&◌, Bool, false, not, List, drop, Option, Some, None, if◌then◌else◌}
use Rattle.std.specs.List.{slice_get}
use Rattle.recipe_lexer.specs.declared.token.Token.{Token}
use Rattle.recipe_statements.specs.Lines.{is_word_kind, is_sign}
use Rattle.recipe_values.specs.declared.segment.Atom.{Atom}
use Rattle.recipe_values.specs.declared.segment.Atom.TheVariants.{Plain, Inner}
use Rattle.recipe_values.specs.declared.segment.Segment.{Segment}

abbrev pub is_equals : Atom → Bool
is_equals (Plain t) = is_sign 61 t.kind
is_equals (Inner place read) = false

abbrev pub is_equals_by : Option Atom → Bool
is_equals_by None = false
is_equals_by (Some a) = is_equals a

abbrev pub is_equals_at : ℕ → List Atom → Bool
is_equals_at i atoms = is_equals_by (slice_get atoms i)

abbrev pub word_token_by : Option Atom → Option Token
word_token_by None = None
word_token_by (Some (Plain t)) = if is_word_kind t.kind then Some t else None
word_token_by (Some (Inner place read)) = None

-- the keyword of an argument: a word and `=`; `==` is none
abbrev pub keyword_of : Segment → Option Token
keyword_of s = if is_equals_at 1 s.atoms && not (is_equals_at 2 s.atoms) then word_token_by (slice_get s.atoms 0) else None

-- what stands behind a keyword and its `=`
abbrev pub without_keyword : Segment → Segment
without_keyword s = record s { atoms = drop 2 s.atoms }
