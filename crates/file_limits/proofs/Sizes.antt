-- How much tokens, values and segments count for.
use Rattle.std.specs.Prelude.{ℕ, ◌+◌, ◌-◌, List, length, Ok, Err}
use Rattle.std.specs.List.{sum_by}
use Rattle.recipe_lexer.specs.declared.token.Token.{Token}
use Rattle.recipe_lexer.specs.declared.token.TokenKind.{TokenKind}
use Rattle.recipe_lexer.specs.declared.token.TokenKind.TheVariants.{Word, Text, Op}
use Rattle.recipe_values.specs.declared.value.Scalar.{Scalar}
use Rattle.recipe_values.specs.declared.value.Scalar.TheVariants as scalar
use Rattle.recipe_values.specs.declared.value.Value.{Value}
use Rattle.recipe_values.specs.declared.value.Value.TheVariants.{One, Many}
use Rattle.recipe_values.specs.declared.value.PlacedValue.{PlacedValue}
use Rattle.recipe_values.specs.declared.segment.Atom.{Atom}
use Rattle.recipe_values.specs.declared.segment.Atom.TheVariants.{Plain, Inner}
use Rattle.recipe_values.specs.declared.segment.Segment.{Segment}
use Rattle.recipe_values.specs.declared.levels.Level.{Level}
use Rattle.recipe_values.specs.declared.levels.Levels.{Levels}
use Rattle.recipe_values.specs.Reads.{Read}

-- ---- tokens

-- the bytes of a word, a string or a sign, and one at least; the ends of lines and blocks count for nothing
abbrev pub size_by : TokenKind → ℕ → ℕ → ℕ
size_by Word start end = end - (start + 1) + 1
size_by Text start end = end - (start + 1) + 1
size_by (Op b) start end = end - (start + 1) + 1
size_by kind start end = 0

abbrev pub token_size : Token → ℕ
token_size t = size_by t.kind t.start t.end

abbrev pub tokens_size : List Token → ℕ
tokens_size tokens = sum_by token_size tokens

-- ---- values: as many texts as they may be cut into

abbrev pub scalar_size : Scalar → ℕ
scalar_size (scalar.Text w) = length w + 1
scalar_size s = 1

abbrev pub value_size : Value → ℕ
value_size (One s) = scalar_size s
value_size (Many elements) = length elements

abbrev pub read_size : Read PlacedValue → ℕ
read_size (Ok r) = value_size r.value
read_size (Err place) = 0

-- ---- segments and brackets

abbrev pub atom_size : Atom → ℕ
atom_size (Plain t) = token_size t
atom_size (Inner place read) = read_size read + 1

abbrev pub segment_size : Segment → ℕ
segment_size s = sum_by atom_size s.atoms

abbrev pub level_size : Level → ℕ
level_size level = segment_size level.here + sum_by segment_size level.behind

abbrev pub levels_size : Levels → ℕ
levels_size levels = level_size levels.inner + sum_by level_size levels.around
