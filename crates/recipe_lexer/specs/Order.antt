-- What holds of a file's tokens: they stand in order, and make whole lines, blocks and brackets.
use Rattle.std.specs.Prelude.{◌≡◌, ◌≤◌, ◌<◌, ℕ, zero, suc, ◌==◌, Bool, true, false, List, [], ◌∷◌, Option, Some, None, fold, if◌then◌else◌}
use Rattle.recipe_lexer.specs.Layout.{closing, is_closing}
use Rattle.recipe_lexer.specs.declared.piece.Piece.{Piece}
use Rattle.recipe_lexer.specs.declared.token.Token.{Token}
use Rattle.recipe_lexer.specs.declared.token.TokenKind.{TokenKind}
use Rattle.recipe_lexer.specs.declared.token.TokenKind.TheVariants.{Word, Text, Op, NewLine, Indent, Dedent, End}

-- ---- order

-- the tokens stand between two places, each ending before the next one starts
abbrev pub InOrder : ℕ → ℕ → List Token → Type 0
InOrder from to [] = from ≤ to
InOrder from to (t ∷ others) = (from ≤ t.start) × (t.start ≤ t.end) × InOrder t.end to others

-- the pieces cover what stands between two places, each starting where the one before ends
abbrev pub IsCut : ℕ → ℕ → List Piece → Type 0
IsCut from to [] = from ≡ to
IsCut from to (p ∷ others) = (p.start ≡ from) × (p.start < p.end) × IsCut p.end to others

-- ---- lines, blocks and brackets

-- where a front of the tokens ends: in a line that has a token or not, in brackets that wait for these bytes, the
-- innermost first, and in so many blocks; behind the end; or nowhere, where a token may not stand
pub data Stand : Type 0 where
  At : Bool → List ℕ → ℕ → Stand
  Over : Stand
  Wrong : Stand

-- a closing bracket fits the innermost that waits
abbrev pub by_closing : ℕ → List ℕ → ℕ → Stand
by_closing b [] blocks = Wrong
by_closing b (c ∷ waiting) blocks = if c == b then At true waiting blocks else Wrong

abbrev pub by_sign : ℕ → Option ℕ → List ℕ → ℕ → Stand
by_sign b (Some c) waiting blocks = At true (c ∷ waiting) blocks
by_sign b None waiting blocks = if is_closing b then by_closing b waiting blocks else At true waiting blocks

-- one token more: a line ends where it has a token and no bracket waits, a block begins and ends before a line's
-- first token, and the file ends in no line and no block
abbrev pub after : Stand → TokenKind → Stand
after (At begun waiting blocks) Word = At true waiting blocks
after (At begun waiting blocks) Text = At true waiting blocks
after (At begun waiting blocks) (Op b) = by_sign b (closing b) waiting blocks
after (At true [] blocks) NewLine = At false [] blocks
after (At false [] blocks) Indent = At false [] (suc blocks)
after (At false [] (suc blocks)) Dedent = At false [] blocks
after (At false [] zero) End = Over
after stand kind = Wrong

abbrev pub after_token : Stand → Token → Stand
after_token stand t = after stand t.kind

abbrev pub stand_of : List Token → Stand
stand_of tokens = fold after_token (At false [] 0) tokens

-- lines, blocks and brackets are whole, and the end is the last token
abbrev pub AreWhole : List Token → Type 0
AreWhole tokens = stand_of tokens ≡ Over
