-- The statements of a file, each with its block: a block is what stands between an Indent and its Dedent.
use Rattle.std.specs.Prelude.{ℕ, ◌+◌, Bool, true, false, List, [], ◌∷◌, ◌++◌, length, if◌then◌else◌}
use Rattle.recipe_lexer.specs.declared.token.Token.{Token}
use Rattle.recipe_lexer.specs.declared.token.TokenKind.{TokenKind}
use Rattle.recipe_lexer.specs.declared.token.TokenKind.TheVariants.{Indent, Dedent, NewLine}

-- a logical line: the place of its first token in the list of tokens, and its tokens without the line's end
pub record LogicalLine : Type 0 where
  pub first : ℕ
  pub tokens : List Token

-- the statements of a block: none more, or a line without or with a block of its own, and the statements behind it
pub data StatementBlock : Type 0 where
  Empty : StatementBlock
  Plain : LogicalLine → StatementBlock → StatementBlock
  Headed : LogicalLine → StatementBlock → StatementBlock → StatementBlock

abbrev pub top_block : List StatementBlock → StatementBlock
top_block [] = Empty
top_block (b ∷ blocks) = b

abbrev pub others : List StatementBlock → List StatementBlock
others [] = []
others (b ∷ blocks) = blocks

abbrev pub begins_by : TokenKind → Bool
begins_by Indent = true
begins_by kind = false

-- whether a block begins here
abbrev pub begins_block : List Token → Bool
begins_block [] = false
begins_block (t ∷ rest) = begins_by t.kind

-- a line in front of what follows it, and of its block, if it has one
abbrev pub line_in_front : LogicalLine → Bool → List StatementBlock → List StatementBlock
line_in_front line true blocks = Headed line (top_block blocks) (top_block (others blocks)) ∷ others (others blocks)
line_in_front line false blocks = Plain line (top_block blocks) ∷ others blocks

-- line ends and the ends of indentations stand between lines
abbrev pub is_between : TokenKind → Bool
is_between NewLine = true
is_between Indent = true
is_between Dedent = true
is_between kind = false

-- what a token adds in front of what follows it: a line its end, a block its end
abbrev pub ended_by : TokenKind → LogicalLine → List Token → List StatementBlock → List StatementBlock
ended_by NewLine line rest following = line_in_front line (begins_block rest) following
ended_by Dedent line rest following = Empty ∷ following
ended_by kind line rest following = following

-- what a line that starts at the token `first` and has the tokens `front` so far, and the tokens from here on, still
-- give: the statements of the block that is open here, then those of the block around it, and so on
unfoldable pub blocks : ℕ → List Token → List Token → List StatementBlock
blocks first front [] = []
blocks first front (t ∷ rest) =
    ended_by t.kind (record { first = first; tokens = front }) rest
    (blocks (if is_between t.kind then first + length front + 1 else first) (if is_between t.kind then [] else front ++ t ∷ []) rest)

-- the statements of one block, and then those of another
abbrev pub followed : StatementBlock → StatementBlock → StatementBlock
followed Empty b = b
followed (Plain line rest) b = Plain line (followed rest b)
followed (Headed line inner rest) b = Headed line inner (followed rest b)

abbrev pub all_blocks : List StatementBlock → StatementBlock
all_blocks [] = Empty
all_blocks (b ∷ blocks) = followed b (all_blocks blocks)

-- the statements of the outer level; no Dedent stands there
abbrev pub file_of : List Token → StatementBlock
file_of tokens = all_blocks (blocks 0 [] tokens)
