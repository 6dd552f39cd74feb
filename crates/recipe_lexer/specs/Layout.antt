-- The tokens of a text: its pieces in order, with the open brackets and the blocks that they stand in.
use Rattle.std.specs.Prelude.{◌≡◌, ℕ, ◌+◌, ◌-◌, ◌==◌, ◌||◌, nat_lt, Bool, true, false, not, zero, suc, List, [], ◌∷◌, ◌++◌, length, take, drop, reverse, Option, Some, None, Result, Ok, Err, if◌then◌else◌}
use Rattle.std.specs.List.{prefix_len, filter}
use Rattle.std.specs.Str.{is_utf8}
use Rattle.recipe_lexer.specs.Pieces.{first_piece}
use Rattle.recipe_lexer.specs.declared.piece.Shape.{Shape}
use Rattle.recipe_lexer.specs.declared.piece.Shape.TheVariants as shape
use Rattle.recipe_lexer.specs.declared.piece.Piece.{Piece}
use Rattle.recipe_lexer.specs.declared.token.TokenKind.{TokenKind}
use Rattle.recipe_lexer.specs.declared.token.TokenKind.TheVariants as kind
use Rattle.recipe_lexer.specs.declared.token.Token.{Token}
use Rattle.recipe_lexer.specs.declared.token.LexFault.{LexFault}
use Rattle.recipe_lexer.specs.declared.token.LexFault.TheVariants as fault
use Rattle.recipe_lexer.specs.declared.line.LineState.{LineState}
use Rattle.recipe_lexer.specs.declared.line.LineState.TheVariants.{Begun, Blank}
use Rattle.recipe_lexer.specs.declared.line.Opened.{Opened}
use Rattle.recipe_lexer.specs.declared.line.Lexer.{Lexer}

-- ---- the pieces

-- of a text that stands at `place`, and whose first `gone` bytes belong to a piece before it
unfoldable pub text_pieces : ℕ → ℕ → List ℕ → List Piece
text_pieces place gone [] = []
text_pieces place zero (b ∷ rest) =
    first_piece place (b ∷ rest) ∷ text_pieces (place + 1) ((first_piece place (b ∷ rest)).end - (place + 1)) rest
text_pieces place (suc gone) (b ∷ rest) = text_pieces (place + 1) gone rest

-- ---- the state between two pieces

-- of the stacks the top comes first, and of the tokens the last; `colon` says whether the last token that
-- is no line end is `:`
pub record LexerState : Type 0 where
  pub line : LineState
  pub brackets : List Opened
  pub indents : List ℕ
  pub colon : Bool
  pub tokens : List Token

abbrev pub LexStep : Type 0
LexStep = Result LexerState LexFault

abbrev pub then_lex : LexStep → (LexerState → LexStep) → LexStep
then_lex (Ok s) f = f s
then_lex (Err e) f = Err e

abbrev pub put_token : TokenKind → ℕ → ℕ → LexerState → LexerState
put_token k start end s = record s { tokens = s.tokens ++ record { kind = k; start = start; end = end } ∷ [] }

-- ---- lines and their indentation

-- the blocks that an indentation of n spaces closes; the line starts at `start`, and they end at `place`
abbrev pub dedents : ℕ → ℕ → ℕ → List ℕ → LexerState → LexStep
dedents start place n [] s = if n == 0 then Ok s else Err (fault.BadIndent start)
dedents start place n (i ∷ indents) s =
    if n == i then Ok s
    else if nat_lt i n then Err (fault.BadIndent start)
    else dedents start place n indents (put_token kind.Dedent place place (record s { indents = indents }))

abbrev pub top_indent : List ℕ → ℕ
top_indent [] = 0
top_indent (i ∷ indents) = i

abbrev pub deeper : ℕ → ℕ → ℕ → Bool → LexerState → LexStep
deeper start place n true s = Ok (put_token kind.Indent start place (record s { indents = n ∷ s.indents }))
deeper start place n false s = Err (fault.BadIndent start)

unfoldable pub indent : ℕ → ℕ → ℕ → LexerState → LexStep
indent start place n s =
    if nat_lt (top_indent s.indents) n then deeper start place n s.colon s else dedents start place n s.indents s

abbrev pub spaces : List ℕ → ℕ
spaces white = length (filter (λ b. b == 32) white)

abbrev pub is_no_tab : ℕ → Bool
is_no_tab b = not (b == 9)

-- the bytes from one place to another
abbrev pub slice : List ℕ → ℕ → ℕ → List ℕ
slice bytes start end = take (end - start) (drop start bytes)

-- a line that starts at `start` has the indentation `white`, which ends at `place`
unfoldable pub indented : ℕ → ℕ → List ℕ → LexerState → LexStep
indented start place white s =
    if nat_lt (prefix_len is_no_tab white) (length white) then Err (fault.BadIndent (start + prefix_len is_no_tab white))
    else indent start place (spaces white) s

-- a token comes: the first one of a line ends its indentation
abbrev pub begin_by : List ℕ → LineState → LexerState → LexStep
begin_by bytes Begun s = Ok s
begin_by bytes (Blank start end) s = indented start end (slice bytes start end) (record s { line = Begun })

unfoldable pub begin : List ℕ → LexerState → LexStep
begin bytes s = begin_by bytes s.line s

-- white space directly behind a line's start is its indentation
abbrev pub white_by : ℕ → ℕ → LineState → LineState
white_by start end Begun = Begun
white_by start end (Blank from to) = if to == start then Blank from end else Blank from to

-- a line without tokens gives none
abbrev pub line_end_by : ℕ → ℕ → List Opened → LineState → LexerState → LexerState
line_end_by start end (b ∷ brackets) line s = s
line_end_by start end [] Begun s = put_token kind.NewLine start end (record s { line = Blank end end })
line_end_by start end [] (Blank from to) s = record s { line = Blank end end }

-- ---- signs and brackets

-- the bracket that closes this one
abbrev pub closing : ℕ → Option ℕ
closing b = if b == 40 then Some 41 else if b == 91 then Some 93 else if b == 123 then Some 125 else None

abbrev pub is_closing : ℕ → Bool
is_closing b = b == 41 || b == 93 || b == 125

abbrev pub close : ℕ → ℕ → List Opened → LexerState → LexStep
close place b [] s = Err (fault.OpenBracket place)
close place b (inner ∷ brackets) s = if inner.closing == b then Ok (record s { brackets = brackets }) else Err (fault.OpenBracket place)

abbrev pub bracket_by : ℕ → ℕ → Option ℕ → LexerState → LexStep
bracket_by place b (Some c) s = Ok (record s { brackets = record { place = place; closing = c } ∷ s.brackets })
bracket_by place b None s = if is_closing b then close place b s.brackets s else Ok s

unfoldable pub bracket : ℕ → ℕ → LexerState → LexStep
bracket place b s = bracket_by place b (closing b) s

abbrev pub put_solid : TokenKind → ℕ → ℕ → Bool → LexerState → LexerState
put_solid k start end colon s = put_token k start end (record s { colon = colon })

-- ---- a piece, all pieces, and the end

abbrev pub step_by : List ℕ → Shape → ℕ → ℕ → LexerState → LexStep
step_by bytes shape.White start end s = Ok (record s { line = white_by start end s.line })
step_by bytes shape.Passed start end s = Ok s
step_by bytes shape.LineEnd start end s = Ok (line_end_by start end s.brackets s.line s)
step_by bytes shape.Word start end s = then_lex (begin bytes s) (λ t. Ok (put_solid kind.Word start end false t))
step_by bytes shape.Text start end s = then_lex (begin bytes s) (λ t. Ok (put_solid kind.Text start end false t))
step_by bytes (shape.Unclosed mark) start end s = then_lex (begin bytes s) (λ t. Err (fault.OpenString mark))
step_by bytes (shape.Op b) start end s =
    then_lex (begin bytes s) (λ t. then_lex (bracket start b t) (λ u. Ok (put_solid (kind.Op b) start end (b == 58) u)))

unfoldable pub step : List ℕ → Piece → LexerState → LexStep
step bytes p s = step_by bytes p.shape p.start p.end s

unfoldable pub lay : List ℕ → List Piece → LexerState → LexStep
lay bytes [] s = Ok s
lay bytes (p ∷ others) s = then_lex (step bytes p s) (lay bytes others)

-- a last line without a line end ends at the end of the text
abbrev pub last_line : ℕ → LineState → LexerState → LexerState
last_line end Begun s = put_token kind.NewLine end end s
last_line end (Blank from to) s = s

abbrev pub finish_by : ℕ → List Opened → LexerState → LexStep
finish_by end (inner ∷ brackets) s = Err (fault.OpenBracket inner.place)
finish_by end [] s =
    then_lex (dedents end end 0 s.indents (last_line end s.line s)) (λ t. Ok (put_token kind.End end end t))

unfoldable pub finish : ℕ → LexerState → LexStep
finish end s = finish_by end s.brackets s

abbrev pub first_state : LexerState
first_state = record { line = Blank 0 0; brackets = []; indents = []; colon = false; tokens = [] }

abbrev pub tokens_of : LexStep → Result (List Token) LexFault
tokens_of (Ok s) = Ok s.tokens
tokens_of (Err e) = Err e

-- the tokens of a text that is UTF-8, or its first fault
unfoldable pub text_tokens : List ℕ → Result (List Token) LexFault
text_tokens bytes = tokens_of (then_lex (lay bytes (text_pieces 0 0 bytes) first_state) (finish (length bytes)))

-- the tokens of a file, or its first fault
abbrev pub tokens : List ℕ → Result (List Token) LexFault
tokens bytes = if is_utf8 bytes then text_tokens bytes else Err fault.NotUtf8

-- ---- the lexer of the program, as a state

abbrev pub view : Lexer → LexerState
view l = record {
  line = l.line;
  brackets = reverse l.brackets.items;
  indents = reverse l.indents.items;
  colon = l.colon;
  tokens =
      l.tokens.items;
}

-- what a call did, unless memory ran out
abbrev pub Fails : {X : Type 0} → LexFault → Result X LexFault → Type 0
Fails fault.OutOfMemory step = Unit {0}
Fails fault.NotUtf8 step = step ≡ Err fault.NotUtf8
Fails (fault.OpenString p) step = step ≡ Err (fault.OpenString p)
Fails (fault.OpenBracket p) step = step ≡ Err (fault.OpenBracket p)
Fails (fault.BadIndent p) step = step ≡ Err (fault.BadIndent p)

abbrev pub Gives : {X : Type 0} → Result X LexFault → Lexer → LexStep → Type 0
Gives (Ok x) new step = step ≡ Ok (view new)
Gives (Err e) new step = Fails e step

abbrev pub token : TokenKind → ℕ → ℕ → Token
token k start end = record { kind = k; start = start; end = end }
