-- The tokens of a file are no larger than the file.
use Rattle.std.proofs.Common.{◌≡◌, ℕ, ◌+◌, ◌≤◌, ◌<◌, Bool, true, false, cond, List, [], ◌∷◌, length, arith, Option, Some, None}
use Rattle.std.specs.Prelude.{Ok, Err, IfOk, ◌==◌, nat_lt}
use Rattle.std.specs.List.{prefix_len}
use Rattle.std.specs.Str.{is_utf8}
use Rattle.std.proofs.lemmas.List.Sums.{sum_by_push}
use Rattle.recipe_lexer.specs.Order.{IsCut}
use Rattle.recipe_lexer.specs.Layout.{LexerState, LexStep, put_token, put_solid, dedents, deeper, top_indent, indent, indented, is_no_tab, spaces, slice, begin, begin_by, line_end_by, is_closing, close, closing, bracket_by, bracket, step, step_by, lay, text_pieces, first_state, then_lex, last_line, finish_by, finish, tokens_of, text_tokens, tokens}
use Rattle.recipe_lexer.specs.declared.piece.Shape.{Shape}
use Rattle.recipe_lexer.specs.declared.piece.Shape.TheVariants as shape
use Rattle.recipe_lexer.specs.declared.piece.Piece.{Piece}
use Rattle.recipe_lexer.specs.declared.token.TokenKind.{TokenKind}
use Rattle.recipe_lexer.specs.declared.token.TokenKind.TheVariants as kind
use Rattle.recipe_lexer.specs.declared.token.LexFault.TheVariants as fault
use Rattle.recipe_lexer.specs.declared.line.LineState.{LineState}
use Rattle.recipe_lexer.specs.declared.line.LineState.TheVariants.{Begun, Blank}
use Rattle.recipe_lexer.specs.declared.line.Opened.{Opened}
use Rattle.recipe_lexer.proofs.Keeping.{cond_all, ok_then}
use Rattle.recipe_lexer.proofs.TokenLaws.{pieces_cut, cut_at}
use Rattle.file_limits.proofs.Sizes.{size_by, token_size, tokens_size}

-- the tokens so far are no larger than n bytes
abbrev pub UpTo : ℕ → LexerState → Type 0
UpTo n s = tokens_size s.tokens ≤ n

put-size : (k : TokenKind) (from to : ℕ) (s : LexerState)
    → tokens_size (put_token k from to s).tokens ≡ tokens_size s.tokens + size_by k from to
put-size k from to s = sum_by_push token_size s.tokens (record { kind = k; start = from; end = to })

-- ---- lines and their indentation

module _ (n : ℕ) where
  dedents-size : (from place deep : ℕ) (indents : List ℕ) (s : LexerState) → UpTo n s → IfOk (dedents from place deep indents s) (UpTo n)
  dedents-size from place deep [] s h =
      cond_all (λ r. IfOk r (UpTo n)) (deep == 0) (Ok s) (Err (fault.BadIndent from)) (λ e. h) (λ e. tt)
  dedents-size from place deep (i ∷ indents) s h =
      let t : LexerState = put_token kind.Dedent place place (record s { indents = indents }) in
      let less : UpTo n t = omega (arith, h, put-size kind.Dedent place place (record s { indents = indents })) in
      cond_all (λ r. IfOk r (UpTo n)) (deep == i) (Ok s)
      (cond (nat_lt i deep) (Err (fault.BadIndent from)) (dedents from place deep indents t)) (λ e. h) (λ e.
      cond_all (λ r. IfOk r (UpTo n)) (nat_lt i deep) (Err (fault.BadIndent from)) (dedents from place deep indents t) (λ e. tt) (λ e.
      dedents-size from place deep indents t less))

  deeper-size : (from place deep : ℕ) (colon : Bool) (s : LexerState) → UpTo n s → IfOk (deeper from place deep colon s) (UpTo n)
  deeper-size from place deep true s h = omega (arith, h, put-size kind.Indent from place (record s { indents = deep ∷ s.indents }))
  deeper-size from place deep false s h = tt

  indented-size : (from place : ℕ) (white : List ℕ) (s : LexerState) → UpTo n s → IfOk (indented from place white s) (UpTo n)
  unfolding indented indent
  indented-size from place white s h =
      let deep : ℕ = spaces white in
      cond_all (λ r. IfOk r (UpTo n)) (nat_lt (prefix_len is_no_tab white) (length white))
      (Err (fault.BadIndent (from + prefix_len is_no_tab white)))
      (cond (nat_lt (top_indent s.indents) deep) (deeper from place deep s.colon s) (dedents from place deep s.indents s)) (λ e. tt) (λ e.
      cond_all (λ r. IfOk r (UpTo n)) (nat_lt (top_indent s.indents) deep) (deeper from place deep s.colon s)
      (dedents from place deep s.indents s) (λ e. deeper-size from place deep s.colon s h)
      (λ e. dedents-size from place deep s.indents s h))

  begin-line : (bytes : List ℕ) (line : LineState) (s : LexerState) → UpTo n s → IfOk (begin_by bytes line s) (UpTo n)
  begin-line bytes Begun s h = h
  begin-line bytes (Blank from to) s h = indented-size from to (slice bytes from to) (record s { line = Begun }) h

  begin-size : (bytes : List ℕ) (s : LexerState) → UpTo n s → IfOk (begin bytes s) (UpTo n)
  unfolding begin
  begin-size bytes s h = begin-line bytes s.line s h

  line_end-size : (from to : ℕ) (brackets : List Opened) (line : LineState) (s : LexerState) → UpTo n s
      → UpTo n (line_end_by from to brackets line s)
  line_end-size from to (b ∷ brackets) line s h = h
  line_end-size from to [] Begun s h = omega (arith, h, put-size kind.NewLine from to (record s { line = Blank to to }))
  line_end-size from to [] (Blank a b) s h = h

  -- ---- signs and brackets

  close-size : (place b : ℕ) (brackets : List Opened) (s : LexerState) → UpTo n s → IfOk (close place b brackets s) (UpTo n)
  close-size place b [] s h = tt
  close-size place b (inner ∷ brackets) s h =
      cond_all (λ r. IfOk r (UpTo n)) (inner.closing == b) (Ok (record s { brackets = brackets })) (Err (fault.OpenBracket place))
      (λ e. h) (λ e. tt)

  bracket_by-size : (place b : ℕ) (closes : Option ℕ) (s : LexerState) → UpTo n s → IfOk (bracket_by place b closes s) (UpTo n)
  bracket_by-size place b (Some c) s h = h
  bracket_by-size place b None s h =
      cond_all (λ r. IfOk r (UpTo n)) (is_closing b) (close place b s.brackets s) (Ok s)
      (λ e. close-size place b s.brackets s h) (λ e. h)

  bracket-size : (place b : ℕ) (s : LexerState) → UpTo n s → IfOk (bracket place b s) (UpTo n)
  unfolding bracket
  bracket-size place b s h = bracket_by-size place b (closing b) s h

  -- ---- the end

  last-size : (to : ℕ) (line : LineState) (s : LexerState) → UpTo n s → UpTo n (last_line to line s)
  last-size to Begun s h = omega (arith, h, put-size kind.NewLine to to s)
  last-size to (Blank a b) s h = h

  finish_by-size : (to : ℕ) (brackets : List Opened) (s : LexerState) → UpTo n s → IfOk (finish_by to brackets s) (UpTo n)
  finish_by-size to (inner ∷ brackets) s h = tt
  finish_by-size to [] s h =
      let t : LexerState = last_line to s.line s in
      ok_then (UpTo n) (UpTo n) (dedents to to 0 s.indents t) (λ u. Ok (put_token kind.End to to u))
      (dedents-size to to 0 s.indents t (last-size to s.line s h))
      (λ u up. omega (arith, up, put-size kind.End to to u))

  finish-size : (to : ℕ) (s : LexerState) → UpTo n s → IfOk (finish to s) (UpTo n)
  unfolding finish
  finish-size to s h = finish_by-size to s.brackets s h

-- ---- pieces

step-size : (bytes : List ℕ) (sort : Shape) (from to : ℕ) (s : LexerState) → from < to → UpTo from s
    → IfOk (step_by bytes sort from to s) (UpTo to)
step-size bytes shape.White from to s less h = omega (arith, h, less)
step-size bytes shape.Passed from to s less h = omega (arith, h, less)
step-size bytes shape.LineEnd from to s less h = omega (arith, line_end-size from from to s.brackets s.line s h, less)
step-size bytes shape.Word from to s less h =
    ok_then (UpTo from) (UpTo to) (begin bytes s) (λ t. Ok (put_solid kind.Word from to false t)) (begin-size from bytes s h)
    (λ t up. omega (arith, up, less, put-size kind.Word from to (record t { colon = false })))
step-size bytes shape.Text from to s less h =
    ok_then (UpTo from) (UpTo to) (begin bytes s) (λ t. Ok (put_solid kind.Text from to false t)) (begin-size from bytes s h)
    (λ t up. omega (arith, up, less, put-size kind.Text from to (record t { colon = false })))
step-size bytes (shape.Unclosed mark) from to s less h =
    ok_then (UpTo from) (UpTo to) (begin bytes s) (λ t. Err (fault.OpenString mark)) (begin-size from bytes s h) (λ t up. tt)
step-size bytes (shape.Op b) from to s less h =
    let last : LexerState → LexStep = λ u. Ok (put_solid (kind.Op b) from to (b == 58) u) in
    ok_then (UpTo from) (UpTo to) (begin bytes s) _ (begin-size from bytes s h) (λ t up.
    ok_then (UpTo from) (UpTo to) (bracket from b t) last (bracket-size from from b t up)
    (λ u now. omega (arith, now, less, put-size (kind.Op b) from to (record u { colon = b == 58 }))))

lay-size : (bytes : List ℕ) (from to : ℕ) (ps : List Piece) (s : LexerState) → IsCut from to ps → UpTo from s
    → IfOk (lay bytes ps s) (UpTo to)
unfolding lay step
lay-size bytes from to [] s cut h = omega (arith, cut, h)
lay-size bytes from to (p ∷ ps) s cut h =
    let here : UpTo p.start s = omega (arith, cut.0, h) in
    ok_then (UpTo p.end) (UpTo to) (step bytes p s) (lay bytes ps) (step-size bytes p.shape p.start p.end s cut.1 here)
    (λ t up. lay-size bytes p.end to ps t cut.2 up)

-- ---- files

of-size : (n : ℕ) (r : LexStep) → IfOk r (UpTo n) → IfOk (tokens_of r) (λ found. tokens_size found ≤ n)
of-size n (Ok s) h = h
of-size n (Err e) h = tt

-- the tokens of a file are no larger than the file
pub tokens-fit : (bytes : List ℕ) → IfOk (tokens bytes) (λ found. tokens_size found ≤ length bytes)
unfolding text_tokens
tokens-fit bytes =
    let n : ℕ = length bytes in
    let cut : IsCut 0 n (text_pieces 0 0 bytes) =
    cut_at 0 0 (0 + n) n (text_pieces 0 0 bytes) (pieces_cut 0 0 bytes (omega arith)) (omega arith)
    (omega arith) in
    cond_all (λ r. IfOk r (λ found. tokens_size found ≤ n)) (is_utf8 bytes) (text_tokens bytes) (Err fault.NotUtf8)
    (λ e. of-size n (then_lex (lay bytes (text_pieces 0 0 bytes) first_state) (finish n))
    (ok_then (UpTo n) (UpTo n) (lay bytes (text_pieces 0 0 bytes) first_state) (finish n)
    (lay-size bytes 0 n (text_pieces 0 0 bytes) first_state cut (omega arith))
    (λ t up. finish-size n n t up)))
    (λ e. tt)
