-- Each step keeps the tokens in order.
use Rattle.std.proofs.Common.{◌≡◌, ℕ, ◌+◌, ◌≤◌, Bool, true, false, cond, List, [], ◌∷◌, length, refl, arith, Option, Some, None}
use Rattle.std.specs.Prelude.{Ok, Err, IfOk, ◌==◌, nat_lt}
use Rattle.std.specs.List.{prefix_len}
use Rattle.recipe_lexer.specs.Order.{InOrder}
use Rattle.recipe_lexer.specs.Layout.{LexerState, LexStep, put_token, put_solid, dedents, deeper, top_indent, indent, indented, is_no_tab, spaces, slice, begin, begin_by, white_by, line_end_by, is_closing, close, closing, bracket_by, bracket, step, step_by, last_line, finish_by, finish}
use Rattle.recipe_lexer.specs.declared.piece.Shape.{Shape}
use Rattle.recipe_lexer.specs.declared.piece.Shape.TheVariants as shape
use Rattle.recipe_lexer.specs.declared.piece.Piece.{Piece}
use Rattle.recipe_lexer.specs.declared.token.TokenKind.{TokenKind}
use Rattle.recipe_lexer.specs.declared.token.TokenKind.TheVariants as kind
use Rattle.recipe_lexer.specs.declared.token.LexFault.TheVariants as fault
use Rattle.recipe_lexer.specs.declared.line.LineState.{LineState}
use Rattle.recipe_lexer.specs.declared.line.LineState.TheVariants.{Begun, Blank}
use Rattle.recipe_lexer.specs.declared.line.Opened.{Opened}
use Rattle.recipe_lexer.proofs.Keeping.{cond_all, ok_map, ok_then, wider, one_more}

-- the tokens go up to a place, in a line of this kind
abbrev pub Up : LineState → ℕ → LexerState → Type 0
Up line place s = InOrder 0 place s.tokens × (s.line ≡ line)

-- a line whose tokens, or those before it, end at m, and its indentation, stand before `place`
abbrev pub LineFits : ℕ → ℕ → LineState → Type 0
LineFits m place Begun = m ≤ place
LineFits m place (Blank from to) = (m ≤ from) × (from ≤ to) × (to ≤ place)

abbrev pub Fits : ℕ → LexerState → Type 0
Fits place s = (m : ℕ) × InOrder 0 m s.tokens × LineFits m place s.line

line_later : (m place n : ℕ) (line : LineState) → LineFits m place line → place ≤ n → LineFits m n line
line_later m place n Begun f le = omega (arith, f, le)
line_later m place n (Blank from to) f le = (f.0, f.1, omega (arith, f.2, le))

-- a state that fits a place fits a later one
pub later : (place n : ℕ) (s : LexerState) → Fits place s → place ≤ n → Fits n s
later place n s f le = (f.0, f.1, line_later f.0 place n s.line f.2 le)

put_up : (line : LineState) (k : TokenKind) (m start end : ℕ) (s : LexerState) → Up line m s → m ≤ start → start ≤ end
    → Up line end (put_token k start end s)
put_up line k m start end s up le fits = (one_more 0 m s.tokens (record { kind = k; start = start; end = end }) up.0 le fits, up.1)

dedents_up : (line : LineState) (start place n : ℕ) (indents : List ℕ) (s : LexerState) → Up line place s
    → IfOk (dedents start place n indents s) (Up line place)
dedents_up line start place n [] s up = cond_all (λ r. IfOk r (Up line place)) (n == 0) (Ok s) (Err (fault.BadIndent start))
    (λ e. up) (λ e. tt)
dedents_up line start place n (i ∷ indents) s up =
    let t : LexerState = put_token kind.Dedent place place (record s { indents = indents }) in
    cond_all (λ r. IfOk r (Up line place)) (n == i) (Ok s)
    (cond (nat_lt i n) (Err (fault.BadIndent start)) (dedents start place n indents t)) (λ e. up) (λ e.
    cond_all (λ r. IfOk r (Up line place)) (nat_lt i n) (Err (fault.BadIndent start)) (dedents start place n indents t) (λ e. tt) (λ e.
    dedents_up line start place n indents t (put_up line kind.Dedent place place place (record s { indents = indents }) up (omega arith)
    (omega arith))))

deeper_up : (line : LineState) (m start place n : ℕ) (colon : Bool) (s : LexerState) → Up line m s → m ≤ start → start ≤ place
    → IfOk (deeper start place n colon s) (Up line place)
deeper_up line m start place n true s up le fits = put_up line kind.Indent m start place (record s { indents = n ∷ s.indents }) up le fits
deeper_up line m start place n false s up le fits = tt

indented_up : (line : LineState) (m start place : ℕ) (white : List ℕ) (s : LexerState) → Up line m s → m ≤ start → start ≤ place
    → IfOk (indented start place white s) (Up line place)
unfolding indented indent
indented_up line m start place white s up le fits =
    let n : ℕ = spaces white in
    cond_all (λ r. IfOk r (Up line place)) (nat_lt (prefix_len is_no_tab white) (length white))
    (Err (fault.BadIndent (start + prefix_len is_no_tab white)))
    (cond (nat_lt (top_indent s.indents) n) (deeper start place n s.colon s) (dedents start place n s.indents s)) (λ e. tt) (λ e.
    cond_all (λ r. IfOk r (Up line place)) (nat_lt (top_indent s.indents) n) (deeper start place n s.colon s)
    (dedents start place n s.indents s)
    (λ e. deeper_up line m start place n s.colon s up le fits)
    (λ e. dedents_up line start place n s.indents s (wider 0 m place s.tokens up.0 (omega (arith, le, fits)), up.1)))

begin_line : (bytes : List ℕ) (m place : ℕ) (line : LineState) (s : LexerState) → Up line m s → LineFits m place line
    → IfOk (begin_by bytes line s) (Up Begun place)
begin_line bytes m place Begun s up f = (wider 0 m place s.tokens up.0 f, up.1)
begin_line bytes m place (Blank from to) s up f =
    ok_map (Up Begun to) (Up Begun place) (indented from to (slice bytes from to) (record s { line = Begun }))
    (indented_up Begun m from to (slice bytes from to) (record s { line = Begun }) (up.0, refl) f.0 f.1)
    (λ t u. (wider 0 to place t.tokens u.0 f.2, u.1))

begin_up : (bytes : List ℕ) (place : ℕ) (s : LexerState) → Fits place s → IfOk (begin bytes s) (Up Begun place)
unfolding begin
begin_up bytes place s f = begin_line bytes f.0 place s.line s (f.1, refl) f.2

begun_fits : (m place : ℕ) (s : LexerState) → InOrder 0 m s.tokens → s.line ≡ Begun → m ≤ place → Fits place s
begun_fits m place s o e le = (m, o, rw e le)

solid_fits : (k : TokenKind) (start end : ℕ) (colon : Bool) (s : LexerState) → Up Begun start s → start ≤ end
    → Fits end (put_solid k start end colon s)
solid_fits k start end colon s up le =
    let more = put_up Begun k start start end (record s { colon = colon }) up (omega arith) le in
    begun_fits end end (put_solid k start end colon s) more.0 more.1 (omega arith)

white_fits : (m start end : ℕ) (line : LineState) → LineFits m start line → start ≤ end → LineFits m end (white_by start end line)
white_fits m start end Begun f le = omega (arith, f, le)
white_fits m start end (Blank from to) f le =
    cond_all (LineFits m end) (to == start) (Blank from end) (Blank from to)
    (λ e. (f.0, omega (arith, f.1, f.2, le), omega arith))
    (λ e. (f.0, f.1, omega (arith, f.2, le)))

line_end_fits : (m start end : ℕ) (brackets : List Opened) (line : LineState) (s : LexerState) → Up line m s
    → LineFits m start line → start ≤ end
    → Fits end (line_end_by start end brackets line s)
line_end_fits m start end (b ∷ brackets) line s up f le = (m, up.0, rw (up.1) (line_later m start end line f le))
line_end_fits m start end [] Begun s up f le = (
  end,
  one_more 0 m s.tokens (record { kind = kind.NewLine; start = start; end = end }) up.0 f le,
  (omega arith, omega arith, omega arith),
)
line_end_fits m start end [] (Blank from to) s up f le =
    (m, up.0, (omega (arith, f.0, f.1, f.2, le), omega arith, omega arith))

close_up : (place b : ℕ) (brackets : List Opened) (s : LexerState) → Up Begun place s → IfOk (close place b brackets s) (Up Begun place)
close_up place b [] s up = tt
close_up place b (inner ∷ brackets) s up =
    cond_all (λ r. IfOk r (Up Begun place)) (inner.closing == b) (Ok (record s { brackets = brackets })) (Err (fault.OpenBracket place))
    (λ e. up) (λ e. tt)

bracket_by_up : (place b : ℕ) (closes : Option ℕ) (s : LexerState) → Up Begun place s → IfOk (bracket_by place b closes s) (Up Begun place)
bracket_by_up place b (Some c) s up = up
bracket_by_up place b None s up =
    cond_all (λ r. IfOk r (Up Begun place)) (is_closing b) (close place b s.brackets s) (Ok s)
    (λ e. close_up place b s.brackets s up) (λ e. up)

bracket_up : (place b : ℕ) (s : LexerState) → Up Begun place s → IfOk (bracket place b s) (Up Begun place)
unfolding bracket
bracket_up place b s up = bracket_by_up place b (closing b) s up

step_fits_by : (bytes : List ℕ) (sort : Shape) (start end : ℕ) (s : LexerState) → Fits start s → start ≤ end
    → IfOk (step_by bytes sort start end s) (Fits end)
step_fits_by bytes shape.White start end s f le = (f.0, f.1, white_fits f.0 start end s.line f.2 le)
step_fits_by bytes shape.Passed start end s f le = later start end s f le
step_fits_by bytes shape.LineEnd start end s f le = line_end_fits f.0 start end s.brackets s.line s (f.1, refl) f.2 le
step_fits_by bytes shape.Word start end s f le =
    ok_then (Up Begun start) (Fits end) (begin bytes s) (λ t. Ok (put_solid kind.Word start end false t)) (begin_up bytes start s f)
    (λ t up. solid_fits kind.Word start end false t up le)
step_fits_by bytes shape.Text start end s f le =
    ok_then (Up Begun start) (Fits end) (begin bytes s) (λ t. Ok (put_solid kind.Text start end false t)) (begin_up bytes start s f)
    (λ t up. solid_fits kind.Text start end false t up le)
step_fits_by bytes (shape.Unclosed mark) start end s f le =
    ok_then (Up Begun start) (Fits end) (begin bytes s) (λ t. Err (fault.OpenString mark)) (begin_up bytes start s f) (λ t up. tt)
step_fits_by bytes (shape.Op b) start end s f le =
    let last : LexerState → LexStep = λ u. Ok (put_solid (kind.Op b) start end (b == 58) u) in
    ok_then (Up Begun start) (Fits end) (begin bytes s) _ (begin_up bytes start s f) (λ t up.
    ok_then (Up Begun start) (Fits end) (bracket start b t) last (bracket_up start b t up)
    (λ u now. solid_fits (kind.Op b) start end (b == 58) u now le))

-- a step leads from a state that fits a piece's start to one that fits its end
pub step_fits : (bytes : List ℕ) (p : Piece) (s : LexerState) → Fits p.start s → p.start ≤ p.end → IfOk (step bytes p s) (Fits p.end)
unfolding step
step_fits bytes p s f le = step_fits_by bytes p.shape p.start p.end s f le

last_up : (m end : ℕ) (line : LineState) (s : LexerState) → Up line m s → LineFits m end line → InOrder 0 end (last_line end line s).tokens
last_up m end Begun s up f = one_more 0 m s.tokens (record { kind = kind.NewLine; start = end; end = end }) up.0 f (omega arith)
last_up m end (Blank from to) s up f = wider 0 m end s.tokens up.0 (omega (arith, f.0, f.1, f.2))

finish_up : (end : ℕ) (brackets : List Opened) (s : LexerState) → Fits end s → IfOk (finish_by end brackets s) (λ t. InOrder 0 end t.tokens)
finish_up end (inner ∷ brackets) s f = tt
finish_up end [] s f =
    let t : LexerState = last_line end s.line s in
    ok_then (Up t.line end) (λ u. InOrder 0 end u.tokens) (dedents end end 0 s.indents t) (λ u. Ok (put_token kind.End end end u))
    (dedents_up t.line end end 0 s.indents t (last_up f.0 end s.line s (f.1, refl) f.2, refl))
    (λ u up. one_more 0 end u.tokens (record { kind = kind.End; start = end; end = end }) up.0 (omega arith) (omega arith))

-- the tokens of a file that ends are in order
pub finish_in_order : (end : ℕ) (s : LexerState) → Fits end s → IfOk (finish end s) (λ t. InOrder 0 end t.tokens)
unfolding finish
finish_in_order end s f = finish_up end s.brackets s f
