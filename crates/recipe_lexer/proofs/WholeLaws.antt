-- Each step keeps lines, blocks and brackets whole.
use Rattle.std.proofs.Common.{◌≡◌, ◌∙◌, ℕ, ◌+◌, ◌<◌, Bool, true, false, cond, List, [], ◌∷◌, length, refl, ap, sym, subst, arith, suc, Option, Some, None}
use Rattle.std.specs.Prelude.{Ok, Err, IfOk, ◌==◌, nat_lt, map}
use Rattle.std.specs.List.{prefix_len}
use Rattle.std.specs.Str.{is_utf8}
use Rattle.std.proofs.lemmas.Grind.{fold-append}
use Rattle.std.proofs.lemmas.Bool.{leb-true, ne_eqb, le-ltb}
use Rattle.recipe_lexer.specs.Order.{Stand, At, by_closing, by_sign, after, after_token, stand_of, AreWhole}
use Rattle.recipe_lexer.specs.Layout.{LexerState, LexStep, put_token, put_solid, dedents, deeper, top_indent, indent, indented, is_no_tab, spaces, slice, begin, begin_by, white_by, line_end_by, is_closing, close, closing, bracket_by, bracket, step, step_by, last_line, finish_by, finish, lay, first_state, then_lex, text_tokens, tokens, text_pieces}
use Rattle.recipe_lexer.specs.declared.piece.Shape.{Shape}
use Rattle.recipe_lexer.specs.declared.piece.Shape.TheVariants as shape
use Rattle.recipe_lexer.specs.declared.piece.Piece.{Piece}
use Rattle.recipe_lexer.specs.declared.token.TokenKind.{TokenKind}
use Rattle.recipe_lexer.specs.declared.token.TokenKind.TheVariants as kind
use Rattle.recipe_lexer.specs.declared.token.LexFault.TheVariants as fault
use Rattle.recipe_lexer.specs.declared.line.LineState.{LineState}
use Rattle.recipe_lexer.specs.declared.line.LineState.TheVariants.{Begun, Blank}
use Rattle.recipe_lexer.specs.declared.line.Opened.{Opened}
use Rattle.recipe_lexer.proofs.Keeping.{cond_all, ok_map, ok_then}
use Rattle.recipe_lexer.proofs.TokenLaws.{tokens_ok}

-- ---- what is kept

abbrev pub partner : Opened → ℕ
partner inner = inner.closing

-- the indentations of blocks are no empty ones
abbrev pub Positive : List ℕ → Type 0
Positive [] = Unit {0}
Positive (i ∷ is) = (0 < i) × Positive is

-- the tokens end in a line that has one or not, and in the state's brackets and blocks
abbrev pub Ends : Bool → LexerState → Type 0
Ends begun s = (stand_of s.tokens ≡ At begun (map partner s.brackets) (length s.indents)) × Positive s.indents

abbrev pub ReadyIn : LineState → LexerState → Type 0
ReadyIn Begun s = Ends true s
ReadyIn (Blank from to) s = (s.brackets ≡ []) × Ends false s

-- between two pieces
abbrev pub Ready : LexerState → Type 0
Ready s = ReadyIn s.line s

-- in a line, before a token that is no line end
abbrev pub Inside : LexerState → Type 0
Inside s = (s.line ≡ Begun) × ((begun : Bool) × Ends begun s)

-- at a line's start, in which no token but Dedents came
abbrev pub Fresh : LineState → LexerState → Type 0
Fresh line s = (s.line ≡ line) × (s.brackets ≡ []) × Ends false s

-- ---- tokens

stand_put : (k : TokenKind) (from to : ℕ) (s : LexerState) → stand_of (put_token k from to s).tokens ≡ after (stand_of s.tokens) k
stand_put k from to s = fold-append after_token (At false [] 0) s.tokens (record { kind = k; start = from; end = to } ∷ [])

put_stand : (k : TokenKind) (from to : ℕ) (s : LexerState) (stand : Stand) → stand_of s.tokens ≡ stand
    → stand_of (put_token k from to s).tokens ≡ after stand k
put_stand k from to s stand e = stand_put k from to s ∙ ap (λ (now : Stand). after now k) e

-- ---- indentation

dedents_fresh : (line : LineState) (from place n : ℕ) (indents : List ℕ) (s : LexerState) → s.indents ≡ indents → Fresh line s
    → IfOk (dedents from place n indents s) (Fresh line)
dedents_fresh line from place n [] s e f =
    cond_all (λ r. IfOk r (Fresh line)) (n == 0) (Ok s) (Err (fault.BadIndent from)) (λ e. f) (λ e. tt)
dedents_fresh line from place n (i ∷ indents) s e f =
    let t : LexerState = put_token kind.Dedent place place (record s { indents = indents }) in
    let ends : Ends false s = f.2 in
    let at : stand_of s.tokens ≡ At false [] (suc (length indents)) =
    ends.0 ∙ ap (λ (os : List Opened). At false (map partner os) (length s.indents)) (f.1)
    ∙ ap (λ (is : List ℕ). At false [] (length is)) e in
    let some : Positive (i ∷ indents) = rw e at (ends.1) in
    let fresh : Fresh line t = (
      f.0,
      f.1,
      (
        rw (f.1) (put_stand kind.Dedent place place (record s { indents = indents }) (At false [] (suc (length indents))) at),
        some.1,
      ),
    ) in
    cond_all (λ r. IfOk r (Fresh line)) (n == i) (Ok s) (cond (nat_lt i n) (Err (fault.BadIndent from)) (dedents from place n indents t))
    (λ e. f) (λ e.
    cond_all (λ r. IfOk r (Fresh line)) (nat_lt i n) (Err (fault.BadIndent from)) (dedents from place n indents t) (λ e. tt) (λ e.
    dedents_fresh line from place n indents t refl fresh))

deeper_inside : (from place n : ℕ) (colon : Bool) (s : LexerState) → 0 < n → Fresh Begun s → IfOk (deeper from place n colon s) Inside
deeper_inside from place n true s some f =
    let ends : Ends false s = f.2 in
    let at : stand_of s.tokens ≡ At false [] (length s.indents) =
    ends.0 ∙ ap (λ (os : List Opened). At false (map partner os) (length s.indents)) (f.1) in (
      f.0,
      (
        false,
        (
          rw (f.1) (put_stand kind.Indent from place (record s { indents = n ∷ s.indents }) (At false [] (length s.indents)) at),
          (some, ends.1),
        ),
      ),
    )
deeper_inside from place n false s some f = tt

fresh_inside : (s : LexerState) → Fresh Begun s → Inside s
fresh_inside s f = (f.0, (false, f.2))

indented_inside : (from place : ℕ) (white : List ℕ) (s : LexerState) → Fresh Begun s → IfOk (indented from place white s) Inside
unfolding indented indent
indented_inside from place white s f =
    let n : ℕ = spaces white in
    cond_all (λ r. IfOk r Inside) (nat_lt (prefix_len is_no_tab white) (length white))
    (Err (fault.BadIndent (from + prefix_len is_no_tab white)))
    (cond (nat_lt (top_indent s.indents) n) (deeper from place n s.colon s) (dedents from place n s.indents s)) (λ e. tt) (λ e.
    cond_all (λ r. IfOk r Inside) (nat_lt (top_indent s.indents) n) (deeper from place n s.colon s) (dedents from place n s.indents s)
    (λ e. deeper_inside from place n s.colon s (omega (arith, leb-true (suc (top_indent s.indents)) n e)) f)
    (λ e. ok_map (Fresh Begun) Inside (dedents from place n s.indents s) (dedents_fresh Begun from place n s.indents s refl f)
    fresh_inside))

begin_line : (bytes : List ℕ) (line : LineState) (s : LexerState) → s.line ≡ line → ReadyIn line s → IfOk (begin_by bytes line s) Inside
begin_line bytes Begun s e r = (e, (true, r))
begin_line bytes (Blank from to) s e r = indented_inside from to (slice bytes from to) (record s { line = Begun }) (refl, r.0, r.1)

begin_inside : (bytes : List ℕ) (s : LexerState) → Ready s → IfOk (begin bytes s) Inside
unfolding begin
begin_inside bytes s r = begin_line bytes s.line s refl r

-- ---- signs and brackets

-- a token that is no line end was put: the line is begun
begun_ready : (s : LexerState) → s.line ≡ Begun → Ends true s → Ready s
begun_ready s e ends = rw e ends

word_ready : (from to : ℕ) (s : LexerState) → Inside s → Ready (put_solid kind.Word from to false s)
word_ready from to s (e, (begun, ends)) =
    begun_ready (put_solid kind.Word from to false s) e
    (put_stand kind.Word from to (record s { colon = false }) (At begun (map partner s.brackets) (length s.indents)) ends.0, ends.1)

text_ready : (from to : ℕ) (s : LexerState) → Inside s → Ready (put_solid kind.Text from to false s)
text_ready from to s (e, (begun, ends)) =
    begun_ready (put_solid kind.Text from to false s) e
    (put_stand kind.Text from to (record s { colon = false }) (At begun (map partner s.brackets) (length s.indents)) ends.0, ends.1)

-- behind the step of a sign on the brackets, its token gives the state's brackets
abbrev pub Signs : ℕ → LexerState → Type 0
Signs b s = (s.line ≡ Begun) × (after (stand_of s.tokens) (kind.Op b) ≡ At true (map partner s.brackets) (length s.indents))
    × Positive s.indents

close_signs : (place b : ℕ) (brackets : List Opened) (s : LexerState) (blocks : ℕ) → s.line ≡ Begun → Positive s.indents
    → blocks ≡ length s.indents → s.brackets ≡ brackets
    → (after (stand_of s.tokens) (kind.Op b) ≡ by_closing b (map partner brackets) blocks) → IfOk (close place b brackets s) (Signs b)
close_signs place b [] s blocks e some same is sign = tt
close_signs place b (inner ∷ brackets) s blocks e some same is sign =
    cond_all (λ r. IfOk r (Signs b)) (inner.closing == b) (Ok (record s { brackets = brackets })) (Err (fault.OpenBracket place))
    (λ fits. (e, sign ∙ rw (fits, same) refl, some))
    (λ fits. tt)

bracket_signs : (place b : ℕ) (closes : Option ℕ) (s : LexerState) → s.line ≡ Begun → Positive s.indents
    → (after (stand_of s.tokens) (kind.Op b) ≡ by_sign b closes (map partner s.brackets) (length s.indents))
    → IfOk (bracket_by place b closes s) (Signs b)
bracket_signs place b (Some c) s e some sign = (e, sign, some)
bracket_signs place b None s e some sign =
    cond_all (λ r. IfOk r (Signs b)) (is_closing b) (close place b s.brackets s) (Ok s)
    (λ closes. close_signs place b s.brackets s (length s.indents) e some refl refl (sign ∙ rw closes refl))
    (λ closes. (e, sign ∙ rw closes refl, some))

sign_signs : (place b : ℕ) (s : LexerState) → Inside s → IfOk (bracket place b s) (Signs b)
unfolding bracket
sign_signs place b s (e, (begun, ends)) = bracket_signs place b (closing b) s e ends.1
    (ap (λ (now : Stand). after now (kind.Op b)) (ends.0))

op_ready : (b from to : ℕ) (colon : Bool) (s : LexerState) → Signs b s → Ready (put_solid (kind.Op b) from to colon s)
op_ready b from to colon s f = begun_ready (put_solid (kind.Op b) from to colon s) f.0
    (stand_put (kind.Op b) from to (record s { colon = colon }) ∙ f.1, f.2)

-- ---- pieces

white_ready : (from to : ℕ) (line : LineState) (s : LexerState) → ReadyIn line s
    → ReadyIn (white_by from to line) (record s { line = white_by from to line })
white_ready from to Begun s r = r
white_ready from to (Blank low high) s r =
    cond_all (λ line. ReadyIn line (record s { line = line })) (high == from) (Blank low to) (Blank low high) (λ e. r) (λ e. r)

line_end_ready : (from to : ℕ) (brackets : List Opened) (line : LineState) (s : LexerState) → s.brackets ≡ brackets → s.line ≡ line
    → ReadyIn line s
    → Ready (line_end_by from to brackets line s)
line_end_ready from to (inner ∷ brackets) line s e is r = subst (λ (now : LineState). ReadyIn now s) (sym is) r
line_end_ready from to [] Begun s e is r =
    let at : stand_of s.tokens ≡ At true [] (length s.indents) =
    r.0 ∙ ap (λ (os : List Opened). At true (map partner os) (length s.indents)) e in
    (e, (rw e (put_stand kind.NewLine from to (record s { line = Blank to to }) (At true [] (length s.indents)) at), r.1))
line_end_ready from to [] (Blank low high) s e is r = r

step_ready_by : (bytes : List ℕ) (sort : Shape) (from to : ℕ) (s : LexerState) → Ready s → IfOk (step_by bytes sort from to s) Ready
step_ready_by bytes shape.White from to s r = white_ready from to s.line s r
step_ready_by bytes shape.Passed from to s r = r
step_ready_by bytes shape.LineEnd from to s r = line_end_ready from to s.brackets s.line s refl refl r
step_ready_by bytes shape.Word from to s r =
    ok_then Inside Ready (begin bytes s) (λ t. Ok (put_solid kind.Word from to false t)) (begin_inside bytes s r) (word_ready from to)
step_ready_by bytes shape.Text from to s r =
    ok_then Inside Ready (begin bytes s) (λ t. Ok (put_solid kind.Text from to false t)) (begin_inside bytes s r) (text_ready from to)
step_ready_by bytes (shape.Unclosed mark) from to s r =
    ok_then Inside Ready (begin bytes s) (λ t. Err (fault.OpenString mark)) (begin_inside bytes s r) (λ t i. tt)
step_ready_by bytes (shape.Op b) from to s r =
    let last : LexerState → LexStep = λ u. Ok (put_solid (kind.Op b) from to (b == 58) u) in
    ok_then Inside Ready (begin bytes s) _ (begin_inside bytes s r) (λ t i.
    ok_then (Signs b) Ready (bracket from b t) last (sign_signs from b t i) (op_ready b from to (b == 58)))

step_ready : (bytes : List ℕ) (p : Piece) (s : LexerState) → Ready s → IfOk (step bytes p s) Ready
unfolding step
step_ready bytes p s r = step_ready_by bytes p.shape p.start p.end s r

lay_ready : (bytes : List ℕ) (ps : List Piece) (s : LexerState) → Ready s → IfOk (lay bytes ps s) Ready
unfolding lay
lay_ready bytes [] s r = r
lay_ready bytes (p ∷ ps) s r = ok_then Ready Ready (step bytes p s) (lay bytes ps) (step_ready bytes p s r) (lay_ready bytes ps)

-- ---- the end

abbrev pub Ended : LexerState → Type 0
Ended s = stand_of s.tokens ≡ At false [] 0

dedents_all : (from place : ℕ) (indents : List ℕ) (s : LexerState) → Positive indents → stand_of s.tokens ≡ At false [] (length indents)
    → IfOk (dedents from place 0 indents s) Ended
dedents_all from place [] s some at = at
dedents_all from place (i ∷ indents) s some at =
    let no : 0 ≡ i → ⊥ = λ e. omega (arith, e, some.0) in
    let t : LexerState = put_token kind.Dedent place place (record s { indents = indents }) in
    rw (ne_eqb 0 i no, le-ltb i 0 (omega arith))
    (dedents_all from place indents t some.1 (put_stand kind.Dedent place place (record s { indents = indents })
    (At false [] (suc (length indents))) at))

last_ended : (to : ℕ) (line : LineState) (s : LexerState) → s.brackets ≡ [] → ReadyIn line s
    → stand_of (last_line to line s).tokens ≡ At false [] (length s.indents)
last_ended to Begun s e r = put_stand kind.NewLine to to s (At true [] (length s.indents)) (r.0
    ∙ ap (λ (os : List Opened). At true (map partner os) (length s.indents)) e)
last_ended to (Blank low high) s e r = (r.1).0 ∙ ap (λ (os : List Opened). At false (map partner os) (length s.indents)) e

ready_positive : (line : LineState) (s : LexerState) → ReadyIn line s → Positive s.indents
ready_positive Begun s r = r.1
ready_positive (Blank low high) s r = (r.1).1

finish_whole_by : (to : ℕ) (brackets : List Opened) (s : LexerState) → s.brackets ≡ brackets → Ready s
    → IfOk (finish_by to brackets s) (λ t. AreWhole t.tokens)
finish_whole_by to (inner ∷ brackets) s e r = tt
finish_whole_by to [] s e r =
    let t : LexerState = last_line to s.line s in
    ok_then Ended (λ u. AreWhole u.tokens) (dedents to to 0 s.indents t) (λ u. Ok (put_token kind.End to to u))
    (dedents_all to to s.indents t (ready_positive s.line s r) (last_ended to s.line s e r))
    (λ u ended. put_stand kind.End to to u (At false [] 0) ended)

finish_whole : (to : ℕ) (s : LexerState) → Ready s → IfOk (finish to s) (λ t. AreWhole t.tokens)
unfolding finish
finish_whole to s r = finish_whole_by to s.brackets s refl r

-- the lines, blocks and brackets of a file's tokens are whole
pub tokens_whole : (bytes : List ℕ) → IfOk (tokens bytes) AreWhole
unfolding text_tokens
tokens_whole bytes =
    let n : ℕ = length bytes in
    cond_all (λ r. IfOk r AreWhole) (is_utf8 bytes) (text_tokens bytes) (Err fault.NotUtf8)
    (λ e. tokens_ok AreWhole (then_lex (lay bytes (text_pieces 0 0 bytes) first_state) (finish n))
    (ok_then Ready (λ t. AreWhole t.tokens) (lay bytes (text_pieces 0 0 bytes) first_state) (finish n)
    (lay_ready bytes (text_pieces 0 0 bytes) first_state (refl, (refl, tt)))
    (finish_whole n)))
    (λ e. tt)
