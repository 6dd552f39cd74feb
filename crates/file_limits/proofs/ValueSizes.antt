-- A value is no larger than its segment, which has something in it.
use Rattle.std.proofs.Common.{◌≡◌, ℕ, ◌+◌, ◌-◌, ◌≤◌, true, false, List, [], ◌∷◌, length, sum_by, arith, length-append}
use Rattle.std.specs.Prelude.{Ok, Err, IfOk, codes}
use Rattle.std.specs.Str.{bytes_eq, is_utf8}
use Rattle.std.proofs.lemmas.List.Sums.{sum_by-cons}
use Rattle.recipe_lexer.specs.declared.token.Token.{Token}
use Rattle.recipe_lexer.specs.declared.token.TokenKind.{TokenKind}
use Rattle.recipe_lexer.specs.declared.token.TokenKind.TheVariants.{Word, Text, Op, NewLine, Indent, Dedent, End}
use Rattle.recipe_statements.specs.Lines.{word, word_by, is_text_kind}
use Rattle.recipe_values.specs.declared.value.Scalar.TheVariants as scalar
use Rattle.recipe_values.specs.declared.value.PlacedValue.{PlacedValue}
use Rattle.recipe_values.specs.declared.segment.Atom.{Atom}
use Rattle.recipe_values.specs.declared.segment.Atom.TheVariants.{Plain, Inner}
use Rattle.recipe_values.specs.declared.segment.Segment.{Segment}
use Rattle.recipe_values.specs.Reads.{Read, join}
use Rattle.recipe_values.specs.Strings.{string, as_text}
use Rattle.recipe_values.specs.Values.{is_empty, one, is_digits, word_value, unless_more, atom_text, texts, text_value, plain_value, value_by, segment_value}
use Rattle.recipe_lexer.proofs.Keeping.{cond_all}
use Rattle.file_limits.proofs.Sizes.{size_by, token_size, value_size, read_size, atom_size, segment_size}
use Rattle.file_limits.proofs.TokenCounts.{Few, few-more, few-join}
use Rattle.file_limits.proofs.StringSizes.{string-few}

-- the value counts for n at most, and so does a name or a member
abbrev pub Fits : ℕ → PlacedValue → Type 0
Fits n r = (value_size r.value ≤ n) × (1 ≤ n)

abbrev pub ReadFits : ℕ → Read PlacedValue → Type 0
ReadFits n r = IfOk r (Fits n)

-- ---- words

word-fits : (place n : ℕ) (w : List ℕ) → 1 ≤ n → ReadFits n (word_value place w)
word-fits place n w some =
    cond_all (ReadFits n) (bytes_eq w (codes "True")) (Ok (one place (scalar.Truth true))) _ (λ e. (some, some)) (λ e.
    cond_all (ReadFits n) (bytes_eq w (codes "False")) (Ok (one place (scalar.Truth false))) _ (λ e. (some, some)) (λ e.
    cond_all (ReadFits n) (bytes_eq w (codes "None")) (Ok (one place scalar.Nothing)) _ (λ e. (some, some)) (λ e.
    cond_all (ReadFits n) (is_digits w) (Ok (one place (scalar.Number w))) (Err place) (λ e. (some, some)) (λ e. tt))))

-- a token that counts for nothing is no value
kind-fits : (bytes : List ℕ) (place : ℕ) (k : TokenKind) (from to : ℕ)
    → ReadFits (size_by k from to) (word_value place (word_by bytes k from to))
kind-fits bytes place Word from to = word-fits place (to - (from + 1) + 1) (word_by bytes Word from to) (omega arith)
kind-fits bytes place Text from to = tt
kind-fits bytes place (Op b) from to = tt
kind-fits bytes place NewLine from to = tt
kind-fits bytes place Indent from to = tt
kind-fits bytes place Dedent from to = tt
kind-fits bytes place End from to = tt

-- ---- strings

-- a string that is a value has its marks besides its text
abbrev IsShort : ℕ → Read (List ℕ) → Type 0
IsShort n r = IfOk r (λ w. length w + 1 ≤ n)

short : (n m : ℕ) (r : Read (List ℕ)) → Few n r → n + 1 ≤ m → IsShort m r
short n m (Ok w) h le = omega (arith, h, le)
short n m (Err place) h le = tt

string-short : (bytes : List ℕ) (t : Token) (k : TokenKind) → is_text_kind k ≡ true → IsShort (size_by k t.start t.end) (string bytes t)
string-short bytes t Word is = absurd cc
string-short bytes t Text is =
    short (t.end - (t.start + 1)) (t.end - (t.start + 1) + 1) (string bytes t) (string-few bytes t) (omega arith)
string-short bytes t (Op b) is = absurd cc
string-short bytes t NewLine is = absurd cc
string-short bytes t Indent is = absurd cc
string-short bytes t Dedent is = absurd cc
string-short bytes t End is = absurd cc

short-few : (n : ℕ) (r : Read (List ℕ)) → IsShort n r → Few n r
short-few n (Ok w) h = omega (arith, h)
short-few n (Err place) h = tt

short-join : (m n : ℕ) (a b : Read (List ℕ)) → IsShort m a → Few n b → IsShort (m + n) (join a b)
short-join m n (Ok a) (Ok b) h k = omega (arith, h, k, length-append a b)
short-join m n (Ok a) (Err place) h k = tt
short-join m n (Err place) b h k = tt

short-text : (n place : ℕ) (r : Read (List ℕ)) → IsShort n r → IsShort n (as_text place r)
short-text n place (Ok w) h = cond_all (IsShort n) (is_utf8 w) (Ok w) (Err place) (λ e. h) (λ e. tt)
short-text n place (Err p) h = tt

atom-few : (bytes : List ℕ) (place : ℕ) (a : Atom) → Few (atom_size a) (atom_text bytes place a)
atom-few bytes place (Plain t) =
    cond_all (Few (token_size t)) (is_text_kind t.kind) (string bytes t) (Err place)
    (λ e. short-few (token_size t) (string bytes t) (string-short bytes t t.kind e)) (λ e. tt)
atom-few bytes place (Inner start read) = tt

texts-few : (bytes : List ℕ) (place : ℕ) (atoms : List Atom) → Few (sum_by atom_size atoms) (texts bytes place atoms)
unfolding texts
texts-few bytes place [] = omega arith
texts-few bytes place (a ∷ more) =
    let both = few-join (atom_size a) (sum_by atom_size more) (atom_text bytes place a) (texts bytes place more) (atom-few bytes place a)
    (texts-few bytes place more) in
    few-more (atom_size a + sum_by atom_size more) (sum_by atom_size (a ∷ more)) _ both (omega (arith, sum_by-cons atom_size a more))

text-fits : (n place : ℕ) (r : Read (List ℕ)) → IsShort n r → ReadFits n (text_value place r)
text-fits n place (Ok w) h = (h, omega (arith, h))
text-fits n place (Err p) h = tt

-- ---- segments

fits-more : (m n : ℕ) (r : Read PlacedValue) → ReadFits m r → m ≤ n → ReadFits n r
fits-more m n (Ok r) h le = (omega (arith, h.0, le), omega (arith, h.1, le))
fits-more m n (Err place) h le = tt

alone-fits : (n place : ℕ) (behind : List Atom) (r : Read PlacedValue) → ReadFits n r → ReadFits n (unless_more place behind r)
alone-fits n place behind (Ok r) h = cond_all (ReadFits n) (is_empty behind) (Ok r) (Err place) (λ e. h) (λ e. tt)
alone-fits n place behind (Err p) h = tt

inner-fits : (n : ℕ) (r : Read PlacedValue) → read_size r + 1 ≤ n → ReadFits n r
inner-fits n (Ok r) le = (omega (arith, le), omega (arith, le))
inner-fits n (Err place) le = tt

by-fits : (bytes : List ℕ) (atoms : List Atom) (stop : ℕ) → ReadFits (sum_by atom_size atoms) (value_by bytes atoms stop)
by-fits bytes [] stop = tt
by-fits bytes (Plain t ∷ more) stop =
    let here = sum_by-cons atom_size (Plain t) more in
    let n : ℕ = token_size t in
    let rest : ℕ = sum_by atom_size more in
    fits-more (n + rest) (sum_by atom_size (Plain t ∷ more)) (plain_value bytes t more)
    (cond_all (ReadFits (n + rest)) (is_text_kind t.kind)
    (text_value t.start (as_text t.start (join (string bytes t) (texts bytes t.start more))))
    (unless_more t.start more (word_value t.start (word bytes t)))
    (λ e. text-fits (n + rest) t.start (as_text t.start (join (string bytes t) (texts bytes t.start more)))
    (short-text (n + rest) t.start (join (string bytes t) (texts bytes t.start more))
    (short-join n rest (string bytes t) (texts bytes t.start more) (string-short bytes t t.kind e) (texts-few bytes t.start more))))
    (λ e. alone-fits (n + rest) t.start more (word_value t.start (word bytes t))
    (fits-more n (n + rest) (word_value t.start (word bytes t)) (kind-fits bytes t.start t.kind t.start t.end) (omega arith))))
    (omega (arith, here))
by-fits bytes (Inner place read ∷ more) stop =
    alone-fits (sum_by atom_size (Inner place read ∷ more)) place more read
    (inner-fits (sum_by atom_size (Inner place read ∷ more)) read (omega (arith, sum_by-cons atom_size (Inner place read) more)))

-- a value is no larger than its segment
pub value-fits : (bytes : List ℕ) (s : Segment) → ReadFits (segment_size s) (segment_value bytes s)
unfolding segment_value
value-fits bytes s = by-fits bytes s.atoms s.stop
