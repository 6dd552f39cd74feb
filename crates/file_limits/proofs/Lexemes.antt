-- Lexemes have at least as many bytes as they weigh.
use Rattle.std.proofs.Common.{ℕ, ◌+◌, ◌≤◌, suc, rules, Bool, true, false, cond, ◌&&◌, nat_eq, List, [], ◌∷◌, length, drop, Option, Some, None, arith}
use Rattle.std.specs.List.{starts_with}
use Rattle.json.specs.Token.{Token, begin_object, end_object, begin_array, end_array, key, string, number, boolean, null, bad}
use Rattle.json.specs.Text.{plain, content}
use Rattle.json.specs.Word.{ends_word, number_before, literal, word}
use Rattle.json.specs.Lex.{Lexeme, token, comma, colon, Class, quote, backslash, operator, space, other, class, Mode, between, in_word, in_string, in_escape, operator_lexeme, string_token, lex_byte, lex}
use Rattle.json.specs.Align.{span_byte, span}
use Rattle.file_limits.proofs.Strings.{IsShorter, string-shorter}

abbrev pub token_weight : Token → ℕ
token_weight begin_object = 1
token_weight end_object = 1
token_weight begin_array = 1
token_weight end_array = 1
token_weight (key s) = length s + 2
token_weight (string s) = length s + 2
token_weight (number s) = 1
token_weight (boolean b) = 1
token_weight null = 1
token_weight bad = 0

abbrev pub lexeme_weight : Lexeme → ℕ
lexeme_weight (token t) = token_weight t
lexeme_weight comma = 1
lexeme_weight colon = 1

abbrev pub lexemes_weight : List Lexeme → ℕ
lexemes_weight [] = 0
lexemes_weight (l ∷ ls) = lexeme_weight l + lexemes_weight ls

-- ---- one lexeme

one_of : (b : Bool) (s t : Token) → token_weight s ≤ 1 → token_weight t ≤ 1 → token_weight (cond b s t) ≤ 1
one_of true s t p q = p
one_of false s t p q = q

literal-one : (name : List ℕ) (t : Token) (text : List ℕ) → token_weight t ≤ 1 → token_weight (literal name t text) ≤ 1
literal-one name t text h = one_of (starts_with nat_eq text name && ends_word (drop (length name) text)) t bad h (omega arith)

number-one : (text : List ℕ) (o : Option (List ℕ)) → token_weight (number_before text o) ≤ 1
number-one text None = omega arith
number-one text (Some rest) = one_of (ends_word rest) _ bad (omega arith) (omega arith)

word-one : (text : List ℕ) → token_weight (word text) ≤ 1
unfolding word
word-one text = search (rules, one_of, literal-one, number-one)

operator-one : (x : ℕ) → lexeme_weight (operator_lexeme x) ≤ 1
operator-one x = grind arith

string-one : (o : Option (List ℕ)) (n : ℕ) → IsShorter o n → token_weight (string_token o) ≤ 1 + n
string-one None n h = omega arith
string-one (Some s) n h = omega arith

-- ---- all lexemes

-- what stands behind the byte x is known, and the string that it may begin
byte-bears : (m : Mode) (c : Class) (x : ℕ) (xs : List ℕ) (k : Mode → List Lexeme) (s : Mode → ℕ)
    → ((n : Mode) → lexemes_weight (k n) + s n ≤ length xs) → token_weight (string_token (content plain xs)) ≤ 1 + s in_string
    → lexemes_weight (lex_byte m c x xs k) + span_byte m c s ≤ suc (length xs)
byte-bears between quote x xs k s h q = omega (arith, h in_string)
byte-bears between backslash x xs k s h q = omega (arith, h in_word)
byte-bears between operator x xs k s h q = omega (arith, h between, operator-one x)
byte-bears between space x xs k s h q = omega (arith, h between)
byte-bears between other x xs k s h q = omega (arith, h in_word, word-one (x ∷ xs))
byte-bears in_word quote x xs k s h q = omega (arith, h in_word)
byte-bears in_word backslash x xs k s h q = omega (arith, h in_word)
byte-bears in_word operator x xs k s h q = omega (arith, h between, operator-one x)
byte-bears in_word space x xs k s h q = omega (arith, h between)
byte-bears in_word other x xs k s h q = omega (arith, h in_word)
byte-bears in_string quote x xs k s h q = omega (arith, h between)
byte-bears in_string backslash x xs k s h q = omega (arith, h in_escape)
byte-bears in_string operator x xs k s h q = omega (arith, h in_string)
byte-bears in_string space x xs k s h q = omega (arith, h in_string)
byte-bears in_string other x xs k s h q = omega (arith, h in_string)
byte-bears in_escape c x xs k s h q = omega (arith, h in_string)

-- with the bytes that a string has up to its end
bytes-bear : (m : Mode) (xs : List ℕ) → lexemes_weight (lex m xs) + span m xs ≤ length xs
unfolding lex span
bytes-bear m [] = omega arith
bytes-bear m (x ∷ xs) =
    byte-bears m (class x) x xs (λ n. lex n xs) (λ n. span n xs) (λ n. bytes-bear n xs)
    (string-one (content plain xs) (span in_string xs) (string-shorter xs))

-- lexemes weigh no more than the bytes that they are made of
pub lexemes-bear : (xs : List ℕ) → lexemes_weight (lex between xs) ≤ length xs
lexemes-bear xs = omega (arith, bytes-bear between xs)
