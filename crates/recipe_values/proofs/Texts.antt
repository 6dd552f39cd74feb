-- Texts that are UTF-8, bytes with escapes, and strings.
use Rattle.std.proofs.Common.{◌≡◌, ℕ, ◌+◌, ◌<◌, ◌≤◌, Bool, true, false, List, [], ◌∷◌, length, drop, get_or, refl, arith, cond}
use Rattle.std.specs.Prelude.{Ok, Err, ◌==◌, ◌&&◌, not}
use Rattle.std.specs.Str.{IsUtf8, is_utf8}
use Rattle.std.proofs.lemmas.List.{drop_more, drop_all}
use Rattle.std.proofs.lemmas.Str.{IsUtf8-from_is_utf8, is_utf8-from_IsUtf8}
use Rattle.recipe_lexer.specs.declared.token.Token.{Token}
use Rattle.recipe_lexer.specs.declared.token.TokenKind.TheVariants.{Word}
use Rattle.recipe_values.specs.Reads.{join}
use Rattle.recipe_values.specs.Strings.{as_text, byte_text, decoded, inside, is_no_escape, marks_of, prefix, string, strings}
use Rattle.recipe_values.specs.Values.{texts}
use Rattle.recipe_values.specs.declared.segment.Atom.{Atom}
use Rattle.recipe_lexer.specs.Layout.{slice}
use Rattle.std.specs.List.{list_all}
use Rattle.std.proofs.lemmas.List.{nil_from_length}
use Rattle.recipe_values.proofs.Joins.{join_nil, more_read, not_read}

-- ---- UTF-8

-- UTF-8 is the text that it is
pub is_text : (place : ℕ) (w : List ℕ) → IsUtf8 w → as_text place (Ok w) ≡ Ok w
is_text place w h = rw (is_utf8-from_IsUtf8 w h) refl

no_text_by : (b : Bool) (place : ℕ) (w : List ℕ) → (b ≡ true → ⊥) → cond b (Ok w) (Err place) ≡ Err place
no_text_by true place w h = absurd (h refl)
no_text_by false place w h = refl

-- what is no UTF-8 is a fault at its place
pub no_text : (place : ℕ) (w : List ℕ) → (IsUtf8 w → ⊥) → as_text place (Ok w) ≡ Err place
no_text place w h = no_text_by (is_utf8 w) place w (λ e. h (IsUtf8-from_is_utf8 w e))

-- ---- one after the other

-- what a list of tokens has behind its end
abbrev pub nothing : Token
nothing = record { kind = Word; start = 0; end = 0 }

-- a byte more behind the text so far
pub byte_more : (old new : List ℕ) (place i : ℕ) (taken : Bool) (bytes : List ℕ) → i < length bytes
    → join (Ok old) (byte_text (place + i) taken (get_or bytes i 0)) ≡ Ok new
    → join (Ok old) (decoded (place + i) taken (drop i bytes))
    ≡ join (Ok new) (decoded (place + (i + 1)) (not taken && get_or bytes i 0 == 92) (drop (i + 1) bytes))
unfolding decoded
byte_more old new place i taken bytes lt e =
    let next : place + i + 1 ≡ place + (i + 1) = omega arith in
    rw (drop_more bytes i 0 lt, next) (more_read old new (byte_text (place + i) taken (get_or bytes i 0)) _ e)

-- a byte that is no text is the fault of all
pub byte_fails : (old : List ℕ) (place i fault : ℕ) (taken : Bool) (bytes : List ℕ) → i < length bytes
    → join (Ok old) (byte_text (place + i) taken (get_or bytes i 0)) ≡ Err fault
    → join (Ok old) (decoded (place + i) taken (drop i bytes)) ≡ Err fault
unfolding decoded
byte_fails old place i fault taken bytes lt e =
    rw (drop_more bytes i 0 lt) (not_read old fault (byte_text (place + i) taken (get_or bytes i 0)) _ e)

-- no bytes more leave the text
pub bytes_end : (text : List ℕ) (place i : ℕ) (taken : Bool) (bytes : List ℕ) → length bytes ≤ i
    → join (Ok text) (decoded place taken (drop i bytes)) ≡ Ok text
unfolding decoded
bytes_end text place i taken bytes le = rw (drop_all i bytes le) (join_nil (Ok text))

-- a string more behind the text so far
pub string_more : (old new : List ℕ) (i : ℕ) (bytes : List ℕ) (tokens : List Token) (t : Token) → drop i tokens ≡ t ∷ drop (i + 1) tokens
    → join (Ok old) (string bytes t) ≡ Ok new → join (Ok old) (strings bytes (drop i tokens))
    ≡ join (Ok new) (strings bytes (drop (i + 1) tokens))
unfolding strings
string_more old new i bytes tokens t is e = rw is (more_read old new (string bytes t) _ e)

-- a string that is no text is the fault of all
pub string_fails : (old : List ℕ) (i fault : ℕ) (bytes : List ℕ) (tokens : List Token) (t : Token) → drop i tokens ≡ t ∷ drop (i + 1) tokens
    → join (Ok old) (string bytes t) ≡ Err fault → join (Ok old) (strings bytes (drop i tokens)) ≡ Err fault
unfolding strings
string_fails old i fault bytes tokens t is e = rw is (not_read old fault (string bytes t) _ e)

-- no strings more leave the text
pub strings_end : (text : List ℕ) (i : ℕ) (bytes : List ℕ) (tokens : List Token) → length tokens ≤ i
    → join (Ok text) (strings bytes (drop i tokens)) ≡ Ok text
unfolding strings
strings_end text i bytes tokens le = rw (drop_all i tokens le) (join_nil (Ok text))

-- ---- strings that stand for what is between their marks

-- a byte that is no backslash stands for itself
plain_byte : (place b : ℕ) (rest : List ℕ) (c : Bool) → (b == 92) ≡ c → list_all is_no_escape (b ∷ rest) ≡ true
    → (list_all is_no_escape rest ≡ true → decoded (place + 1) false rest ≡ Ok rest)
    → join (byte_text place false b) (decoded (place + 1) (not false && b == 92) rest) ≡ Ok (b ∷ rest)
plain_byte place b rest true is e more =
    let none = rw is at e in
    absurd cc
plain_byte place b rest false is e more = rw (is, more (rw is at e)) refl

-- so do bytes without a backslash
pub decoded_plain : (place : ℕ) (w : List ℕ) → list_all is_no_escape w ≡ true → decoded place false w ≡ Ok w
unfolding decoded
decoded_plain place [] e = refl
decoded_plain place (b ∷ rest) e = plain_byte place b rest (b == 92) refl e (decoded_plain (place + 1) rest)

-- a string without a prefix and a backslash stands for what is between its marks
pub string_plain : (bytes : List ℕ) (t : Token) (s : List ℕ) → s ≡ slice bytes t.start t.end → prefix s ≡ 0
    → list_all is_no_escape (inside s) ≡ true → string bytes t ≡ Ok (inside s)
unfolding string
string_plain bytes t s is none e = rw (← is, none) (decoded_plain (t.start + marks_of s) (inside s) e)

-- a string alone is its text
pub alone : (bytes : List ℕ) (t : Token) (w : List ℕ) (behind : List Atom) → string bytes t ≡ Ok w → length behind ≡ 0
    → join (string bytes t) (texts bytes t.start behind) ≡ Ok w
unfolding texts
alone bytes t w behind is none = rw (is, nil_from_length behind none) (join_nil (Ok w))
