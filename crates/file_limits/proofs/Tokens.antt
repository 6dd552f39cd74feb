-- Tokens with the commas and colons between them weigh no more than their lexemes.
use Rattle.std.proofs.Common.{◌≡◌, ℕ, ◌+◌, ◌≤◌, Bool, true, false, List, [], ◌∷◌, refl, arith}
use Rattle.json.specs.Token.{Token, begin_object, end_object, begin_array, end_array, key, string, number, boolean, null, bad}
use Rattle.json.specs.Lex.{Lexeme, token, comma, colon, Place, fresh, after_value, after_comma, after_key, begins_colon, may_begin, may_close, if_allowed, place_token, punctuate}
use Rattle.file_limits.proofs.Lexemes.{token_weight, lexemes_weight}

-- ---- what stands before a token

-- the comma or colon that is still to come
abbrev pub owed : Place → ℕ
owed fresh = 0
owed after_value = 1
owed after_comma = 0
owed after_key = 1

abbrev begins : Token → ℕ
begins begin_object = 1
begins end_object = 0
begins begin_array = 1
begins end_array = 0
begins (key s) = 1
begins (string s) = 1
begins (number s) = 1
begins (boolean b) = 1
begins null = 1
begins bad = 0

abbrev pub before : Place → Token → ℕ
before fresh t = 0
before after_value t = begins t
before after_comma t = 0
before after_key t = begins t

abbrev pub place_behind : Token → Place
place_behind begin_object = fresh
place_behind end_object = after_value
place_behind begin_array = fresh
place_behind end_array = after_value
place_behind (key s) = after_key
place_behind (string s) = after_value
place_behind (number s) = after_value
place_behind (boolean b) = after_value
place_behind null = after_value
place_behind bad = fresh

abbrev pub tokens_weight : Place → List Token → ℕ
tokens_weight p [] = 0
tokens_weight p (t ∷ ts) = before p t + token_weight t + tokens_weight (place_behind t) ts

-- a value or a key has what is owed
pub before-owed : (p : Place) (t : Token) → begins t ≡ 1 → before p t ≡ owed p
before-owed fresh t e = refl
before-owed after_value t e = e
before-owed after_comma t e = refl
before-owed after_key t e = e

-- nothing stands before a closing token
pub before-closing : (p : Place) (t : Token) → begins t ≡ 0 → before p t ≡ 0
before-closing fresh t e = refl
before-closing after_value t e = e
before-closing after_comma t e = refl
before-closing after_key t e = e

begins-le : (t : Token) → begins t ≤ 1
begins-le begin_object = omega arith
begins-le end_object = omega arith
begins-le begin_array = omega arith
begins-le end_array = omega arith
begins-le (key s) = omega arith
begins-le (string s) = omega arith
begins-le (number s) = omega arith
begins-le (boolean b) = omega arith
begins-le null = omega arith
begins-le bad = omega arith

before-le : (p : Place) (t : Token) → before p t ≤ 1
before-le fresh t = omega arith
before-le after_value t = begins-le t
before-le after_comma t = omega arith
before-le after_key t = begins-le t

-- ---- one token

bad-none : (p : Place) → tokens_weight p (bad ∷ []) ≡ 0
bad-none fresh = refl
bad-none after_value = refl
bad-none after_comma = refl
bad-none after_key = refl

module _ (k : Place → List Token) (n : ℕ) (rest : (q : Place) → tokens_weight q (k q) ≤ n) where
  opening : (p : Place) (t : Token) → tokens_weight p (if_allowed (may_begin p) t k (place_behind t)) ≤ token_weight t + n
  opening fresh t = omega (arith, rest (place_behind t))
  opening after_value t = omega arith
  opening after_comma t = omega (arith, rest (place_behind t))
  opening after_key t = omega arith

  closing : (p : Place) (t : Token) → begins t ≡ 0 → tokens_weight p (if_allowed (may_close p) t k (place_behind t)) ≤ token_weight t + n
  closing fresh t e = omega (arith, rest (place_behind t))
  closing after_value t e = omega (arith, rest (place_behind t))
  closing after_comma t e = omega arith
  closing after_key t e = omega arith

  placed : (p : Place) (t : Token) (before_colon : Bool) → tokens_weight p (place_token p t before_colon k) ≤ token_weight t + n
  placed p begin_object b = opening p begin_object
  placed p end_object b = closing p end_object refl
  placed p begin_array b = opening p begin_array
  placed p end_array b = closing p end_array refl
  placed p (key s) b = omega (arith, bad-none p)
  placed p (string s) true = opening p (key s)
  placed p (string s) false = opening p (string s)
  placed p (number s) b = opening p (number s)
  placed p (boolean b) c = opening p (boolean b)
  placed p null b = opening p null
  placed p bad b = omega (arith, bad-none p)

-- ---- all tokens

-- a comma or a colon that was passed
one_more : (p : Place) (ts : List Token) → tokens_weight p ts ≤ 1 + tokens_weight fresh ts
one_more p [] = omega arith
one_more p (t ∷ ts) = omega (arith, before-le p t)

from_comma : (ts : List Token) → tokens_weight fresh ts ≤ tokens_weight after_comma ts
from_comma [] = omega arith
from_comma (t ∷ ts) = omega arith

-- tokens weigh no more than their lexemes
pub tokens-bear : (p : Place) (ls : List Lexeme) → tokens_weight p (punctuate p ls) ≤ lexemes_weight ls
unfolding punctuate
tokens-bear fresh [] = omega arith
tokens-bear after_value [] = omega arith
tokens-bear after_comma [] = omega arith
tokens-bear after_key [] = omega arith
tokens-bear fresh (token t ∷ ls) =
    placed (λ q. punctuate q ls) (lexemes_weight ls) (λ q. tokens-bear q ls) fresh t (begins_colon ls)
tokens-bear after_value (token t ∷ ls) =
    placed (λ q. punctuate q ls) (lexemes_weight ls) (λ q. tokens-bear q ls) after_value t (begins_colon ls)
tokens-bear after_comma (token t ∷ ls) =
    placed (λ q. punctuate q ls) (lexemes_weight ls) (λ q. tokens-bear q ls) after_comma t (begins_colon ls)
tokens-bear after_key (token t ∷ ls) =
    placed (λ q. punctuate q ls) (lexemes_weight ls) (λ q. tokens-bear q ls) after_key t (begins_colon ls)
tokens-bear fresh (comma ∷ ls) = omega arith
tokens-bear after_value (comma ∷ ls) =
    omega (arith, tokens-bear after_comma ls, one_more after_value (punctuate after_comma ls), from_comma (punctuate after_comma ls))
tokens-bear after_comma (comma ∷ ls) = omega arith
tokens-bear after_key (comma ∷ ls) = omega arith
tokens-bear fresh (colon ∷ ls) = omega arith
tokens-bear after_value (colon ∷ ls) = omega arith
tokens-bear after_comma (colon ∷ ls) = omega arith
tokens-bear after_key (colon ∷ ls) = omega (arith, tokens-bear fresh ls, one_more after_key (punctuate fresh ls))
