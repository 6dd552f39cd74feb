-- A text has at least as many bytes as its value weighs.
use Rattle.std.proofs.Common.{◌≡◌, ℕ, ◌+◌, ◌≤◌, List, [], ◌∷◌, ◌++◌, length, Option, Some, None, option_map, option_and_then, Ordering, Less, Equal, Greater, refl, sym, ap, subst, append_assoc, arith}
use Rattle.std.specs.Prelude.{⊤}
use Rattle.std.specs.Ordering.{match_ordering}
use Rattle.json.specs.Token.{Token}
use Rattle.json.specs.Lex.{Place, fresh, after_value, after_comma, after_key, between, lex, tokens}
use Rattle.json.specs.Json as json
use Rattle.json.specs.Tree.{json_tokens, items_tokens, members_tokens}
use Rattle.json.proofs.Unique.Spelling.{value-json_tokens_back}
use Rattle.serde_json.specs.Data.{Data, number, array, object, item, Members, no_members, member, put}
use Rattle.serde_json.specs.Read.{number_of, of_json, of_items, of_members, max_depth, read}
use Rattle.file_limits.specs.Weights.{weight, items_weight, members_weight}
use Rattle.file_limits.specs.WeightBounds.{TextsBearWeight}
use Rattle.file_limits.proofs.Lexemes.{lexemes-bear}
use Rattle.file_limits.proofs.Tokens.{owed, tokens_weight, before-owed, before-closing, tokens-bear}

-- ---- the values of the grammar, where a key may stand twice

abbrev mutual
  json_weight : json.Json → ℕ
  json_weight json.null = 1
  json_weight (json.boolean b) = 1
  json_weight (json.number s) = 1
  json_weight (json.string s) = length s + 2
  json_weight (json.array js) = 1 + json_items_weight js
  json_weight (json.object ms) = 1 + json_members_weight ms

  json_items_weight : json.Items → ℕ
  json_items_weight json.no_items = 0
  json_items_weight (json.item j js) = 1 + json_weight j + json_items_weight js

  json_members_weight : json.Members → ℕ
  json_members_weight json.no_members = 0
  json_members_weight (json.member k j ms) = length k + 4 + json_weight j + json_members_weight ms

-- ---- their tokens, before others

owed-le : (p : Place) → owed p ≤ 1
owed-le fresh = omega arith
owed-le after_value = omega arith
owed-le after_comma = omega arith
owed-le after_key = omega arith

mutual
  json-bears : (j : json.Json) (p : Place) (rest : List Token)
      → owed p + json_weight j + tokens_weight after_value rest ≤ tokens_weight p (json_tokens j ++ rest)
  json-bears json.null p rest = omega (arith, before-owed p Token.null refl)
  json-bears (json.boolean b) p rest = omega (arith, before-owed p (Token.boolean b) refl)
  json-bears (json.number s) p rest = omega (arith, before-owed p (Token.number s) refl)
  json-bears (json.string s) p rest = omega (arith, before-owed p (Token.string s) refl)
  json-bears (json.array js) p rest = omega (arith, before-owed p Token.begin_array refl, items-bear js fresh rest)
  json-bears (json.object ms) p rest = omega (arith, before-owed p Token.begin_object refl, members-bear ms fresh rest)

  items-bear : (js : json.Items) (p : Place) (rest : List Token)
      → owed p + json_items_weight js + tokens_weight after_value rest ≤ tokens_weight p (items_tokens js ++ rest)
  items-bear json.no_items p rest = omega (arith, before-closing p Token.end_array refl, owed-le p)
  items-bear (json.item j js) p rest =
      subst (λ ts. owed p + json_items_weight (json.item j js) + tokens_weight after_value rest ≤ tokens_weight p ts)
      (sym (append_assoc (json_tokens j) (items_tokens js) rest))
      (omega (arith, json-bears j p (items_tokens js ++ rest), items-bear js after_value rest))

  members-bear : (ms : json.Members) (p : Place) (rest : List Token)
      → owed p + json_members_weight ms + tokens_weight after_value rest ≤ tokens_weight p (members_tokens ms ++ rest)
  members-bear json.no_members p rest = omega (arith, before-closing p Token.end_object refl, owed-le p)
  members-bear (json.member k j ms) p rest =
      subst (λ ts. owed p + json_members_weight (json.member k j ms) + tokens_weight after_value rest ≤ tokens_weight p (Token.key k ∷ ts))
      (sym (append_assoc (json_tokens j) (members_tokens ms) rest))
      (omega (
        arith,
        before-owed p (Token.key k) refl,
        json-bears j after_key (members_tokens ms ++ rest),
        members-bear ms after_value rest,
      ))

-- ---- data, where the last value of a key stays

abbrev AtMost : {A : Type 0} → (A → ℕ) → ℕ → Option A → Type 0
AtMost f n None = ⊤
AtMost f n (Some a) = f a ≤ n

at_most-map : {A B : Type 0} (f : A → ℕ) (g : B → ℕ) (m n : ℕ) (h : A → B) → ((a : A) → f a ≤ m → g (h a) ≤ n) → (o : Option A)
    → AtMost f m o → AtMost g n (option_map h o)
at_most-map f g m n h k None x = tt
at_most-map f g m n h k (Some a) x = k a x

at_most-then : {A B : Type 0} (f : A → ℕ) (g : B → ℕ) (m n : ℕ) (h : A → Option B) → ((a : A) → f a ≤ m → AtMost g n (h a)) → (o : Option A)
    → AtMost f m o → AtMost g n (option_and_then h o)
at_most-then f g m n h k None x = tt
at_most-then f g m n h k (Some a) x = k a x

any : {A : Type 0} (o : Option A) → AtMost (λ _. 0) 0 o
any None = tt
any (Some a) = omega arith

by_order : (o : Ordering) (a b c : Members) (n : ℕ) → members_weight a ≤ n → members_weight b ≤ n → members_weight c ≤ n
    → members_weight (match_ordering o a b c) ≤ n
by_order Less a b c n p q r = p
by_order Equal a b c n p q r = q
by_order Greater a b c n p q r = r

put-weight : (k : List ℕ) (d : Data) (ms : Members) → members_weight (put k d ms) ≤ length k + 4 + weight d + members_weight ms
put-weight k d no_members = omega arith
put-weight k d (member l e ms) =
    by_order _ (member k d (member l e ms)) (member l d ms) (member l e (put k d ms)) _ (omega arith) (omega arith)
    (omega (arith, put-weight k d ms))

mutual
  json-data : (j : json.Json) → AtMost weight (json_weight j) (of_json j)
  json-data json.null = omega arith
  json-data (json.boolean b) = omega arith
  json-data (json.number s) = at_most-map (λ _. 0) weight 0 1 number (λ a x. omega arith) (number_of s) (any _)
  json-data (json.string s) = omega arith
  json-data (json.array js) =
      at_most-map items_weight weight (json_items_weight js) (1 + json_items_weight js) array (λ a x. omega arith) _ (items-data js)
  json-data (json.object ms) =
      at_most-map members_weight weight (json_members_weight ms) (1 + json_members_weight ms) object (λ a x. omega arith) _
      (members-data ms no_members _ (omega arith))

  items-data : (js : json.Items) → AtMost items_weight (json_items_weight js) (of_items js)
  items-data json.no_items = omega arith
  items-data (json.item j js) =
      at_most-then weight items_weight (json_weight j) (1 + json_weight j + json_items_weight js) _
      (λ d x. at_most-map items_weight items_weight (json_items_weight js) (1 + json_weight j + json_items_weight js) (item d)
      (λ ds y. omega arith) _ (items-data js)) _ (json-data j)

  members-data : (ms : json.Members) (found : Members) (n : ℕ) → members_weight found + json_members_weight ms ≤ n
      → AtMost members_weight n (of_members ms found)
  members-data json.no_members found n h = omega arith
  members-data (json.member key j ms) found n h =
      at_most-then weight members_weight (json_weight j) n _
      (λ d x. members-data ms (put key d found) n (omega (arith, put-weight key d found))) _ (json-data j)

-- ---- whole texts

last : (o : Option (json.Json × List Token)) (n : ℕ) → ((j : json.Json) (r : List Token) → o ≡ Some (j, r) → json_weight j ≤ n)
    → AtMost json_weight n (option_and_then (λ p. json.if_last p.0 p.1) o)
last None n h = tt
last (Some (j, [])) n h = h j [] refl
last (Some (j, t ∷ r)) n h = tt

value-bears : (text : List ℕ) (j : json.Json) (r : List Token) → json.value max_depth (tokens text) ≡ Some (j, r)
    → json_weight j ≤ length text
value-bears text j r e =
    let spelled : tokens_weight fresh (tokens text) ≡ tokens_weight fresh (json_tokens j ++ r) =
    ap (tokens_weight fresh) (value-json_tokens_back max_depth (tokens text) r j e) in
    omega (arith, spelled, json-bears j fresh r, tokens-bear fresh (lex between text), lexemes-bear text)

read-bears : (text : List ℕ) → AtMost weight (length text) (read text)
read-bears text =
    at_most-then json_weight weight (length text) (length text) of_json (λ j x. more (of_json j) (json-data j) x) _
    (last (json.value max_depth (tokens text)) (length text) (value-bears text))
  where
    more : {m : ℕ} (o : Option Data) → AtMost weight m o → m ≤ length text → AtMost weight (length text) o
    more None h le = tt
    more (Some d) h le = omega arith

-- a text has as many bytes as its value weighs, at least
pub texts-bear : TextsBearWeight
texts-bear bytes d h = subst (AtMost weight (length bytes)) h.1 (read-bears bytes)
