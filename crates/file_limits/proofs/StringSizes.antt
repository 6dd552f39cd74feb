-- The text of a string is shorter than the string.
use Rattle.std.proofs.Common.{ℕ, ◌+◌, ◌-◌, ◌≤◌, Bool, true, false, List, [], ◌∷◌, length, take, drop, arith, length-drop}
use Rattle.std.specs.Prelude.{Ok, Err, Option, Some, None, IfSome, ◌==◌, ◌&&◌, ◌||◌, not}
use Rattle.std.proofs.lemmas.List.{length-take}
use Rattle.recipe_lexer.specs.Layout.{slice}
use Rattle.recipe_lexer.specs.Pieces.{marks, opening}
use Rattle.recipe_lexer.specs.declared.token.Token.{Token}
use Rattle.recipe_values.specs.Strings.{text_of_escape, escape, byte_text, decoded, prefix, marks_of, inside, string_by, string_in, string}
use Rattle.recipe_lexer.proofs.Keeping.{cond_all}
use Rattle.file_limits.proofs.TokenCounts.{Few, few-more, few-join}

-- ---- escapes

abbrev IsFew : Option (List ℕ) → Type 0
IsFew o = IfSome o (λ w. length w ≤ 1)

escaped-few : (b : ℕ) → IsFew (text_of_escape b)
escaped-few b =
    cond_all IsFew (b == 92 || b == 34 || b == 39) (Some (b ∷ [])) _ (λ e. omega arith) (λ e.
    cond_all IsFew (b == 110) (Some (10 ∷ [])) _ (λ e. omega arith) (λ e.
    cond_all IsFew (b == 116) (Some (9 ∷ [])) _ (λ e. omega arith) (λ e.
    cond_all IsFew (b == 10) (Some []) None (λ e. omega arith) (λ e. tt))))

escape-few : (place : ℕ) (o : Option (List ℕ)) → IsFew o → Few 1 (escape place o)
escape-few place None h = tt
escape-few place (Some w) h = h

byte-few : (place : ℕ) (taken : Bool) (b : ℕ) → Few 1 (byte_text place taken b)
byte-few place true b = escape-few (place - 1) (text_of_escape b) (escaped-few b)
byte-few place false b = cond_all (Few 1) (b == 92) (Ok []) (Ok (b ∷ [])) (λ e. omega arith) (λ e. omega arith)

decoded-few : (place : ℕ) (taken : Bool) (bytes : List ℕ) → Few (length bytes) (decoded place taken bytes)
unfolding decoded
decoded-few place taken [] = omega arith
decoded-few place taken (b ∷ rest) =
    let both = few-join 1 (length rest) (byte_text place taken b) (decoded (place + 1) (not taken && b == 92) rest) (byte-few place taken b)
    (decoded-few (place + 1) (not taken && b == 92) rest) in
    few-more (1 + length rest) (length (b ∷ rest)) _ both (omega arith)

-- ---- strings

one-mark : (q : ℕ) (rest : List ℕ) → 1 ≤ opening q (q ∷ rest)
one-mark q rest = cond_all (λ k. 1 ≤ k) (marks q (q ∷ rest) == 3) 3 1 (λ e. omega arith) (λ e. omega arith)

taken-few : (m : ℕ) (text : List ℕ) → 1 ≤ m → length (take (length text - (m + m)) (drop m text)) ≤ length text - 1
taken-few m text some = omega (arith, some, length-take (length text - (m + m)) (drop m text))

inside-few : (text : List ℕ) → length (inside text) ≤ length text - 1
inside-few [] = let none : List ℕ = [] in omega (arith, length-take (0 - (0 + 0)) none)
inside-few (q ∷ rest) = taken-few (opening q (q ∷ rest)) (q ∷ rest) (one-mark q rest)

by-letters : (place : ℕ) (letters text : List ℕ) → Few (length text - 1) (string_by place letters text)
by-letters place [] text =
    few-more (length (inside text)) (length text - 1) _ (decoded-few (place + marks_of text) false (inside text)) (inside-few text)
by-letters place (p ∷ []) text =
    cond_all (Few (length text - 1)) (p == 114) (Ok (inside text)) (Err place) (λ e. inside-few text) (λ e. tt)
by-letters place (p ∷ q ∷ more) text = tt

in-string : (place : ℕ) (text : List ℕ) → Few (length text - 1) (string_in place text)
in-string place text =
    let rest : List ℕ = drop (prefix text) text in
    few-more (length rest - 1) (length text - 1) _ (by-letters place (take (prefix text) text) rest)
    (omega (arith, length-drop (prefix text) text))

-- a run of bytes is no longer than its ends are apart
pub slice-few : (bytes : List ℕ) (from to : ℕ) → length (slice bytes from to) ≤ to - from
slice-few bytes from to = omega (arith, length-take (to - from) (drop from bytes))

-- a string is no longer than what stands between its marks
pub string-few : (bytes : List ℕ) (t : Token) → Few (t.end - (t.start + 1)) (string bytes t)
unfolding string
string-few bytes t =
    few-more (length (slice bytes t.start t.end) - 1) (t.end - (t.start + 1)) _ (in-string t.start (slice bytes t.start t.end))
    (omega (arith, slice-few bytes t.start t.end))
