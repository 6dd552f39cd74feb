-- The tokens of a call, from the right.
use Rattle.std.proofs.Common.{◌≡◌, ℕ, ◌+◌, ◌-◌, ◌<◌, ◌≤◌, List, [], length, drop, get_or, refl, arith}
use Rattle.std.proofs.lemmas.List.{drop_more, drop_all}
use Rattle.recipe_lexer.specs.declared.token.Token.{Token}
use Rattle.recipe_values.specs.declared.levels.Level.{Level}
use Rattle.recipe_values.specs.declared.levels.Levels.{Levels}
use Rattle.recipe_values.specs.Brackets.{ending, with_kind, levels_of}
use Rattle.recipe_values.proofs.Texts.{nothing}

-- the levels of the tokens behind a place, one token further to the front
pub levels_more : (bytes : List ℕ) (stop i : ℕ) (tokens : List Token) (old : Levels) → 0 < i → i ≤ length tokens
    → old ≡ levels_of bytes stop (drop i tokens) → with_kind bytes (get_or tokens (i - 1) nothing).kind (get_or tokens (i - 1) nothing) old
    ≡ levels_of bytes stop (drop (i - 1) tokens)
unfolding levels_of
levels_more bytes stop i tokens old some le is =
    let lt : i - 1 < length tokens = omega arith in
    let back : i - 1 + 1 ≡ i = omega arith in
    rw (drop_more tokens (i - 1) nothing lt, back, is) refl

-- behind the last token there is one empty level
pub levels_start : (bytes : List ℕ) (stop : ℕ) (tokens : List Token) (inner : Level) (around : List Level) → inner ≡ ending stop
    → around ≡ [] → record { inner = inner; around = around } ≡ levels_of bytes stop (drop (length tokens) tokens)
unfolding levels_of
levels_start bytes stop tokens inner around is none =
    let le : length tokens ≤ length tokens = omega arith in
    rw (drop_all (length tokens) tokens le, is, none) refl
