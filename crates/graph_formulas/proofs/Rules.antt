-- Rules of lists, options and tests hold where these do.
use Prim.Native.Nat.{zero, suc}
use Rattle.std.proofs.Common.{◌≡◌, refl, sym, ap, ◌∙◌, ℕ, ◌/◌, Bool, true, false, not, ◌||◌, ◌&&◌, List, [], ◌∷◌, ◌++◌, map, take, drop, length, nat_lt, Option, Some, None}
use Rattle.std.proofs.lemmas.List.{take-append-drop}
use Rattle.std.specs.Prelude.{if◌then◌else◌}
use Rattle.std.specs.List.{list_any, list_all}
use Rattle.std.specs.Option.{is_some, option_or}
use Rattle.clause_formulas.specs.Rules.{Proposition, keeps_rule, isnt, any_rule}
use Rattle.condition_rules.specs.Words.{if_written, is_some_and, find_last}
use Rattle.graph_formulas.specs.Lists.{settled_test, asked_unless, where_written, one_keeps, each_keeps, some, half_length, last_in_turn, last_of_halves, last_halved, last_one}

pub any-last : {T : Type 0} (f : T → Bool) (xs : List T) → list_any f xs ≡ is_some (find_last f xs)
any-last f [] = refl
any-last f (x ∷ xs) = rw (any-last f xs) (any-last-cases (find_last f xs) (f x))
  where
    any-last-cases : (o : Option _) (b : Bool) → (b || is_some o) ≡ is_some (option_or o (if b then Some x else None))
    any-last-cases None true = refl
    any-last-cases None false = refl
    any-last-cases (Some y) true = refl
    any-last-cases (Some y) false = refl

or-none : {T : Type 0} (o : Option T) → o ≡ option_or o None
or-none None = refl
or-none (Some x) = refl

or-or : {T : Type 0} (a b c : Option T) → option_or (option_or a b) c ≡ option_or a (option_or b c)
or-or None b c = refl
or-or (Some x) b c = refl

-- the last one stands in the back, or in the front
last-append : {T : Type 0} (f : T → Bool) (xs ys : List T) → find_last f (xs ++ ys) ≡ option_or (find_last f ys) (find_last f xs)
last-append f [] ys = or-none (find_last f ys)
last-append f (x ∷ xs) ys = rw (last-append f xs ys) (or-or (find_last f ys) (find_last f xs) (if f x then Some x else None))

not-nor : (a b : Bool) → not (not a || b) ≡ (a && not b)
not-nor true b = refl
not-nor false b = refl

pub or-false : (a : Bool) → (a || false) ≡ a
or-false true = refl
or-false false = refl

module _ {W : Type 0} (p : W → Bool) where
  pub given-kept : (b : Bool) → keeps_rule p (settled_test b) ≡ b
  given-kept true = refl
  given-kept false = refl

  -- where something else says what a rule asks
  pub unless-so : (b : Bool) (rule : Proposition W) → keeps_rule p rule ≡ true → keeps_rule p (asked_unless b rule) ≡ true
  unless-so true rule h = refl
  unless-so false rule h = h

  pub unless-kept : (b : Bool) (rule : Proposition W) → keeps_rule p (asked_unless b rule) ≡ (b || keeps_rule p rule)
  unless-kept true rule = refl
  unless-kept false rule = refl

  pub some-kept : {T : Type 0} (rule : T → Proposition W) (test : T → Bool) → ((x : T) → keeps_rule p (rule x) ≡ test x) → (xs : List T)
      → keeps_rule p (some rule xs) ≡ list_any test xs
  some-kept rule test same [] = refl
  some-kept rule test same (x ∷ xs) = rw (same x, some-kept rule test same xs) refl

  module _ {T : Type 0} (rule : T → Proposition W) (test : T → Bool) (same : (x : T) → keeps_rule p (rule x) ≡ test x) where
    pub written-kept : (o : Option T) → keeps_rule p (where_written o rule) ≡ if_written o test
    written-kept None = refl
    written-kept (Some x) = same x

    pub named-kept : (o : Option T) → keeps_rule p (one_keeps o rule) ≡ is_some_and o test
    named-kept None = refl
    named-kept (Some x) = same x

    pub each-kept : (xs : List T) → keeps_rule p (each_keeps rule xs) ≡ list_all test xs
    each-kept [] = refl
    each-kept (x ∷ xs) = rw (same x, not-nor (test x) (keeps_rule p (any_rule (map isnt (map rule xs)))), each-kept xs) refl

    module _ (passes : T → Proposition W) (f : T → Bool) (each : (x : T) → keeps_rule p (passes x) ≡ f x) where
      in-turn-kept : (xs : List T) → keeps_rule p (last_in_turn passes rule xs) ≡ is_some_and (find_last f xs) test
      in-turn-kept [] = refl
      in-turn-kept (x ∷ xs) = rw (in-turn-kept xs, some-kept passes f each xs, any-last f xs, each x, same x) (step (find_last f xs) (f x))
        where
          step : (o : Option T) (b : Bool) → (((not (is_some o) && b) && test x) || is_some_and o test)
              ≡ is_some_and (option_or o (if b then Some x else None)) test
          step None true = or-false (test x)
          step None false = refl
          step (Some y) b = refl

      of-halves-kept : (ys : List T) (front back : Proposition W) (o : Option T) → keeps_rule p front ≡ is_some_and o test
          → keeps_rule p back ≡ is_some_and (find_last f ys) test
          → keeps_rule p (last_of_halves passes ys front back) ≡ is_some_and (option_or (find_last f ys) o) test
      of-halves-kept ys front back o first second = rw (some-kept passes f each ys, any-last f ys, first, second) (step (find_last f ys))
        where
          step : (q : Option T) → ((not (is_some q) && is_some_and o test) || (is_some_and q test || false))
              ≡ is_some_and (option_or q o) test
          step None = or-false (is_some_and o test)
          step (Some y) = or-false (test y)

      halved-kept : (times : ℕ) (xs : List T) → keeps_rule p (last_halved times passes rule xs) ≡ is_some_and (find_last f xs) test
      unfolding last_halved
      halved-kept zero xs = in-turn-kept xs
      halved-kept (suc times) xs =
          let front = take (half_length xs) xs in
          let back = drop (half_length xs) xs in
          elim (nat_lt 8 (length xs)) as (λ b. keeps_rule p
          (if b then last_of_halves passes back (last_halved times passes rule front) (last_halved times passes rule back)
          else last_in_turn passes rule xs) ≡ is_some_and (find_last f xs) test) [
            | true ↦ of-halves-kept back (last_halved times passes rule front) (last_halved times passes rule back) (find_last f front)
                (halved-kept times front) (halved-kept times back)
                ∙ ap (λ o. is_some_and o test) (sym (last-append f front back) ∙ ap (find_last f) (take-append-drop (half_length xs) xs))
            | false ↦ in-turn-kept xs
          ]

    pub last-kept : (passes : T → Proposition W) (f : T → Bool) → ((x : T) → keeps_rule p (passes x) ≡ f x) → (xs : List T)
        → keeps_rule p (last_one passes rule xs) ≡ is_some_and (find_last f xs) test
    last-kept passes f each xs = halved-kept passes f each (length xs / 8) xs
