-- What is so of all words of a rule.
use Prim.Native.Nat.{zero, suc}
use Rattle.std.proofs.Common.{◌≡◌, refl, sym, ap, ◌∙◌, Bool, true, false, not, ◌&&◌, ℕ, ◌/◌, List, [], ◌∷◌, ◌++◌, take, drop, length, nat_lt, Option, Some, None}
use Rattle.std.specs.Prelude.{if◌then◌else◌}
use Rattle.std.specs.List.{list_all}
use Rattle.std.proofs.lemmas.Bool.{and_parts}
use Rattle.std.proofs.lemmas.List.{take-append-drop}
use Rattle.std.proofs.lemmas.List.Folds.{list_all-append}
use Rattle.clause_formulas.specs.Statements.{Statement, eval}
use Rattle.clause_formulas.specs.Rules.{Proposition, fact, nowhere, isnt, both_of, either_of, if_so, keeps_rule, in_words, every_rule}
use Rattle.clause_formulas.proofs.RuleLaws.{rule-said}
use Rattle.graph_formulas.specs.Lists.{settled_test, asked_unless, where_written, one_keeps, each_keeps, some, first_rules, apart_rules, half_length, halves_rule, few_rules, just_one, last_in_turn, last_of_halves, last_halved, last_one}

abbrev pub AllWords : {W : Type 0} → (W → Type 0) → Proposition W → Type 0
AllWords P (fact w) = P w
AllWords P nowhere = Unit {0}
AllWords P (isnt r) = AllWords P r
AllWords P (both_of r q) = AllWords P r × AllWords P q
AllWords P (either_of r q) = AllWords P r × AllWords P q
AllWords P (if_so r q) = AllWords P r × AllWords P q

pub keeps-alike : {W : Type 0} (p q : W → Bool) (r : Proposition W) → AllWords (λ w. p w ≡ q w) r → keeps_rule p r ≡ keeps_rule q r
keeps-alike p q (fact w) h = h
keeps-alike p q nowhere h = refl
keeps-alike p q (isnt r) h = ap not (keeps-alike p q r h)
keeps-alike p q (both_of r s) h = rw (keeps-alike p q r h.0, keeps-alike p q s h.1) refl
keeps-alike p q (either_of r s) h = rw (keeps-alike p q r h.0, keeps-alike p q s h.1) refl
keeps-alike p q (if_so r s) h = rw (keeps-alike p q r h.0, keeps-alike p q s h.1) refl

-- formulas whose words are alike
pub said-alike : {W : Type 0} (v : ℕ → Bool) (f g : W → Statement) (r : Proposition W) → AllWords (λ w. eval v (f w) ≡ eval v (g w)) r
    → eval v (in_words f r) ≡ eval v (in_words g r)
said-alike v f g r h =
    rule-said v f (λ w. eval v (f w)) (λ w. refl) r
    ∙ keeps-alike (λ w. eval v (f w)) (λ w. eval v (g w)) r h
    ∙ sym (rule-said v g (λ w. eval v (g w)) (λ w. refl) r)

-- what is so of all words of each rule
abbrev EachWords : {W : Type 0} → (W → Type 0) → List (Proposition W) → Type 0
EachWords P [] = Unit {0}
EachWords P (r ∷ rs) = AllWords P r × EachWords P rs

each-append : {W : Type 0} (P : W → Type 0) (rs qs : List (Proposition W)) → EachWords P rs → EachWords P qs → EachWords P (rs ++ qs)
each-append P [] qs h g = g
each-append P (r ∷ rs) qs h g = (h.0, each-append P rs qs h.1 g)

all-words : {W : Type 0} (P : W → Type 0) (rs : List (Proposition W)) → EachWords P rs → AllWords P (every_rule rs)
all-words P [] h = tt
all-words P (r ∷ rs) h = (h.0, all-words P rs h.1)

module _ {W : Type 0} (P : W → Type 0) where
  pub given-all : (b : Bool) → AllWords P (settled_test b)
  given-all true = tt
  given-all false = tt

  pub unless-all : (b : Bool) (rule : Proposition W) → AllWords P rule → AllWords P (asked_unless b rule)
  unless-all true rule h = tt
  unless-all false rule h = h

  module _ {T : Type 0} (rule : T → Proposition W) where
    -- ---- of all things
    pub written-all : ((x : T) → AllWords P (rule x)) → (o : Option T) → AllWords P (where_written o rule)
    written-all h None = tt
    written-all h (Some x) = h x

    pub named-all : ((x : T) → AllWords P (rule x)) → (o : Option T) → AllWords P (one_keeps o rule)
    named-all h None = tt
    named-all h (Some x) = h x

    pub each-all : ((x : T) → AllWords P (rule x)) → (xs : List T) → AllWords P (each_keeps rule xs)
    each-all h [] = tt
    each-all h (x ∷ xs) = (h x, each-all h xs)

    pub some-all : ((x : T) → AllWords P (rule x)) → (xs : List T) → AllWords P (some rule xs)
    some-all h [] = tt
    some-all h (x ∷ xs) = (h x, some-all h xs)

    -- ---- of those that pass a test
    module _ (test : T → Bool) (h : (x : T) → test x ≡ true → AllWords P (rule x)) where
      pub each-if : (xs : List T) → list_all test xs ≡ true → AllWords P (each_keeps rule xs)
      each-if [] e = tt
      each-if (x ∷ xs) e = let p = and_parts (test x) (list_all test xs) e in (h x p.0, each-if xs p.1)

      pub some-if : (xs : List T) → list_all test xs ≡ true → AllWords P (some rule xs)
      some-if [] e = tt
      some-if (x ∷ xs) e = let p = and_parts (test x) (list_all test xs) e in (h x p.0, some-if xs p.1)

      first-if : (x : T) (xs : List T) → test x ≡ true → list_all test xs ≡ true → EachWords P (first_rules rule x xs)
      first-if x [] passes e = tt
      first-if x (y ∷ ys) passes e = ((h x passes, (some-if (y ∷ ys) e, tt)), tt)

      apart-if : (xs : List T) → list_all test xs ≡ true → EachWords P (apart_rules rule xs)
      apart-if [] e = tt
      apart-if (x ∷ xs) e = let q = and_parts (test x) (list_all test xs) e in
          each-append P (first_rules rule x xs) (apart_rules rule xs) (first-if x xs q.0 q.1) (apart-if xs q.1)

      few-if : (times : ℕ) (xs : List T) → list_all test xs ≡ true → EachWords P (few_rules times rule xs)
      unfolding few_rules
      few-if zero xs e = apart-if xs e
      few-if (suc times) xs e =
          let parts : (list_all test (take (half_length xs) xs) && list_all test (drop (half_length xs) xs)) ≡ true =
          sym (list_all-append test (take (half_length xs) xs) (drop (half_length xs) xs))
          ∙ ap (list_all test) (take-append-drop (half_length xs) xs) ∙ e in
          let q = and_parts (list_all test (take (half_length xs) xs)) (list_all test (drop (half_length xs) xs)) parts in
          elim (nat_lt 8 (length xs)) as (λ b. EachWords P (if b then halves_rule rule (take (half_length xs) xs) (drop (half_length xs) xs)
          ∷ (few_rules times rule (take (half_length xs) xs) ++ few_rules times rule (drop (half_length xs) xs)) else apart_rules rule xs)) [
            | true ↦ (
              (some-if (take (half_length xs) xs) q.0, (some-if (drop (half_length xs) xs) q.1, tt)),
              each-append P (few_rules times rule (take (half_length xs) xs)) (few_rules times rule (drop (half_length xs) xs))
                  (few-if times (take (half_length xs) xs) q.0) (few-if times (drop (half_length xs) xs) q.1),
            )
            | false ↦ apart-if xs e
          ]

      pub just-if : (xs : List T) → list_all test xs ≡ true → AllWords P (just_one rule xs)
      just-if xs e = (some-if xs e, all-words P (few_rules (length xs / 8) rule xs) (few-if (length xs / 8) xs e))

  module _ {T : Type 0} (passes rule : T → Proposition W) (test : T → Bool) (h : (x : T) → test x ≡ true
      → AllWords P (passes x)) (g : (x : T)
      → AllWords P (rule x)) where
    in-turn-if : (xs : List T) → list_all test xs ≡ true → AllWords P (last_in_turn passes rule xs)
    in-turn-if [] e = tt
    in-turn-if (x ∷ xs) e = let p = and_parts (test x) (list_all test xs) e in
        (((some-if passes test h xs p.1, h x p.0), g x), in-turn-if xs p.1)

    halved-if : (times : ℕ) (xs : List T) → list_all test xs ≡ true → AllWords P (last_halved times passes rule xs)
    unfolding last_halved
    halved-if zero xs e = in-turn-if xs e
    halved-if (suc times) xs e =
        let front = take (half_length xs) xs in
        let back = drop (half_length xs) xs in
        let parts : (list_all test front && list_all test back) ≡ true =
        sym (list_all-append test front back) ∙ ap (list_all test) (take-append-drop (half_length xs) xs) ∙ e in
        let q = and_parts (list_all test front) (list_all test back) parts in
        elim (nat_lt 8 (length xs)) as (λ b. AllWords P
        (if b then last_of_halves passes back (last_halved times passes rule front) (last_halved times passes rule back)
        else last_in_turn passes rule xs)) [
          | true ↦ ((some-if passes test h back q.1, halved-if times front q.0), (halved-if times back q.1, tt))
          | false ↦ in-turn-if xs e
        ]

    pub last-if : (xs : List T) → list_all test xs ≡ true → AllWords P (last_one passes rule xs)
    last-if xs e = halved-if (length xs / 8) xs e
