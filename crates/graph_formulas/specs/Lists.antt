-- Rules of lists, options and tests.
use Prim.Native.Nat.{zero, suc}
use Rattle.std.specs.Prelude.{ℕ, ◌/◌, Bool, true, false, List, [], ◌∷◌, ◌++◌, map, length, take, drop, Option, Some, None, nat_lt, if◌then◌else◌}
use Rattle.clause_formulas.specs.Rules.{Proposition, nowhere, isnt, both_of, either_of, any_rule, every_rule}

infixl 35 ◌and◌
abbrev pub ◌and◌ : {W : Type 0} → Proposition W → Proposition W → Proposition W
r and q = both_of r q

-- a test that is known
abbrev pub settled_test : {W : Type 0} → Bool → Proposition W
settled_test true = isnt nowhere
settled_test false = nowhere

-- asked only where nothing else says it
abbrev pub asked_unless : {W : Type 0} → Bool → Proposition W → Proposition W
asked_unless true rule = isnt nowhere
asked_unless false rule = rule

-- what is not written asks nothing
abbrev pub where_written : {W T : Type 0} → Option T → (T → Proposition W) → Proposition W
where_written None rule = isnt nowhere
where_written (Some x) rule = rule x

-- there is one, and it keeps the rule
abbrev pub one_keeps : {W T : Type 0} → Option T → (T → Proposition W) → Proposition W
one_keeps None rule = nowhere
one_keeps (Some x) rule = rule x

abbrev pub each_keeps : {W T : Type 0} → (T → Proposition W) → List T → Proposition W
each_keeps rule xs = every_rule (map rule xs)

abbrev pub some : {W T : Type 0} → (T → Proposition W) → List T → Proposition W
some rule xs = any_rule (map rule xs)

-- none keeps the rule
abbrev pub none : {W T : Type 0} → (T → Proposition W) → List T → Proposition W
none rule xs = isnt (some rule xs)

-- a thing doesn't keep the rule, or none of the others does
abbrev pub first_rules : {W T : Type 0} → (T → Proposition W) → T → List T → List (Proposition W)
first_rules rule x [] = []
first_rules rule x (y ∷ ys) = any_rule (isnt (rule x) ∷ none rule (y ∷ ys) ∷ []) ∷ []

-- no two keep the rule: each thing and those behind it
abbrev pub apart_rules : {W T : Type 0} → (T → Proposition W) → List T → List (Proposition W)
apart_rules rule [] = []
apart_rules rule (x ∷ xs) = first_rules rule x xs ++ apart_rules rule xs

abbrev pub half_length : {T : Type 0} → List T → ℕ
half_length xs = length xs / 2

-- none of these keeps the rule, or none of those
abbrev pub halves_rule : {W T : Type 0} → (T → Proposition W) → List T → List T → Proposition W
halves_rule rule xs ys = any_rule (none rule xs ∷ none rule ys ∷ [])

-- no two keep the rule: a list of more than eight is halved, so many times at most
unfoldable pub few_rules : {W T : Type 0} → ℕ → (T → Proposition W) → List T → List (Proposition W)
few_rules zero rule xs = apart_rules rule xs
few_rules (suc times) rule xs =
    if nat_lt 8 (length xs)
    then halves_rule rule (take (half_length xs) xs) (drop (half_length xs) xs)
    ∷ (few_rules times rule (take (half_length xs) xs) ++ few_rules times rule (drop (half_length xs) xs))
    else apart_rules rule xs

-- exactly one keeps the rule: so deep as one thing's rule, however long the list is
abbrev pub just_one : {W T : Type 0} → (T → Proposition W) → List T → Proposition W
just_one rule xs = some rule xs and every_rule (few_rules (length xs / 8) rule xs)

-- there is a last one that passes, and it keeps the rule: one thing after the other
abbrev pub last_in_turn : {W T : Type 0} → (T → Proposition W) → (T → Proposition W) → List T → Proposition W
last_in_turn passes rule [] = nowhere
last_in_turn passes rule (x ∷ xs) = either_of (isnt (some passes xs) and passes x and rule x) (last_in_turn passes rule xs)

-- it stands in the front, and none of the back passes; or in the back
abbrev pub last_of_halves : {W T : Type 0} → (T → Proposition W) → List T → Proposition W → Proposition W → Proposition W
last_of_halves passes ys front back = any_rule ((none passes ys and front) ∷ back ∷ [])

-- a list of more than eight is halved, so many times at most
unfoldable pub last_halved : {W T : Type 0} → ℕ → (T → Proposition W) → (T → Proposition W) → List T → Proposition W
last_halved zero passes rule xs = last_in_turn passes rule xs
last_halved (suc times) passes rule xs =
    if nat_lt 8 (length xs)
    then last_of_halves passes (drop (half_length xs) xs) (last_halved times passes rule (take (half_length xs) xs))
    (last_halved times passes rule (drop (half_length xs) xs))
    else last_in_turn passes rule xs

-- there is a last one that passes, and it keeps the rule
abbrev pub last_one : {W T : Type 0} → (T → Proposition W) → (T → Proposition W) → List T → Proposition W
last_one passes rule xs = last_halved (length xs / 8) passes rule xs
