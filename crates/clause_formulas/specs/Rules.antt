-- Rules over words: formulas whose atoms are facts of another kind, each of which is said by a formula.
use Rattle.std.specs.Prelude.{Bool, false, not, ◌&&◌, ◌||◌, List, [], ◌∷◌, map}
use Rattle.clause_formulas.specs.Statements.{Statement, never, or, opposite, both_statements, implication_of}

pub data Proposition (W : Type 0) : Type 0 where
  fact : W → Proposition W
  nowhere : Proposition W
  isnt : Proposition W → Proposition W
  both_of : Proposition W → Proposition W → Proposition W
  either_of : Proposition W → Proposition W → Proposition W
  if_so : Proposition W → Proposition W → Proposition W

-- whether a rule holds where the facts are known
abbrev pub keeps_rule : {W : Type 0} → (W → Bool) → Proposition W → Bool
keeps_rule p (fact w) = p w
keeps_rule p nowhere = false
keeps_rule p (isnt r) = not (keeps_rule p r)
keeps_rule p (both_of r q) = keeps_rule p r && keeps_rule p q
keeps_rule p (either_of r q) = keeps_rule p r || keeps_rule p q
keeps_rule p (if_so r q) = not (keeps_rule p r) || keeps_rule p q

-- the formula of a rule, from those of the words
abbrev pub in_words : {W : Type 0} → (W → Statement) → Proposition W → Statement
in_words f (fact w) = f w
in_words f nowhere = never
in_words f (isnt r) = opposite (in_words f r)
in_words f (both_of r q) = both_statements (in_words f r) (in_words f q)
in_words f (either_of r q) = or (in_words f r) (in_words f q)
in_words f (if_so r q) = implication_of (in_words f r) (in_words f q)

abbrev pub any_rule : {W : Type 0} → List (Proposition W) → Proposition W
any_rule [] = nowhere
any_rule (r ∷ rs) = either_of r (any_rule rs)

abbrev pub every_rule : {W : Type 0} → List (Proposition W) → Proposition W
every_rule rs = isnt (any_rule (map isnt rs))
