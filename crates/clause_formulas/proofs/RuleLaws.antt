-- Rules over words.
use Rattle.std.proofs.Common.{◌≡◌, ℕ, Bool, not, List, [], ◌∷◌, map, refl, ap, ◌∙◌}
use Rattle.clause_formulas.specs.Statements.{Statement, or, opposite, no, any_statement, all_statements, eval, SaidBelow}
use Rattle.clause_formulas.specs.Rules.{Proposition, fact, nowhere, isnt, both_of, either_of, if_so, keeps_rule, in_words, any_rule, every_rule}
use Rattle.clause_formulas.proofs.Words.{eval-opposite, eval-both, eval-implies, opposite-below, implies-below, all_of-below}

-- the formula says the rule, where each word's formula says the fact
pub rule-said : {W : Type 0} (v : ℕ → Bool) (f : W → Statement) (p : W → Bool) → ((w : W) → eval v (f w) ≡ p w) → (r : Proposition W)
    → eval v (in_words f r) ≡ keeps_rule p r
rule-said v f p h (fact w) = h w
rule-said v f p h nowhere = refl
rule-said v f p h (isnt r) = eval-opposite v (in_words f r) ∙ ap not (rule-said v f p h r)
rule-said v f p h (both_of r q) = eval-both v (in_words f r) (in_words f q) ∙ rw (rule-said v f p h r, rule-said v f p h q) refl
rule-said v f p h (either_of r q) = rw (rule-said v f p h r, rule-said v f p h q) refl
rule-said v f p h (if_so r q) = eval-implies v (in_words f r) (in_words f q) ∙ rw (rule-said v f p h r, rule-said v f p h q) refl

-- a rule is over the variables of its words
pub rule-below : {W : Type 0} (n : ℕ) (f : W → Statement) → ((w : W) → SaidBelow n (f w)) → (r : Proposition W) → SaidBelow n (in_words f r)
rule-below n f h (fact w) = h w
rule-below n f h nowhere = tt
rule-below n f h (isnt r) = opposite-below n (in_words f r) (rule-below n f h r)
rule-below n f h (both_of r q) = all_of-below n (in_words f r ∷ in_words f q ∷ []) (rule-below n f h r, (rule-below n f h q, tt))
rule-below n f h (either_of r q) = (rule-below n f h r, rule-below n f h q)
rule-below n f h (if_so r q) = implies-below n (in_words f r) (in_words f q) (rule-below n f h r) (rule-below n f h q)

-- the formulas of lists of rules
pub any_rule-said : {W : Type 0} (f : W → Statement) (rs : List (Proposition W))
    → in_words f (any_rule rs) ≡ any_statement (map (in_words f) rs)
any_rule-said f [] = refl
any_rule-said f (r ∷ rs) = ap (or (in_words f r)) (any_rule-said f rs)

-- all rules are said where each is
pub all_rules-said : {W : Type 0} (f : W → Statement) (rs : List (Proposition W))
    → in_words f (every_rule rs) ≡ all_statements (map (in_words f) rs)
all_rules-said f [] = refl
all_rules-said f (r ∷ rs) = ap (λ g. no (or (opposite (in_words f r)) g)) (opposites rs)
  where
    opposites : (rs : List (Proposition _)) → in_words f (any_rule (map isnt rs)) ≡ any_statement (map opposite (map (in_words f) rs))
    opposites [] = refl
    opposites (r ∷ rs) = ap (or (opposite (in_words f r))) (opposites rs)
