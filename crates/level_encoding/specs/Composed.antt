-- Formulas made of others.
use Rattle.std.specs.Prelude.{◌≡◌, ℕ, Bool, true, List, [], ◌∷◌, ◌++◌, map}
use Rattle.std.specs.List.{list_all, range_with_len}
use Rattle.clause_circuits.specs.Gates.{lit_of}
use Rattle.clause_formulas.specs.Statements.{Statement, atom, eval, opposite, any_statement}

-- as many variables as digits, in a row
abbrev pub digit_row : ℕ → ℕ → List Statement
digit_row x digits = map (λ y. atom (lit_of y)) (range_with_len x digits)

-- Where r holds, no digit decides against the first number, and the digit or the turn t decides for it.
abbrev pub digit_rules : Statement → Statement → Statement → Statement → List Statement
digit_rules r f g t = any_statement (opposite r ∷ opposite f ∷ g ∷ []) ∷ any_statement (opposite r ∷ opposite f ∷ t ∷ [])
    ∷ any_statement (opposite r ∷ g ∷ t ∷ []) ∷ []

-- the last digit decides
abbrev pub last_rules : Statement → Statement → Statement → List Statement
last_rules r f g = any_statement (opposite r ∷ opposite f ∷ []) ∷ any_statement (opposite r ∷ g ∷ []) ∷ []

-- Where r holds, the first number is smaller. Both have as many binary digits, the highest first. A turn
-- says that the digits behind its place make the first number smaller, so there is one fewer of them.
unfoldable pub rising : Statement → List Statement → List Statement → List Statement → List Statement
rising r (f ∷ fs) (g ∷ gs) (t ∷ ts) = digit_rules r f g t ++ rising t fs gs ts
rising r (f ∷ fs) (g ∷ gs) [] = last_rules r f g
rising r _ _ _ = opposite r ∷ []

-- an assignment makes each formula true
abbrev pub Meets : (ℕ → Bool) → List Statement → Type 0
Meets v fs = list_all (eval v) fs ≡ true
