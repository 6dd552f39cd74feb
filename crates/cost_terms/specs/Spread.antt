-- The weight of what is chosen as few weighted formulas: one for each binary digit.
use Prim.Native.Nat.{suc, zero}
use Rattle.std.specs.Prelude.{ℕ, ◌*◌, ◌/◌, ◌%◌, ◌^◌, Bool, ◌==◌, nat_lt, max, List, [], ◌∷◌, map, if◌then◌else◌}
use Rattle.clause_circuits.specs.Binary.{size}
use Rattle.clause_formulas.specs.Statements.{atom}
use Rattle.literal_table.specs.Choices.{Choices, any_choice}
use Rattle.cost_terms.specs.declared.weighted.Weighted.{Weighted}

-- the weights of choices, each with its literal
abbrev pub weighed_choices : {T : Type 0} → (T → ℕ) → Choices T → Choices ℕ
weighed_choices weight choices = map (λ c. (weight c.0, c.1)) choices

abbrev pub is_odd : ℕ → Bool
is_odd n = n % 2 == 1

abbrev pub half_of : ℕ → ℕ
half_of n = n / 2

-- a term for each of the lowest digits, so many
abbrev pub digit_terms : ℕ → ℕ → Choices ℕ → List Weighted
digit_terms zero unit choices = []
digit_terms (suc more) unit choices =
    record { weight = unit; formula = any_choice is_odd choices } ∷ digit_terms more (2 * unit) (weighed_choices half_of choices)

-- a term for each choice
abbrev pub plain_terms : Choices ℕ → List Weighted
plain_terms choices = map (λ c. record { weight = c.0; formula = atom c.1 }) choices

abbrev pub greatest : Choices ℕ → ℕ
greatest [] = 0
greatest (c ∷ cs) = max c.0 (greatest cs)

-- terms whose sum is the weight of the one that is chosen
unfoldable pub spread_terms : Choices ℕ → List Weighted
spread_terms choices =
    if nat_lt (greatest choices) (2 ^ 63) then digit_terms (size (greatest choices)) 1 choices else plain_terms choices
