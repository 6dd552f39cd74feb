-- Small clauses and logs for worked rows, spelled as a log spells them.
use Rattle.std.specs.Prelude.{ℕ, ◌-◌, true, false, List, [], ◌∷◌}
use Rattle.clause_store.specs.declared.Lit.{Lit}
use Rattle.proof_log.specs.declared.line.Line.{Line}
use Rattle.proof_log.specs.declared.line.Line.TheVariants.{Header, Learnt, Zero, One, Spent, End}

-- the literal that is spelled `n`, and the one that is spelled `-n`
abbrev pub pos : ℕ → Lit
pos n = record { var = record { 0 = n - 1 }; positive = true }

abbrev pub neg : ℕ → Lit
neg n = record { var = record { 0 = n - 1 }; positive = false }

-- `1 2`, `1 -2`, `-1 2`, `-1 -2`, and the learnt `1`
abbrev pub five : List (List Lit)
five = (pos 1 ∷ pos 2 ∷ []) ∷ (pos 1 ∷ neg 2 ∷ []) ∷ (neg 1 ∷ pos 2 ∷ []) ∷ (neg 1 ∷ neg 2 ∷ []) ∷ (pos 1 ∷ []) ∷ []

-- the first four of them, and `p 1 2 4 0`, `l 5 1 0 1 2 0`, `s`: one clause more than the budget 0
abbrev pub four : List (List Lit)
four = (pos 1 ∷ pos 2 ∷ []) ∷ (pos 1 ∷ neg 2 ∷ []) ∷ (neg 1 ∷ pos 2 ∷ []) ∷ (neg 1 ∷ neg 2 ∷ []) ∷ []

abbrev pub four_log : List Line
four_log = Header 2 4 0 ∷ Learnt 5 (pos 1 ∷ []) (1 ∷ 2 ∷ []) ∷ Spent ∷ []

-- `1 2`, `-1 2`, whose least bits at `2`, `1` are 1 and 0
abbrev pub two : List (List Lit)
two = (pos 1 ∷ pos 2 ∷ []) ∷ (neg 1 ∷ pos 2 ∷ []) ∷ []

abbrev pub two_bits : List Lit
two_bits = pos 2 ∷ pos 1 ∷ []

-- `p 1 2 2 2`, `o 3 0 1 2 0`, `z 4 1`, `e`
abbrev pub two_log : List Line
two_log = Header 2 2 2 ∷ One 3 0 (1 ∷ 2 ∷ []) ∷ Zero 4 1 ∷ End ∷ []
