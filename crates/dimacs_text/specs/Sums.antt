-- The bits of the numbers that are to be least.
use Rattle.std.specs.Prelude.{ℕ, ◌+◌, ◌^◌, List, [], ◌∷◌, ◌++◌, take, drop, length, nat_le, codes, decimal, if◌then◌else◌}
use Rattle.clause_store.specs.declared.Lit.{Lit}
use Rattle.ranked_costs.specs.Built.{width_of}
use Rattle.dimacs_text.specs.Signs.{lit_text, lits_line}

unfoldable pub spelling_word : ℕ → List ℕ
spelling_word top = if nat_le top 64 then codes " unary " else codes " binary "

-- a number by its place, with how it is spelled, its greatest value and its bits
unfoldable pub number_line : ℕ → ℕ → List Lit → List ℕ
number_line place top lits =
    codes "c number " ++ (decimal place ++ (spelling_word top ++ (decimal top ++ (codes " " ++ lits_line lits))))

-- what a true bit adds to a number, by the number's greatest value and how many of its bits stand
-- behind this one
unfoldable pub bit_weight : ℕ → ℕ → ℕ
bit_weight top behind = if nat_le top 64 then 1 else 2 ^ behind

-- the number that a bit belongs to, and its weight there
unfoldable pub weight_text : ℕ → ℕ → List ℕ
weight_text place weight = codes " number " ++ (decimal place ++ (codes " weight " ++ (decimal weight ++ codes "\n")))

-- a bit by its literal, its place among all bits, the number that it belongs to, and its weight
-- there
unfoldable pub bit_line : Lit → ℕ → ℕ → ℕ → List ℕ
bit_line lit bit place weight = codes "c " ++ (lit_text lit ++ (codes "bit " ++ (decimal bit ++ weight_text place weight)))

-- the bits of a number, which count on from the given one
abbrev pub bit_lines : ℕ → ℕ → ℕ → List Lit → List ℕ
bit_lines place top bit [] = []
bit_lines place top bit (lit ∷ lits) = bit_line lit bit place (bit_weight top (length lits)) ++ bit_lines place top (bit + 1) lits

-- the numbers from a place on, by their greatest values, each with its bits; the bits of all count
-- on from the given one
abbrev pub number_lines : ℕ → ℕ → List ℕ → List Lit → List ℕ
number_lines place bit [] lits = []
number_lines place bit (top ∷ tops) lits =
    let own = take (width_of top) lits in
    number_line place top own ++ (bit_lines place top bit own
    ++ number_lines (place + 1) (bit + length own) tops (drop (width_of top) lits))
