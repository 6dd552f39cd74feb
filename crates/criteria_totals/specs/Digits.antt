-- Sums by digits of base 4, the lowest digit first: each a sorted list of at most three literals.
use Prim.Native.Nat.{suc, zero}
use Rattle.std.specs.Prelude.{ℕ, ◌+◌, ◌*◌, ◌/◌, ◌%◌, Bool, List, [], ◌∷◌, ◌++◌, Option, Some, None, length, map, take, reverse, replicate, nat_le, if◌then◌else◌}
use Rattle.clause_store.specs.declared.Lit.{Lit}
use Rattle.clause_store.specs.Lits.{negation}
use Rattle.clause_circuits.specs.Gates.{Sides, Planned, Made, with_gate}
use Rattle.clause_circuits.specs.Shapes.{both}
use Rattle.clause_circuits.specs.Cells.{count_true, gave, some_of}
use Rattle.clause_circuits.specs.Trees.{Tree, none, leaf, node, halved, total, tree_total}
use Rattle.clause_circuits.specs.Binary.{size, spell_on}
use Rattle.criteria_totals.specs.Merges.{above, merged_on}

-- the number that digits spell
abbrev pub worth : (ℕ → Bool) → List (List Lit) → ℕ
worth v [] = 0
worth v (d ∷ ds) = count_true v d + 4 * worth v ds

-- a clause that fails where more than i of a sorted list are true, if so many can be
abbrev pub not_above : List Lit → ℕ → List (List Lit)
not_above s i = if nat_le (i + 1) (length s) then map negation (above s i) ∷ [] else []

-- true where more than i of a sorted list of at most seven are left without four, or without none where there are not four
unfoldable pub left_over : List Lit → ℕ → Sides
left_over s i = record {
  on = (map negation (above s i) ++ above s 3) ∷ not_above s (i + 4);
  off = above s i ∷ (map negation (above s 3) ++ above s (i + 4)) ∷ [];
}

-- so many literals of the rest, from that for more than i on
abbrev pub left_from : ℕ → ℕ → Planned → List Lit → Made (List Lit)
left_from i zero p s = record { plan = p; answer = [] }
left_from i (suc more) p s =
    let lit = with_gate p (left_over s i) in
    let rest = left_from (suc i) more lit.plan s in
    record { plan = rest.plan; answer = lit.answer ∷ rest.answer }

-- the digit of a sorted list of at most seven; its carry is the literal for more than three
abbrev pub digit_on : Planned → List Lit → Made (List Lit)
digit_on p s = if nat_le (length s) 3 then record { plan = p; answer = s } else left_from 0 3 p s

abbrev pub first_digit : List (List Lit) → List Lit
first_digit [] = []
first_digit (d ∷ ds) = d

abbrev pub rest_digits : List (List Lit) → List (List Lit)
rest_digits [] = []
rest_digits (d ∷ ds) = ds

abbrev pub with_lowest_digit : List Lit → Made (List (List Lit)) → Made (List (List Lit))
with_lowest_digit d m = record { plan = m.plan; answer = d ∷ m.answer }

-- the lowest digits of a sum with a carry, so many
abbrev pub add_digits : ℕ → Planned → List Lit → List (List Lit) → List (List Lit) → Made (List (List Lit))
add_digits zero p carry ds es = record { plan = p; answer = [] }
add_digits (suc w) p carry ds es =
    let here = merged_on p (first_digit ds) (first_digit es) in
    let all = merged_on here.plan here.answer carry in
    let digit = digit_on all.plan all.answer in
    with_lowest_digit digit.answer
    (add_digits w digit.plan (above all.answer 3) (rest_digits ds) (rest_digits es))

-- how many digits a number below 2 ^ 63 has
abbrev pub digit_count : ℕ → ℕ
digit_count n = (size n + 1) / 2

-- a literal as often as a weight's digits say
abbrev pub weight_digits : ℕ → ℕ → Lit → List (List Lit)
weight_digits zero w l = []
weight_digits (suc k) w l = replicate (w % 4) l ∷ weight_digits k (w / 4) l

abbrev pub digits_on : Planned → Tree (ℕ × Lit) → Made (List (List Lit))
digits_on p none = record { plan = p; answer = [] }
digits_on p (leaf t) = record { plan = p; answer = weight_digits (digit_count t.0) t.0 t.1 }
digits_on p (node l r) =
    let left = digits_on p l in
    let right = digits_on left.plan r in
    add_digits (digit_count (tree_total l + tree_total r)) right.plan [] left.answer right.answer

-- true where one or three of three sorted literals are
abbrev pub one_or_three : Lit → Lit → Lit → Sides
one_or_three a b c = record {
  on = (negation a ∷ b ∷ []) ∷ (negation c ∷ []) ∷ [];
  off = (a ∷ []) ∷ (negation b ∷ c ∷ []) ∷ [];
}

-- the low bit of a digit
abbrev pub low_bit_on : Planned → List Lit → Made (Option Lit)
low_bit_on p [] = gave p None
low_bit_on p (a ∷ []) = gave p (Some a)
low_bit_on p (a ∷ b ∷ []) = some_of (with_gate p (both a (negation b)))
low_bit_on p (a ∷ b ∷ c ∷ ls) = some_of (with_gate p (one_or_three a b c))

-- its high bit
abbrev pub high_bit : List Lit → Option Lit
high_bit [] = None
high_bit (a ∷ []) = None
high_bit (a ∷ b ∷ ls) = Some b

-- the bits of digits, the lowest first
abbrev pub bits_on : Planned → List (List Lit) → Made (List (Option Lit))
bits_on p [] = record { plan = p; answer = [] }
bits_on p (d ∷ ds) =
    let low = low_bit_on p d in
    let m = bits_on low.plan ds in
    record { plan = m.plan; answer = low.answer ∷ high_bit d ∷ m.answer }

-- the sum of weighted literals in binary, by digits of base 4, the highest bit first
unfoldable pub digit_bits_on : Planned → List (ℕ × Lit) → Made (List Lit)
digit_bits_on p ts =
    let sum = digits_on p (halved ts) in
    let bits = bits_on sum.plan sum.answer in
    let m = spell_on bits.plan (take (size (total ts)) bits.answer) in
    record { plan = m.plan; answer = reverse m.answer }
