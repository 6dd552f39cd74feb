-- Numbers in binary, and the sums that literals spell.
use Prim.Native.Nat.{suc, zero}
use Rattle.std.specs.Prelude.{◌≡◌, ℕ, ◌+◌, ◌*◌, ◌/◌, Bool, List, [], ◌∷◌, Option, Some, None, map, ◌==◌, if◌then◌else◌}
use Rattle.clause_store.specs.declared.Lit.{Lit}
use Rattle.clause_store.specs.Lits.{lit_true, AllBelow}
use Rattle.clause_store.specs.Clauses.{Clauses}
use Rattle.clause_circuits.specs.Growth.{Defines, MeetsSince}
use Rattle.clause_circuits.specs.Steps.{Step, FollowsPlan}
use Rattle.clause_circuits.specs.Gates.{Planned, Made, with_gate, next}
use Rattle.clause_circuits.specs.Shapes.{never}
use Rattle.clause_circuits.specs.Cells.{bit, bit_true}
use Rattle.clause_circuits.specs.Trees.{weight}

-- the number that bits spell, the lowest first
abbrev pub value : (ℕ → Bool) → List (Option Lit) → ℕ
value v [] = 0
value v (b ∷ bs) = bit (bit_true v b) + 2 * value v bs

-- how many bits a number below 2 ^ k has
abbrev pub size_below : ℕ → ℕ → ℕ
size_below zero n = 0
size_below (suc k) n = if n == 0 then 0 else suc (size_below k (n / 2))

-- how many bits a number below 2 ^ 63 has
unfoldable pub size : ℕ → ℕ
size n = size_below 63 n

-- literals for bits: one that is true nowhere for each bit that is known to be false
abbrev pub spell_on : Planned → List (Option Lit) → Made (List Lit)
spell_on p [] = record { plan = p; answer = [] }
spell_on p (None ∷ bs) =
    let off = with_gate p never in
    let m = spell_on off.plan bs in record { plan = m.plan; answer = off.answer ∷ m.answer }
spell_on p (Some l ∷ bs) = let m = spell_on p bs in record { plan = m.plan; answer = l ∷ m.answer }

-- the number that truth values spell, the highest first, after those before
abbrev pub number_after : ℕ → List Bool → ℕ
number_after n [] = n
number_after n (b ∷ bs) = number_after (2 * n + bit b) bs

abbrev pub number : List Bool → ℕ
number bs = number_after 0 bs

-- the longer plan defines literals that spell the sum of the weights of true literals
pub record SumsTo (p : Planned) (m : Made (List Lit)) (ts : List (ℕ × Lit)) : Type 0 where
  pub step : Step p m.plan
  pub below : AllBelow (next m.plan) m.answer
  pub sums : (v : ℕ → Bool) → FollowsPlan v m.plan → number (map (lit_true v) m.answer) ≡ weight v ts

-- the longer list defines literals that spell the sum of the weights of true literals
pub record IsSum (old new : Clauses) (bits : List Lit) (ts : List (ℕ × Lit)) : Type 0 where
  pub defines : Defines old new
  pub below : AllBelow new.vars bits
  pub sums : (asked v : ℕ → Bool) → MeetsSince asked v old new → number (map (lit_true v) bits) ≡ weight v ts
