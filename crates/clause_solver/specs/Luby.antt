-- When a search restarts: after so many units, by Luby's sequence 1, 1, 2, 1, 1, 2, 4, 1, ..
use Rattle.std.specs.Prelude.{◌≡◌, ℕ, ◌+◌, ◌-◌, ◌*◌, ◌^◌, min, bit_and, ◌==◌, if◌then◌else◌}
use Rattle.clause_solver.specs.declared.restarts.Restarts.{Restarts}

-- the greatest number that is counted to
abbrev pub most : ℕ
most = 2 ^ 64 - 1

-- after a term in a round: twice as much, or 1 where the round has no more factors 2
abbrev pub term_after : ℕ → ℕ → ℕ
term_after round term = if bit_and round term == 0 then min (term * 2) most else 1

abbrev pub round_after : ℕ → ℕ → ℕ
round_after round term = if bit_and round term == 0 then round else min (round + 1) most

-- the next run, of a term of so many conflicts
pub record IsNextTerm (unit : ℕ) (old new : Restarts) : Type 0 where
  pub term : new.term ≡ term_after old.round old.term
  pub round : new.round ≡ round_after old.round old.term
  pub left : new.left ≡ min (new.term * unit) most
