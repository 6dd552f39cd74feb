-- The heap of variables as callers see it.
use Rattle.std.specs.Prelude.{ℕ, Bool, false, List, replicate}

-- how many variables there are, how many of them wait, and the last value of each
pub record HeapValue : Type 0 where
  pub vars : ℕ
  pub waiting : ℕ
  pub phases : List Bool

-- none waits, and none had a value
abbrev pub untouched : ℕ → HeapValue
untouched vars = record { vars = vars; waiting = 0; phases = replicate vars false }
