-- Numbers that look drawn, of which a seed gives the same ones everywhere.
use Rattle.std.specs.Prelude.{ℕ, ◌+◌, ◌*◌, ◌/◌, ◌%◌, ◌^◌}

-- the state behind a state: a linear congruential generator modulo 2^64 (Knuth, The Art of Computer Programming 2, 3.3.4)
unfoldable pub next_state : ℕ → ℕ
next_state state = (state * 6364136223846793005 + 1442695040888963407) % 2 ^ 64

-- the number below `below` that is drawn at a state: the upper bits of the next state, of which lower ones have short periods
unfoldable pub drawn : ℕ → ℕ → ℕ
drawn below state = (next_state state / 2 ^ 33) % below
