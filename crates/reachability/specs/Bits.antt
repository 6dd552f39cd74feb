-- Booleans as the bits of words, 64 to a word.
use Rattle.std.specs.Prelude.{ℕ, ◌/◌, ◌%◌, ◌==◌, Bool, List, map, slice_index}
use Rattle.std.specs.Int.{bit_at}
use Rattle.std.specs.List.{range_with_len}

abbrev pub is_set : List ℕ → ℕ → Bool
is_set words place = bit_at (slice_index words (place / 64)) (place % 64) == 1

-- the first of them, as many as asked
abbrev pub bits_of : ℕ → List ℕ → List Bool
bits_of len words = map (is_set words) (range_with_len 0 len)
