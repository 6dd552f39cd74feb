use Rattle.std.proofs.Common.{◌≡◌, ℕ, ◌<◌, length, get_or}
use Rattle.spec_hash.specs.Base32.{letter_of, five_bits}
use Rattle.spec_hash.proofs.spell.Given as goal

abbrev pub invariant-loop-k : goal.invariant-loop-k
invariant-loop-k l = record {
  room : length l.out ≡ 32;
  told : (j : ℕ) → j < l.k → get_or l.out j 0 ≡ letter_of (five_bits l.bytes j);
}
