-- The letters of base 32 (RFC 4648, section 6), in lower case.
use Rattle.std.specs.Prelude.{ℕ, ◌+◌, ◌-◌, ◌*◌, ◌/◌, ◌%◌, ◌^◌, List, map, take, slice_index, length, Bool, true, ◌&&◌, ◌==◌, nat_lt, if◌then◌else◌}
use Rattle.std.specs.List.{list_all, range_with_len}
use Rattle.std.specs.Int.{is_in_range}
use Rattle.sha2.specs.Sha256.{sha256}

-- the letter of a digit below 32
abbrev pub letter_of : ℕ → ℕ
letter_of digit = if nat_lt digit 26 then 97 + digit else 24 + digit

-- five bits of the bytes, as a number: those from bit 5 * k on, the highest first; behind the last byte stand zeros
abbrev pub five_bits : List ℕ → ℕ → ℕ
five_bits bytes k = (slice_index bytes (5 * k / 8) * 256 + slice_index bytes (5 * k / 8 + 1)) / 2 ^ (11 - 5 * k % 8) % 32

-- 20 bytes in letters, each for five bits
unfoldable pub base32 : List ℕ → List ℕ
base32 bytes = map (λ k. letter_of (five_bits bytes k)) (range_with_len 0 32)

-- the hash of a text: the first 20 bytes of its SHA-256 in letters
abbrev pub hash_of : List ℕ → List ℕ
hash_of bytes = base32 (take 20 (sha256 bytes))

-- a letter of base 32
abbrev pub is_letter : ℕ → Bool
is_letter b = if is_in_range 97 122 b then true else is_in_range 50 55 b

-- whether a text is 32 letters
abbrev pub is_hash : List ℕ → Bool
is_hash text = length text == 32 && list_all is_letter text
