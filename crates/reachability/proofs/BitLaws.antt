-- Bits of words: none set, one read, one more set.
use Rattle.std.proofs.Common.{◌≡◌, refl, sym, ap, ◌∙◌, ℕ, ◌*◌, ◌/◌, ◌%◌, ◌^◌, ◌<◌, ◌≢◌, Bool, true, false, eqb, List, length, get_or, set, replicate, ⊎_elim, arith}
use Rattle.std.specs.Int.{bit_at, w64}
use Rattle.std.specs.Int.RustNames.{bit_and, bit_or}
use Rattle.std.proofs.lemmas.Bool.{cases_eq}
use Rattle.std.proofs.lemmas.List.{length-set, length-replicate, get_or-replicate, get_or-set_same, get_or-set_other, get_or_read, ext_get_or}
use Rattle.std.proofs.lemmas.List.FromFn.{length-map-range_with_len, get_or-map-range_with_len}
use Rattle.std.proofs.lemmas.Nat.Bits.{shr_and_one, bit_at-zero, bit_at_set_same, bit_at_set_other}
use Rattle.reachability.specs.Bits.{is_set, bits_of}

-- so many bits are read as were asked for
pub length-bits_of : (len : ℕ) (words : List ℕ) → length (bits_of len words) ≡ len
length-bits_of len words = length-map-range_with_len (is_set words) 0 len

-- a bit of the row is the bit of its word
pub bits_at : (len : ℕ) (words : List ℕ) (place : ℕ) (d : Bool) → place < len → get_or (bits_of len words) place d ≡ is_set words place
bits_at len words place d lt = get_or-map-range_with_len (is_set words) 0 len place place d lt (omega arith)

-- words of 0 are a row without a bit
pub no_bits : (len count : ℕ) → len < 64 * count → bits_of len (replicate count 0) ≡ replicate len false
no_bits len count room =
    ext_get_or false (bits_of len (replicate count 0)) (replicate len false) (length-bits_of len (replicate count 0)
    ∙ sym (length-replicate len false)) (λ i lt.
    let below : i < len = omega (arith, lt, length-bits_of len (replicate count 0)) in
    let word : i / 64 < count = omega arith in
    bits_at len (replicate count 0) i false below
    ∙ rw (get_or-replicate {A = ℕ} count (i / 64) 0 0 word, bit_at-zero (i % 64)) (sym (get_or-replicate len i false false below)))

-- the word with the bit
abbrev pub with_bit : ℕ → ℕ → ℕ
with_bit word bit = bit_or word (1 * 2 ^ bit % 2 ^ 64)

-- a bit set in its word is that bit set in the row
pub one_more_bit : (len : ℕ) (words : List ℕ) (place : ℕ) → place < len → place / 64 < length words
    → bits_of len (set words (place / 64) (with_bit (get_or words (place / 64) 0) (place % 64))) ≡ set (bits_of len words) place true
one_more_bit len words place lt word =
    ext_get_or false (bits_of len after) (set (bits_of len words) place true) (length-bits_of len after
    ∙ sym (length-set (bits_of len words) place true ∙ length-bits_of len words)) (λ i below.
    let i_lt : i < len = omega (arith, below, length-bits_of len after) in
    bits_at len after i false i_lt ∙ ⊎_elim
    (λ (e : i ≡ place). rw e (set_here
    ∙ sym (get_or-set_same (bits_of len words) place true false (omega (arith, lt, length-bits_of len words)))))
    (λ other. set_there i other ∙ sym (get_or-set_other (bits_of len words) place i true false other ∙ bits_at len words i false i_lt))
    (cases_eq i place))
  where
    after : List ℕ
    after = set words (place / 64) (with_bit (get_or words (place / 64) 0) (place % 64))

    set_here : is_set after place ≡ true
    set_here = rw (
      get_or-set_same words (place / 64) (with_bit (get_or words (place / 64) 0) (place % 64)) 0 word,
      bit_at_set_same w64
          (get_or words (place / 64) 0) (place % 64) (omega arith),
    ) refl

    set_there : (i : ℕ) → (i ≡ place → let none : Type 0 = ⊥ in none) → is_set after i ≡ is_set words i
    set_there i other = ⊎_elim
        (λ (row : i / 64 ≡ place / 64).
        let bit : i % 64 ≢ place % 64 = λ e. other (omega (arith, row, e)) in
        rw (
          row,
          get_or-set_same words (place / 64) (with_bit (get_or words (place / 64) 0) (place % 64)) 0 word,
          bit_at_set_other w64
              (get_or words (place / 64) 0) (place % 64) (omega arith) (i % 64) bit,
        ) refl)
        (λ row. rw (get_or-set_other words (place / 64) (i / 64) (with_bit (get_or words (place / 64) 0) (place % 64)) 0 row) refl)
        (cases_eq (i / 64) (place / 64))

-- ---- words that are seen as a list

module _ (len : ℕ) (words : List ℕ) (now : List Bool) (seen : bits_of len words ≡ now) where
  -- the row has as many bits as its length says
  pub length-seen : len ≡ length now
  length-seen = sym (length-bits_of len words) ∙ ap length seen

  module _ (place : ℕ) (lt : place < length now) where
    -- the word of a place is one of the words
    pub word_within : (count : ℕ) → len < 64 * count → place / 64 < count
    word_within count room = let is : len ≡ length now = length-seen in omega arith

    module _ (word : ℕ) (within : place / 64 < length words) (read : word ≡ get_or words (place / 64) word) where
      word_is : word ≡ get_or words (place / 64) 0
      word_is = get_or_read words (place / 64) word within read 0

      -- what is read of a word is the bit at the place
      pub bit_read : eqb (bit_and (word / 2 ^ (place % 64)) 1) 1 ≡ get_or now place false
      bit_read =
          ap (λ n. eqb n 1) (shr_and_one word (place % 64) ∙ ap (λ w. bit_at w (place % 64)) word_is)
          ∙ sym (bits_at len words place false (omega (arith, lt, length-seen)))
          ∙ ap (λ l. get_or l place false) seen

      -- a word with its bit set is the row with that place set
      pub bit_written : bits_of len (set words (place / 64) (with_bit word (place % 64))) ≡ set now place true
      bit_written =
          rw word_is (one_more_bit len words place (omega (arith, lt, length-seen)) within)
          ∙ ap (λ l. set l place true) seen
