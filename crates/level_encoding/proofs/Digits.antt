-- How many digits a number takes.
use Rattle.std.proofs.Common.{◌≡◌, ℕ, zero, suc, ◌+◌, ◌^◌, ◌<◌, ◌≤◌, Bool, true, false, not, cond, eqb, leb, ◌&&◌, ◌-◌, get_or, inl, inr, refl, sym, ap, ◌∙◌, arith}
use Rattle.std.proofs.lemmas.Bool.{cases_lt, leb-true, le-leb, lt-leb, eq-eqb, ne_eqb, and_right}
use Rattle.std.proofs.lemmas.List.Sums.{passes_at_first, position_or_len_is, prefix_len-le-length}
use Rattle.std.proofs.lemmas.List.FromFn.{length-range_with_len, get_or-range_with_len}
use Rattle.std.proofs.Math.Nat.{pow-suc}
use Rattle.level_encoding.specs.Counts.{total_below, count_below}
use Rattle.level_encoding.proofs.CountLaws.{total-le}
use Rattle.level_encoding.specs.Encoding.{numbers_below, width}

below-power : (m : ℕ) → m < 2 ^ m
below-power zero = omega arith
below-power (suc m) = let h = below-power m in rw pow-suc (omega (arith, h))

pub width-le : (m : ℕ) → width m ≤ m
unfolding width
width-le m = omega (arith, prefix_len-le-length (λ k. not (leb m (2 ^ k))) (numbers_below m), length-range_with_len 0 m)

-- so many digits tell so many numbers apart
pub width-enough : (m : ℕ) → m ≤ 2 ^ width m
unfolding width
width-enough m =
    elim (cases_lt (width m) m) [
      | inl lt ↦
          let at : get_or (numbers_below m) (width m) 0 ≡ width m = get_or-range_with_len 0 m (width m) 0 lt ∙ omega arith in
          let h = passes_at_first (λ k. leb m (2 ^ k)) (numbers_below m) 0 (rw length-range_with_len lt) in
          leb-true m (2 ^ width m) (ap (λ k. leb m (2 ^ k)) (sym at) ∙ h)
      | inr ge ↦ let e : width m ≡ m = omega (arith, width-le m) in rw e (omega (arith, below-power m))
    ]

-- the value at a place, where rows of these lengths follow one another
pub row_at : (ℕ → ℕ) → (ℕ → ℕ → Bool) → ℕ → ℕ → Bool
row_at f g zero x = false
row_at f g (suc i) x = cond (leb (total_below f i) x) (g i (x - total_below f i)) (row_at f g i x)

-- what stands at a place of rows behind one another
pub row_at-is : (f : ℕ → ℕ) (g : ℕ → ℕ → Bool) (n i k : ℕ) → i < n → k < f i → row_at f g n (total_below f i + k) ≡ g i k
unfolding row_at total_below
row_at-is f g zero i k h l = absurd (omega arith)
row_at-is f g (suc n) i k h l =
    elim (cases_lt i n) [
      | inl lt ↦ rw (lt-leb (total_below f n) (total_below f i + k) (omega (arith, l, total-le f (suc i) n lt))) (row_at-is f g n i k lt l)
      | inr ge ↦
          let e : i ≡ n = omega arith in
          let d : total_below f n + k - total_below f n ≡ k = omega arith in
          rw (e, le-leb (total_below f n) (total_below f n + k) (omega arith), d) refl
    ]

-- one that passes is counted
pub count-up : (test : ℕ → Bool) (n k : ℕ) → k < n → test k ≡ true → count_below test k < count_below test n
unfolding count_below total_below
count-up test n k h t =
    let up : count_below test (suc k) ≤ count_below test n = total-le (λ j. cond (test j) 1 0) (suc k) n h in
    let more : count_below test (suc k) ≡ count_below test k + 1 = rw t refl in
    omega (arith, up, more)

-- the value of the number that passes and has so many before it that do
pub passing_at : (ℕ → Bool) → (ℕ → Bool) → ℕ → ℕ → Bool
passing_at test g zero j = false
passing_at test g (suc k) j = cond (test k && eqb (count_below test k) j) (g k) (passing_at test g k j)

-- what stands at the place of one that passes
pub passing_at-is : (test g : ℕ → Bool) (n k : ℕ) → k < n → test k ≡ true → passing_at test g n (count_below test k) ≡ g k
unfolding passing_at count_below total_below
passing_at-is test g zero k h t = absurd (omega arith)
passing_at-is test g (suc n) k h t =
    elim (cases_lt k n) [
      | inl lt ↦
          let up = count-up test n k lt t in
          rw (ne_eqb (count_below test n) (count_below test k) (λ e. omega (arith, up, e)), and_right (test n) false refl)
          (passing_at-is test g n k lt t)
      | inr ge ↦ let e : k ≡ n = omega arith in rw (e, rw e at t, eq-eqb (count_below test n) (count_below test n) refl) refl
    ]

-- the width is the least number of digits that are enough
pub width-is : (m w : ℕ) → ((k : ℕ) → k < w → 2 ^ k < m) → m ≤ 2 ^ w → w ≡ width m
unfolding width
width-is m w few enough =
    sym (position_or_len_is (λ k. leb m (2 ^ k)) (numbers_below m) w 0 (omega (arith, short w few, length-range_with_len 0 m))
    (λ k h. rw (at k (omega (arith, h, short w few))) (lt-leb m (2 ^ k) (few k h)))
    (λ h. let l = length-range_with_len 0 m in rw (at w (omega (arith, h, l))) (le-leb m (2 ^ w) enough)))
  where
    at : (k : ℕ) → k < m → get_or (numbers_below m) k 0 ≡ k
    at k h = get_or-range_with_len 0 m k 0 h ∙ omega arith

    short : (w : ℕ) → ((k : ℕ) → k < w → 2 ^ k < m) → w ≤ m
    short zero f = omega arith
    short (suc w) f = omega (arith, f w (omega arith), below-power w)
