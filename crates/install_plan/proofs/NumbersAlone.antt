-- Numbers of places: what a number more changes.
use Rattle.std.proofs.Common.{◌≡◌, ◌≢◌, refl, ap, ◌∙◌, ℕ, ◌+◌, ◌<◌, ◌≤◌, ◌==◌, false, cond, List, length, set, replicate, ◌⊎◌, ⊎_elim, arith}
use Rattle.std.proofs.lemmas.Bool.{cases_lt, ne_eqb}
use Rattle.std.proofs.lemmas.List.{get_or-set_other, get_or_past, get_or-replicate, length-replicate}
use Rattle.std.proofs.lemmas.List.Sums.{sum_by-set}
use Rattle.install_plan.specs.Numbers.{number_at, missing, Keeps}

abbrev one_if_missing : ℕ → ℕ
one_if_missing number = cond (number == 0) 1 0

not_missing : (v : ℕ) → 1 ≤ v → one_if_missing v ≡ 0
not_missing v some = let other : (v == 0) ≡ false = ne_eqb v 0 (λ e. omega (arith, e, some)) in rw other refl

-- a number for a place that had none leaves one fewer without
pub one_fewer : (numbers : List ℕ) (p v : ℕ) → p < length numbers → number_at numbers p ≡ 0 → 1 ≤ v
    → missing (set numbers p v) + 1 ≡ missing numbers
one_fewer numbers p v lt none some =
    let was : one_if_missing (number_at numbers p) ≡ 1 = ap one_if_missing none in
    let sums : missing (set numbers p v) + one_if_missing (number_at numbers p) ≡ missing numbers + one_if_missing v =
    sum_by-set one_if_missing numbers p v 0 lt in
    omega (arith, sums, was, not_missing v some)

-- what has a number is another place than what has none
pub apart : (numbers : List ℕ) (p q : ℕ) → number_at numbers p ≡ 0 → 1 ≤ number_at numbers q → q ≢ p
apart numbers p q none some same = omega (arith, ap (number_at numbers) same, none, some)

-- a number for a place that had none leaves those of others
pub keeps_others : (numbers : List ℕ) (p v : ℕ) → number_at numbers p ≡ 0 → Keeps numbers (set numbers p v)
keeps_others numbers p v none q some = get_or-set_other numbers p q v 0 (apart numbers p q none some)

pub keeps_all : (numbers : List ℕ) → Keeps numbers numbers
keeps_all numbers p some = refl

pub keeps_twice : (a b c : List ℕ) → Keeps a b → Keeps b c → Keeps a c
keeps_twice a b c first then p some = then p (rw (first p some) some) ∙ first p some

-- what has no number in the end had none before
pub none_before : (a b : List ℕ) (p : ℕ) → Keeps a b → number_at b p ≡ 0 → number_at a p ≡ 0
none_before a b p keeps none = ⊎_elim (λ few. omega (arith, few)) (λ some. omega (arith, keeps p some, none, some))
    (cases_lt (number_at a p) 1)

-- a row of places without numbers
pub none_yet : (n p : ℕ) → number_at (replicate n 0) p ≡ 0
none_yet n p = ⊎_elim (λ lt. get_or-replicate n p 0 0 lt)
    (λ le. get_or_past (replicate n 0) p 0 (omega (arith, le, length-replicate {A = ℕ} n 0))) (cases_lt p n)
