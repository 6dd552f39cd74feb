-- Clauses in order that are one set are equal, and there are at most 3 ^ n over n variables.
use Rattle.std.proofs.Common.{◌≡◌, ℕ, zero, suc, ◌+◌, ◌*◌, ◌^◌, ◌<◌, Bool, true, false, cond, List, inl, inr, arith}
use Rattle.std.proofs.lemmas.Bool.{cases_lt}
use Rattle.std.proofs.Math.Nat.{pow-suc}
use Rattle.clause_store.specs.declared.Lit.{Lit}
use Rattle.clause_store.specs.Lits.{has}

-- a clause as a number of n digits in base 3
abbrev pub lit : ℕ → Bool → Lit
lit x p = record { var = record { 0 = x }; positive = p }

abbrev pub digit : List Lit → ℕ → ℕ
digit c x = cond (has c (lit x true)) 1 (cond (has c (lit x false)) 2 0)

-- a clause as a number of base 3, a digit for each variable
pub number : ℕ → List Lit → ℕ
number zero c = 0
number (suc n) c = 3 * number n c + digit c n

digit-small : (c : List Lit) (x : ℕ) → digit c x < 3
digit-small c x = small (has c (lit x true)) (has c (lit x false))
  where
    small : (a b : Bool) → cond a 1 (cond b 2 0) < 3
    small true b = omega arith
    small false true = omega arith
    small false false = omega arith

-- it is below 3 to the number of variables
pub number-small : (n : ℕ) (c : List Lit) → number n c < 3 ^ n
unfolding number
number-small zero c = omega arith
number-small (suc n) c = let h = number-small n c in let d = digit-small c n in rw pow-suc (omega (arith, h, d))

-- equal numbers have equal digits
pub number-digits : (n : ℕ) (c d : List Lit) → number n c ≡ number n d → (x : ℕ) → x < n → digit c x ≡ digit d x
unfolding number
number-digits zero c d e x h = absurd (omega arith)
number-digits (suc n) c d e x h =
    let a = digit-small c n in
    let b = digit-small d n in
    let t : number n c ≡ number n d = omega (arith, e, a, b) in
    let u : digit c n ≡ digit d n = omega (arith, e, a, b) in
    elim (cases_lt x n) [ inl lt ↦ number-digits n c d t x lt | inr ge ↦ let q : x ≡ n = omega arith in rw q u ]
