-- The code of digits, step by step.
use Prim.Native.Nat.{suc, zero}
use Rattle.std.proofs.Common.{◌≡◌, refl, sym, ap, ◌∙◌, ℕ, ◌+◌, ◌*◌, ◌-◌, ◌^◌, ◌<◌, ◌≤◌, List, [], ◌∷◌, ◌++◌, arith, pow-suc, append_assoc, Result, Ok, Err, OnOk}
use Rattle.std.proofs.Math.Nat.{mul_comm, mul_assoc}
use Rattle.clause_formulas.specs.Statements.{Statement}
use Rattle.literal_table.specs.Choices.{Choices, any_choice}
use Rattle.cost_terms.specs.declared.weighted.Weighted.{Weighted}
use Rattle.cost_terms.specs.Spread.{weighed_choices, is_odd, half_of, digit_terms}

-- twice the unit, one digit less
pub doubled : (unit k : ℕ) → 2 * unit * 2 ^ k ≡ unit * 2 ^ suc k
doubled unit k = rw (mul_comm 2 unit) (mul_assoc unit 2 (2 ^ k) ∙ ap (λ p. unit * p) (mul_comm 2 (2 ^ k) ∙ sym (pow-suc 2 k)))

at-least-one : (k : ℕ) → 1 ≤ 2 ^ k
at-least-one zero = omega arith
at-least-one (suc k) = omega (arith, at-least-one k, pow-suc 2 k)

times-more : (a b : ℕ) → 1 ≤ b → a ≤ a * b
times-more a zero h = absurd (omega arith)
times-more a (suc b) h = omega arith

-- twice the unit still fits
pub next-fits : (more unit : ℕ) → (more ≡ 0 → ⊥) → unit * 2 ^ more < 2 ^ 64 → 2 * unit * 2 ^ (more - 1) < 2 ^ 64
next-fits zero unit z h = absurd (z refl)
next-fits (suc k) unit z h = let e : suc k - 1 ≡ k = omega arith in rw e (omega (arith, doubled unit k, h))

-- the next unit has 64 bits
pub unit-fits : (more unit : ℕ) → (more ≡ 0 → ⊥) → unit * 2 ^ more < 2 ^ 64 → 2 * unit < 2 ^ 64
unit-fits more unit z h = omega (arith, next-fits more unit z h, times-more (2 * unit) (2 ^ (more - 1)) (at-least-one (more - 1)))

-- one digit, and then the others
pub digit-step : (more unit : ℕ) (choices halves : Choices ℕ) (old after new : List Weighted) (f : Statement) → (more ≡ 0 → ⊥)
    → f ≡ any_choice is_odd choices → halves ≡ weighed_choices half_of choices → after ≡ old ++ record { weight = unit; formula = f } ∷ []
    → new ≡ after ++ digit_terms (more - 1) (2 * unit) halves → new ≡ old ++ digit_terms more unit choices
digit-step zero unit choices halves old after new f z e h a n = absurd (z refl)
digit-step (suc k) unit choices halves old after new f z e h a n =
    let less : suc k - 1 ≡ k = omega arith in
    n ∙ ap (λ m. after ++ digit_terms m (2 * unit) halves) less ∙ ap (λ hs. after ++ digit_terms k (2 * unit) hs) h
    ∙ ap (λ ts. ts ++ digit_terms k (2 * unit) (weighed_choices half_of choices)) a
    ∙ append_assoc old (record { weight = unit; formula = f } ∷ []) (digit_terms k (2 * unit) (weighed_choices half_of choices))
    ∙ ap (λ g. old ++ record { weight = unit; formula = g } ∷ digit_terms k (2 * unit) (weighed_choices half_of choices)) e

-- what follows where a call went well
pub on-ok : {T E : Type 0} (r : Result T E) (P Q : Type 0) → (P → Q) → OnOk r P → OnOk r Q
on-ok (Ok x) P Q f p = f p
on-ok (Err e) P Q f p = tt
