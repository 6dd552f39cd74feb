-- What the terms of choices add up to.
use Prim.Native.Nat.{suc, zero}
use Rattle.std.proofs.Common.{◌≡◌, refl, ap, ℕ, ◌+◌, ◌*◌, ◌/◌, ◌^◌, ◌<◌, ◌≤◌, Bool, true, false, cond, List, [], ◌∷◌, map, eqb, ◌⊎◌, inl, inr, ⊎_elim, arith, pow-suc}
use Rattle.std.specs.List.{list_all, list_any}
use Rattle.std.proofs.lemmas.Bool.{cases_eq, eqb-true, eqb-false, lt-ltb}
use Rattle.std.proofs.lemmas.List.Sums.{sum_by-cons}
use Rattle.clause_circuits.specs.Binary.{size, size_below}
use Rattle.graph_core.specs.declared.node.Origin.{Origin}
use Rattle.literal_table.specs.Choices.{Choices, any_choice}
use Rattle.cost_terms.specs.declared.weighted.Weighted.{Weighted}
use Rattle.cost_terms.specs.Weighed.{top_said}
use Rattle.cost_terms.specs.Spread.{weighed_choices, is_odd, half_of, digit_terms, greatest, spread_terms}
use Rattle.cost_terms.specs.Parts.{part_said, only_where, is_of, in_part}
use Rattle.cost_terms.specs.Terms.{weight_terms}
use Rattle.cost_terms.proofs.Lists.{sum-map}
use Rattle.cost_terms.proofs.DigitSteps.{doubled}

-- ---- digits

-- so many digits spell less than the next
digits-top : (k unit : ℕ) (choices : Choices ℕ) → top_said (digit_terms k unit choices) + unit ≡ unit * 2 ^ k
digits-top zero unit choices = omega arith
digits-top (suc k) unit choices =
    omega (
      arith,
      doubled unit k,
      digits-top k (2 * unit) (weighed_choices half_of choices),
      sum_by-cons (λ (t : Weighted). t.weight) (record { weight = unit; formula = any_choice is_odd choices })
          (digit_terms k (2 * unit) (weighed_choices half_of choices)),
    )

-- a number has no more digits than it needs
size-top : (k n : ℕ) → ((n ≡ 0) × (size_below k n ≡ 0)) ⊎ (2 ^ size_below k n ≤ 2 * n)
size-top zero n = elim (cases_eq n 0) [
  | inl is ↦ inl (is, refl)
  | inr other ↦ inr (omega arith)
]
size-top (suc k) n = size-top-cases (size-top k (n / 2)) (eqb n 0) refl
  where
    size-top-cases : ((n / 2 ≡ 0) × (size_below k (n / 2) ≡ 0)) ⊎ (2 ^ size_below k (n / 2) ≤ 2 * (n / 2)) → (b : Bool) → eqb n 0 ≡ b
        → ((n ≡ 0) × (cond b 0 (suc (size_below k (n / 2))) ≡ 0)) ⊎ (2 ^ cond b 0 (suc (size_below k (n / 2))) ≤ 2 * n)
    size-top-cases rest true is = inl (eqb-true n 0 is, refl)
    size-top-cases rest false is = let some : n ≡ 0 → ⊥ = eqb-false n 0 is in inr (⊎_elim
        (λ none. let one : 2 ^ suc (size_below k (n / 2)) ≡ 2 = ap (λ j. 2 ^ suc j) none.1 in omega arith)
        (λ more. omega (arith, pow-suc 2 (size_below k (n / 2))))
        rest)

size-is : (n : ℕ) → ((n ≡ 0) × (size n ≡ 0)) ⊎ (2 ^ size n ≤ 2 * n)
unfolding size
size-is n = size-top 63 n

-- the terms of choices add up to twice the greatest weight at most
spread-top : (choices : Choices ℕ) → greatest choices < 2 ^ 63 → top_said (spread_terms choices) ≤ 2 * greatest choices
unfolding spread_terms
spread-top choices small = rw (lt-ltb (greatest choices) (2 ^ 63) small) (⊎_elim
    (λ none. let one : 2 ^ size (greatest choices) ≡ 1 = ap (λ j. 2 ^ j) none.1 in
    omega (arith, digits-top (size (greatest choices)) 1 choices))
    (λ some. omega (arith, digits-top (size (greatest choices)) 1 choices))
    (size-is (greatest choices)))

greatest-top : {T : Type 0} (weight : T → ℕ) (most : ℕ) → ((x : T) → weight x ≤ most) → (choices : Choices T)
    → greatest (weighed_choices weight choices) ≤ most
greatest-top weight most le [] = omega arith
greatest-top weight most le (c ∷ cs) = omega (arith, le c.0, greatest-top weight most le cs)

-- digits add up to less than twice the greatest weight
pub weights-top : {T : Type 0} (weight : T → ℕ) (most : ℕ) → ((x : T) → weight x ≤ most) → most < 2 ^ 63 → (choices : Choices T)
    → top_said (weight_terms weight choices) ≤ 2 * most
weights-top weight most le small choices =
    let below = greatest-top weight most le choices in
    omega (arith, below, spread-top (weighed_choices weight choices) (omega arith))

-- ---- parts

-- a half has no more than the whole
pub part-top : (built : Bool) (origins : Choices Origin) (ts : List Weighted) → top_said (in_part built origins ts) ≤ top_said ts
unfolding in_part
part-top built origins ts = part-top-cases (list_all (λ c. is_of built c.0) origins) (list_any (λ c. is_of built c.0) origins)
    (map (only_where (part_said built origins)) ts)
    (sum-map (λ (t : Weighted). t.weight) (only_where (part_said built origins)) ts)
  where
    part-top-cases : (a b : Bool) (us : List Weighted) → top_said us ≡ top_said ts → top_said (cond a ts (cond b us [])) ≤ top_said ts
    part-top-cases true b us e = omega arith
    part-top-cases false true us e = omega arith
    part-top-cases false false us e = omega arith
