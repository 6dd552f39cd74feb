-- Demands by their numbers: what is asked for of the demands of a problem is among those with the
-- numbers.
use Rattle.std.proofs.Common.{◌≡◌, refl, ap, ◌∙◌, ℕ, ◌+◌, suc, true, false, List, [], ◌∷◌, Option, Some, None, cond, inl, inr, Contains, arith}
use Rattle.std.specs.Prelude.{◌||◌, slice_get}
use Rattle.std.specs.List.{filter_map, cons_option}
use Rattle.std.proofs.Math.Dec.{eqb}
use Rattle.std.proofs.lemmas.Bool.{eqb-true}
use Rattle.explain_failure.specs.Uses.{stands}
use Rattle.problem.specs.Problems.{Problem}
use Rattle.problem.specs.Demands.{demands, demands_at}
use Rattle.problem.specs.declared.demand.Demand.{Demand}
use Rattle.graph_rules.proofs.Lists.{In, In-contains, contains-In}
use Rattle.graph_levels.specs.Rules.{asked_among}
use Rattle.graph_encoding.specs.Encodings.{asked_demands}

module _ {D : Type 0} where
  in_more : (o : Option D) (ds : List D) (d : D) → In d ds → In d (cons_option o ds)
  in_more None ds d there = there
  in_more (Some x) ds d there = inr there

  -- what has one of the numbers
  has_number : (at : ℕ → Option D) (numbers : List ℕ) (n : ℕ) (d : D) → stands numbers n ≡ true → at n ≡ Some d
      → In d (filter_map at numbers)
  has_number at [] n d none found = absurd (cc)
  has_number at (y ∷ ys) n d is found =
      elim (eqb y n) as (λ b. eqb y n ≡ b → (b || stands ys n) ≡ true → In d (cons_option (at y) (filter_map at ys))) [
        | true ↦ λ same here. let e : at y ≡ Some d = ap at (eqb-true y n same) ∙ found in rw e (inl refl)
        | false ↦ λ differs later. in_more (at y) (filter_map at ys) d (has_number at ys n d later found)
      ] refl is

  -- what is asked for of the rest of a list, from the number k on
  asked_in : (all : List D) (numbers : List ℕ) (k : ℕ) (rest : List D) → ((i : ℕ) → slice_get all (k + i) ≡ slice_get rest i)
      → (d : D) → In d (asked_among (stands numbers) k rest) → In d (filter_map (slice_get all) numbers)
  asked_in all numbers k [] at d none = absurd none
  asked_in all numbers k (x ∷ xs) at d there =
      let later : (i : ℕ) → slice_get all ((k + 1) + i) ≡ slice_get xs i =
      λ i. let e : (k + 1) + i ≡ k + suc i = omega arith in ap (slice_get all) e ∙ at (suc i) in
      let first : slice_get all k ≡ Some x = let e : k ≡ k + 0 = omega arith in ap (slice_get all) e ∙ at 0 in
      elim (stands numbers k) as (λ b. stands numbers k ≡ b
      → In d (cond b (x ∷ asked_among (stands numbers) (k + 1) xs) (asked_among (stands numbers) (k + 1) xs))
      → In d (filter_map (slice_get all) numbers)) [
        | true ↦ λ is inside. elim inside [
          | inl same ↦ has_number (slice_get all) numbers k d is (let e : Some x ≡ Some d = cc in first ∙ e)
          | inr behind ↦ asked_in all numbers (k + 1) xs later d behind
        ]
        | false ↦ λ is inside. asked_in all numbers (k + 1) xs later d inside
      ] refl there

-- the demands that are asked for by their numbers
pub asked_at : (problem : Problem) (numbers : List ℕ) (d : Demand) → Contains (asked_demands problem (stands numbers)) d
    → Contains (demands_at problem numbers) d
asked_at problem numbers d there =
    In-contains (demands_at problem numbers) d
    (asked_in (demands problem) numbers 0 (demands problem) (λ i. let e : 0 + i ≡ i = omega arith in ap (slice_get (demands problem)) e) d
    (contains-In (asked_demands problem (stands numbers)) d there))
