-- A demand is among some where it stands in their list.
use Rattle.std.proofs.Common.{◌≡◌, refl, ap, subst, true, false, ◌||◌, ◌==◌, List, [], ◌∷◌, inl, inr}
use Rattle.std.specs.List.{list_any}
use Rattle.std.specs.Str.{bytes_eq}
use Rattle.std.proofs.lemmas.Bool.{and_parts, and_from, eq-eqb, eqb-true, or_cases}
use Rattle.problem.specs.declared.demand.Demand.{Demand}
use Rattle.problem.specs.declared.demand.Demand.TheVariants as demand
use Rattle.graph_rules.specs.Verdict.{same_demand, is_among}
use Rattle.graph_rules.proofs.Lists.{In, bytes_eq-same, bytes_eq-itself}

same_demand-is : (d e : Demand) → same_demand d e ≡ true → d ≡ e
same_demand-is (demand.Root place) (demand.Root other) h = ap demand.Root (eqb-true place other h)
same_demand-is (demand.Root place) (demand.Directive name number) h = absurd cc
same_demand-is (demand.Root place) (demand.Setting name number) h = absurd cc
same_demand-is (demand.Directive name number) (demand.Root place) h = absurd cc
same_demand-is (demand.Directive name number) (demand.Setting other k) h = absurd cc
same_demand-is (demand.Setting name number) (demand.Root place) h = absurd cc
same_demand-is (demand.Setting name number) (demand.Directive other k) h = absurd cc
same_demand-is (demand.Directive name number) (demand.Directive other k) h =
    let parts = and_parts (bytes_eq name other) (number == k) h in
    let first = bytes_eq-same name other parts.0 in
    let second = eqb-true number k parts.1 in
    λ i. demand.Directive (first i) (second i)
same_demand-is (demand.Setting name number) (demand.Setting other k) h =
    let parts = and_parts (bytes_eq name other) (number == k) h in
    let first = bytes_eq-same name other parts.0 in
    let second = eqb-true number k parts.1 in
    λ i. demand.Setting (first i) (second i)

same_demand-itself : (d : Demand) → same_demand d d ≡ true
same_demand-itself (demand.Root place) = eq-eqb place place refl
same_demand-itself (demand.Directive name number) = and_from _ _ (bytes_eq-itself name) (eq-eqb number number refl)
same_demand-itself (demand.Setting name number) = and_from _ _ (bytes_eq-itself name) (eq-eqb number number refl)

pub among-in : (asked : List Demand) (d : Demand) → is_among asked d ≡ true → In d asked
among-in [] d h = absurd cc
among-in (e ∷ asked) d h = elim (or_cases (same_demand d e) (is_among asked d) h) as (λ _. In d (e ∷ asked)) [
  | inl is ↦ inl (same_demand-is d e is)
  | inr later ↦ inr (among-in asked d later)
]

pub in-among : (asked : List Demand) (d : Demand) → In d asked → is_among asked d ≡ true
in-among [] d none = absurd none
in-among (e ∷ asked) d (inl same) = subst (λ f. list_any (same_demand d) (f ∷ asked) ≡ true) same (rw (same_demand-itself d) refl)
in-among (e ∷ asked) d (inr later) = elim (same_demand d e) as (λ b. (b || is_among asked d) ≡ true) [
  | true ↦ refl
  | false ↦
      in-among asked d later
]
