-- Terms of the nodes to build, and of the others.
use Rattle.std.proofs.Common.{◌≡◌, refl, ap, ◌∙◌, Bool, true, false, not, ◌&&◌, ◌||◌, ℕ, ◌+◌, ◌*◌, List, [], ◌∷◌, map, inl, inr, arith}
use Rattle.std.specs.Prelude.{if◌then◌else◌}
use Rattle.std.specs.List.{list_any, list_all}
use Rattle.std.proofs.lemmas.Bool.{cases_Bool, and_parts}
use Rattle.clause_store.specs.Lits.{lit_true}
use Rattle.clause_circuits.specs.Cells.{bit}
use Rattle.clause_formulas.specs.Statements.{Statement, eval, opposite, no, any_statement}
use Rattle.clause_formulas.proofs.Words.{eval-both}
use Rattle.graph_core.specs.declared.node.Origin.{Origin}
use Rattle.literal_table.specs.Choices.{Choices, chosen}
use Rattle.literal_table.proofs.Choices.{any-chosen}
use Rattle.cost_terms.specs.declared.weighted.Weighted.{Weighted}
use Rattle.cost_terms.specs.Weighed.{sum_said}
use Rattle.cost_terms.specs.Parts.{is_of, part_said, only_where, in_part}
use Rattle.problem.specs.Nodes.{builds}
use Rattle.cost_terms.proofs.SpreadLaws.{said-cons}

-- some of one element
pub or-false : {T : Type 0} (f : T → Bool) (x : T) → list_any f (x ∷ []) ≡ f x
or-false f x = or-false-cases (f x)
  where
    or-false-cases : (b : Bool) → list_any (λ (c : Bool). c) (b ∷ []) ≡ b
    or-false-cases true = refl
    or-false-cases false = refl

module _ (v : ℕ → Bool) where
  -- what is chosen is offered
  pub chosen-any : {T : Type 0} (test : T → Bool) (choices : Choices T) (x : T) → chosen v choices ≡ x ∷ []
      → list_any (λ c. test c.0) choices ≡ false
      → test x ≡ false
  chosen-any test [] x is h = absurd (cc)
  chosen-any test (c ∷ cs) x is h = elim (cases_Bool (lit_true v c.1)) [
    | inl l ↦ (let first : c.0 ∷ chosen v cs ≡ x ∷ [] = rw l at is in let same : c.0 ≡ x = cc in rw (← same) (or-first (test c.0) _ h))
    | inr l ↦ (let rest : chosen v cs ≡ x ∷ [] = rw l at is in chosen-any test cs x rest (or-second (test c.0) _ h))
  ]
    where
      or-first : (a b : Bool) → (a || b) ≡ false → a ≡ false
      or-first false b h = refl
      or-first true b h = absurd (cc)

      or-second : (a b : Bool) → (a || b) ≡ false → b ≡ false
      or-second false b h = h
      or-second true b h = absurd (cc)

  -- what all choices pass, the chosen one passes
  pub chosen-all : {T : Type 0} (test : T → Bool) (choices : Choices T) (x : T) → chosen v choices ≡ x ∷ []
      → list_all (λ c. test c.0) choices ≡ true
      → test x ≡ true
  chosen-all test [] x is h = absurd (cc)
  chosen-all test (c ∷ cs) x is h = elim (cases_Bool (lit_true v c.1)) [
    | inl l ↦ (let first : c.0 ∷ chosen v cs ≡ x ∷ [] = rw l at is in let same : c.0 ≡ x = cc in rw (← same) ((and_parts (test c.0) _ h).0))
    | inr l ↦ (let rest : chosen v cs ≡ x ∷ [] = rw l at is in chosen-all test cs x rest ((and_parts (test c.0) _ h).1))
  ]

  where-is : (part : Statement) (ts : List Weighted) → sum_said v (map (only_where part) ts) ≡ (if eval v part then sum_said v ts else 0)
  where-is part [] = elim (cases_Bool (eval v part)) [ inl h ↦ rw h refl | inr h ↦ rw h refl ]
  where-is part (t ∷ ts) =
      said-cons v (only_where part t) (map (only_where part) ts)
      ∙ rw (where-is part ts, eval-both v part t.formula, said-cons v t ts)
      (by-part (eval v part) (eval v t.formula) t.weight (sum_said v ts))
    where
      by-part : (a b : Bool) (w n : ℕ) → w * bit (a && b) + (if a then n else 0) ≡ (if a then w * bit b + n else 0)
      by-part true b w n = refl
      by-part false b w n = omega arith

  part-is : (built : Bool) (origins : Choices Origin) (x : Origin) → chosen v origins ≡ x ∷ []
      → eval v (part_said built origins) ≡ is_of built x
  part-is true origins x is = any-chosen v builds origins ∙ ap (list_any builds) is ∙ or-false builds x
  part-is false origins x is = ap not (any-chosen v builds origins ∙ ap (list_any builds) is ∙ or-false builds x)

  zero-either : (b : Bool) (n : ℕ) → n ≡ 0 → (if b then n else 0) ≡ 0
  zero-either true n e = e
  zero-either false n e = refl

  -- where there is no node, and nothing is added
  pub in_part-none : (built : Bool) (origins : Choices Origin) (ts : List Weighted) → sum_said v ts ≡ 0
      → sum_said v (in_part built origins ts) ≡ 0
  unfolding in_part
  in_part-none built origins ts none = elim (cases_Bool (list_all (λ c. is_of built c.0) origins)) [
    | inl whole ↦ rw whole none
    | inr some ↦ elim (cases_Bool (list_any (λ c. is_of built c.0) origins)) [
      | inl can ↦ rw (some, can) (where-is (part_said built origins) ts ∙ zero-either _ _ none)
      | inr cannot ↦ rw (some, cannot) refl
    ]
  ]

  -- where there is one: its terms count in its own part
  pub in_part-some : (built : Bool) (origins : Choices Origin) (x : Origin) (ts : List Weighted) → chosen v origins ≡ x ∷ []
      → sum_said v (in_part built origins ts) ≡ (if is_of built x then sum_said v ts else 0)
  unfolding in_part
  in_part-some built origins x ts is = elim (cases_Bool (list_all (λ c. is_of built c.0) origins)) [
    | inl whole ↦ rw (whole, chosen-all (is_of built) origins x is whole) refl
    | inr some ↦ elim (cases_Bool (list_any (λ c. is_of built c.0) origins)) [
      | inl can ↦ rw (some, can) (where-is (part_said built origins) ts ∙ rw (part-is built origins x is) refl)
      | inr cannot ↦ rw (some, cannot, chosen-any (is_of built) origins x is cannot) refl
    ]
  ]

-- none of some formulas
pub opposite-any : (fs : List Statement) → opposite (any_statement fs) ≡ no (any_statement fs)
opposite-any [] = refl
opposite-any (f ∷ fs) = refl
