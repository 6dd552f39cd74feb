-- Terms of formulas that are below a variable are: lists, weights, parts and edges.
use Prim.Native.Nat.{suc, zero}
use Rattle.std.proofs.Common.{sym, subst, Bool, true, false, ℕ, ◌*◌, ◌^◌, List, [], ◌∷◌, ◌++◌, map, flat_map, inl, inr, Contains}
use Rattle.std.specs.Prelude.{if◌then◌else◌, nat_lt}
use Rattle.std.specs.List.{list_all, list_any}
use Rattle.std.proofs.lemmas.Bool.{cases_Bool}
use Rattle.std.proofs.lemmas.List.Concat.{flat_map-cons}
use Rattle.reachability.proofs.CountLaws.{has_first, has_later}
use Rattle.clause_circuits.specs.Binary.{size}
use Rattle.clause_formulas.specs.Statements.{Statement, atom, never, no, both_statements, SaidBelow}
use Rattle.clause_formulas.proofs.Words.{all_of-below}
use Rattle.graph_core.specs.declared.node.Origin.{Origin}
use Rattle.literal_table.specs.Choices.{Choices, any_choice}
use Rattle.cost_terms.specs.declared.weighted.Weighted.{Weighted}
use Rattle.cost_terms.specs.Weighed.{WeighedBelow}
use Rattle.cost_terms.specs.Spread.{weighed_choices, is_odd, half_of, digit_terms, plain_terms, greatest, spread_terms}
use Rattle.cost_terms.specs.Parts.{is_of, part_said, only_where, in_part}
use Rattle.problem.specs.Nodes.{builds}
use Rattle.cost_terms.specs.Differ.{filled_said, same_said, can_differ, differ_terms}
use Rattle.literal_table.specs.Ranges.{AreBelow}

module _ (n : ℕ) where
  pub wb-append : (ts us : List Weighted) → WeighedBelow n ts → WeighedBelow n us → WeighedBelow n (ts ++ us)
  wb-append [] us a b = b
  wb-append (t ∷ ts) us a b = (a.0, wb-append ts us a.1 b)

  pub wb-flat : {X : Type 0} (g : X → List Weighted) (xs : List X) → ((x : X) → Contains xs x → WeighedBelow n (g x))
      → WeighedBelow n (flat_map g xs)
  wb-flat g [] each = tt
  wb-flat g (x ∷ xs) each = subst (WeighedBelow n) (sym (flat_map-cons g x xs))
      (wb-append (g x) (flat_map g xs) (each x (has_first x xs)) (wb-flat g xs (λ y h. each y (has_later x xs y h))))

  pub either-below : (b : Bool) (ts us : List Weighted) → WeighedBelow n ts → WeighedBelow n us → WeighedBelow n (if b then ts else us)
  either-below true ts us h k = h
  either-below false ts us h k = k

  pub any-below : {T : Type 0} (test : T → Bool) (cs : Choices T) → AreBelow n cs → SaidBelow n (any_choice test cs)
  any-below test [] b = tt
  any-below test (c ∷ cs) b = elim (cases_Bool (test c.0)) [
    | inl t ↦ rw t (b.0, any-below test cs b.1)
    | inr f ↦
        rw f (any-below test cs b.1)
  ]

  pub both-below : (f g : Statement) → SaidBelow n f → SaidBelow n g → SaidBelow n (both_statements f g)
  both-below f g a b = all_of-below n (f ∷ g ∷ []) (a, (b, tt))

  weighed-below : {T : Type 0} (weight : T → ℕ) (cs : Choices T) → AreBelow n cs → AreBelow n (weighed_choices weight cs)
  weighed-below weight [] b = tt
  weighed-below weight (c ∷ cs) b = (b.0, weighed-below weight cs b.1)

  digits-below : (more unit : ℕ) (cs : Choices ℕ) → AreBelow n cs → WeighedBelow n (digit_terms more unit cs)
  digits-below zero unit cs b = tt
  digits-below (suc more) unit cs b =
      (any-below is_odd cs b, digits-below more (2 * unit) (weighed_choices half_of cs) (weighed-below half_of cs b))

  plain-below : (cs : Choices ℕ) → AreBelow n cs → WeighedBelow n (plain_terms cs)
  plain-below [] b = tt
  plain-below (c ∷ cs) b = (b.0, plain-below cs b.1)

  spread-below : (cs : Choices ℕ) → AreBelow n cs → WeighedBelow n (spread_terms cs)
  unfolding spread_terms
  spread-below cs b = either-below (nat_lt (greatest cs) (2 ^ 63)) _ _ (digits-below (size (greatest cs)) 1 cs b) (plain-below cs b)

  pub weight-below : {T : Type 0} (weight : T → ℕ) (cs : Choices T) → AreBelow n cs → WeighedBelow n (spread_terms (weighed_choices weight cs))
  weight-below weight cs b = spread-below (weighed_choices weight cs) (weighed-below weight cs b)

  -- ---- parts

  part-below : (built : Bool) (origins : Choices Origin) → AreBelow n origins → SaidBelow n (part_said built origins)
  part-below true origins b = any-below builds origins b
  part-below false origins b = any-below builds origins b

  where-below : (part : Statement) (ts : List Weighted) → SaidBelow n part → WeighedBelow n ts → WeighedBelow n (map (only_where part) ts)
  where-below part [] p b = tt
  where-below part (t ∷ ts) p b = (both-below part t.formula p b.0, where-below part ts p b.1)

  pub in_part-below : (built : Bool) (origins : Choices Origin) (ts : List Weighted) → AreBelow n origins → WeighedBelow n ts
      → WeighedBelow n (in_part built origins ts)
  unfolding in_part
  in_part-below built origins ts o b = either-below (list_all (λ c. is_of built c.0) origins) _ _ b
      (either-below (list_any (λ c. is_of built c.0) origins) _ _ (where-below (part_said built origins) ts (part-below built origins o) b)
      tt)

  -- ---- edges

  module _ {T : Type 0} (filled : T → Bool) (same : T → T → Bool) where
    filled-below : (xs : Choices T) → AreBelow n xs → SaidBelow n (filled_said filled same xs)
    filled-below xs b = filled-below-cases (list_all (λ x. filled x.0) xs)
      where
        filled-below-cases : (a : Bool) → SaidBelow n (if a then no never else any_choice filled xs)
        filled-below-cases true = tt
        filled-below-cases false = any-below filled xs b

    same-below : (xs ys : Choices T) → AreBelow n xs → AreBelow n ys → SaidBelow n (same_said filled same xs ys)
    same-below [] ys a b = tt
    same-below (x ∷ xs) ys a b = (both-below (atom x.1) (any_choice (same x.0) ys) a.0 (any-below (same x.0) ys b), same-below xs ys a.1 b)

    pub differ-below : (there : Statement) (xs ys : Choices T) → SaidBelow n there → AreBelow n xs → AreBelow n ys
        → WeighedBelow n (differ_terms filled same there xs ys)
    differ-below there xs ys t a b = either-below (can_differ filled same xs ys) _ _ (
      all_of-below n (there ∷ filled_said filled same xs ∷ filled_said filled same ys ∷ no (same_said filled same xs ys) ∷ [])
          (t, (filled-below xs a, (filled-below ys b, (same-below xs ys a b, tt)))),
      tt,
    )
        tt
